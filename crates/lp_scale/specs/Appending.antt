-- Rows that are put behind a table, and the sides of its rows.
use Rattle.std.specs.Prelude.{◌≤ℤ◌, All, ℕ, suc, ℤ, pos, ◌+ℤ◌, Bool, true, false, List, [], ◌∷◌, ◌++◌, length, slice_set, Option, Some, None}
use Rattle.std.specs.Option.{option_map, option_and_then, is_some}
use Rattle.base_num.specs.Sums.{entry}
use Rattle.lp_program.specs.declared.fixed.Fx.{Fx}
use Rattle.lp_program.specs.declared.programs.LpRow.{LpRow}
use Rattle.lp_table.specs.declared.table.Bounds.{Bounds}
use Rattle.lp_table.specs.declared.table.WarmTable.{WarmTable}
use Rattle.base_num.specs.Each.{each_from}
use Rattle.lp_scale.specs.declared.sides.Sides.{Sides}
use Rattle.lp_scale.specs.Walks.{run}
use Rattle.lp_scale.specs.Spans.{span_of}
use Rattle.lp_scale.specs.Exponents.{ColumnTerm, weight_of}
use Rattle.lp_scale.specs.Scaling.{room, scaled_quantity, scaled_cell}

-- a side times 2^k, 0 where there is none
abbrev pub scaled_side : ℤ → Option Fx → Option ℤ
scaled_side k None = Some (pos 0)
scaled_side k (Some x) = scaled_quantity x k

-- both sides of a row
unfoldable pub scaled_sides : ℤ → LpRow → Option Sides
scaled_sides k r =
    option_and_then (λ low. option_map (λ up. record { low = low; up = up; has_low = is_some r.low; has_up = is_some r.high }) (scaled_side k r.high)) (scaled_side k r.low)

-- with the sides of the row whose slack is v
abbrev pub with_slack_sides : ℕ → Sides → Bounds → Bounds
with_slack_sides v s b = record { lows = slice_set b.lows v s.low; ups = slice_set b.ups v s.up; has_low = slice_set b.has_low v s.has_low; has_up = slice_set b.has_up v s.has_up }

-- whether all sides were set, and the bounds with those that were
abbrev pub Sided : Type 0
Sided = Bool × Bounds

-- on with the next rows, where the sides of this one are there
abbrev pub sided_by : (Bounds → Sided) → Bounds → ℕ → Option Sides → Sided
sided_by next b v None = (false, b)
sided_by next b v (Some s) = next (with_slack_sides v s b)

-- the sides of the rows from row i on, of which row i has slack v; h is the exponent of values. The first row with
-- a side that leaves its range ends it: that row and those after it stay as they were
abbrev pub sided_from : List ℤ → ℤ → ℕ → ℕ → List LpRow → Bounds → Sided
sided_from es h i v [] b = (true, b)
sided_from es h i v (r ∷ rs) b = sided_by (sided_from es h (suc i) (suc v) rs) b v (scaled_sides (entry es i +ℤ h) r)

-- the sides of all rows of a program
unfoldable pub sided : WarmTable → List LpRow → Sided
sided t rows = sided_from t.scales.rows t.scales.values 0 (length t.costs) rows t.bounds

abbrev pub with_bounds : Bounds → WarmTable → WarmTable
with_bounds b t = record t { bounds = b }

-- the exponent of a row, by which its terms are at most 2^32 before they are scaled to cells
unfoldable pub row_scale : List ℤ → List ColumnTerm → ℤ
row_scale fs ts = room (pos 32) (span_of (λ k t. Some (weight_of fs t)) ts)

-- a term of a row with the exponent e, scaled
unfoldable pub scaled_term : List ℤ → ℤ → ColumnTerm → Option (ℕ × ℤ)
scaled_term fs e t = option_map (λ a. (t.0, a)) (scaled_cell t.1 (e +ℤ entry fs t.0 +ℤ pos 8))

unfoldable pub scaled_terms : List ℤ → ℤ → List ColumnTerm → Option (List (ℕ × ℤ))
scaled_terms fs e ts = each_from (λ k t. scaled_term fs e t) 0 ts

-- with one row more, whose slack is basic
abbrev pub with_appended_row : ℤ → List (ℕ × ℤ) → Sides → WarmTable → WarmTable
with_appended_row e ts s t = record t {
  scales = record t.scales { rows = t.scales.rows ++ e ∷ [] };
  rows = t.rows ++ ts ∷ [];
  bounds = record { lows = t.bounds.lows ++ s.low ∷ []; ups = t.bounds.ups ++ s.up ∷ []; has_low = t.bounds.has_low ++ s.has_low ∷ []; has_up = t.bounds.has_up ++ s.has_up ∷ [] };
  basis = record t.basis { places = t.basis.places ++ None ∷ [] };
}

-- with one row of a program more, which gets the exponent e; absent where a number leaves its range
abbrev pub appending_step : ℤ → LpRow → WarmTable → Option WarmTable
appending_step e r t = option_and_then (λ ts. option_map (λ s. with_appended_row e ts s t) (scaled_sides (e +ℤ t.scales.values) r)) (scaled_terms t.scales.columns e r.terms)

unfoldable pub appended_row : LpRow → WarmTable → Option WarmTable
appended_row r t = appending_step (row_scale t.scales.columns r.terms) r t

-- with the last row known as that of a cut, which is the program's row i
abbrev pub with_cut : ℕ → WarmTable → WarmTable
with_cut i t = record t { cuts = record { rows = t.cuts.rows ++ i ∷ []; waiting = t.cuts.waiting } }

-- with the row of a cut more, which is the program's row i
unfoldable pub appended_cut : ℕ → LpRow → WarmTable → Option WarmTable
appended_cut i r t = option_map (with_cut i) (appended_row r t)

-- with some rows more, one after the other
abbrev pub appended : List LpRow → WarmTable → Option WarmTable
appended rows t = run (λ i r s. appended_row r s) 0 rows t

-- with the exponent e the terms have at most 32 binary digits
abbrev pub AreBelow : List ℤ → ℤ → List ColumnTerm → Type 0
AreBelow fs e ts = All (λ (t : ColumnTerm). (e +ℤ weight_of fs t) ≤ℤ pos 32) ts
