-- WideRows that are put behind a table.
use Rattle.std.specs.Prelude.{ℕ, ℤ, pos, ◌+ℤ◌, List, [], ◌∷◌, ◌++◌, Option, Some, None}
use Rattle.std.specs.Option.{option_map, option_and_then, is_some}
use Rattle.base_num.specs.Sums.{entry}
use Rattle.lp_program.specs.declared.fixed.Fx.{Fx}
use Rattle.lp_program.specs.declared.programs.LpRow.{LpRow}
use Rattle.base_num.specs.Each.{each_from}
use Rattle.lp_scale.specs.Walks.{run}
use Rattle.lp_scale.specs.Exponents.{ColumnTerm}
use Rattle.lp_scale.specs.Appending.{row_scale}
use Rattle.lp_wide_table.specs.Scaling.{wide_scaled_quantity, wide_scaled_cell}
use Rattle.lp_wide_table.specs.declared.table.WideTable.{WideTable}
use Rattle.lp_wide_table.specs.declared.appending.WideSides.{WideSides}

-- a side times 2^k, 0 where there is none
abbrev pub wide_scaled_side : ℤ → Option Fx → Option ℤ
wide_scaled_side k None = Some (pos 0)
wide_scaled_side k (Some x) = wide_scaled_quantity x k

-- both sides of a row
unfoldable pub wide_scaled_sides : ℤ → LpRow → Option WideSides
wide_scaled_sides k r =
    option_and_then (λ low. option_map (λ up. record { low = low; up = up; has_low = is_some r.low; has_up = is_some r.high }) (wide_scaled_side k r.high)) (wide_scaled_side k r.low)

-- a term of a row with the exponent e, scaled
unfoldable pub wide_scaled_term : List ℤ → ℤ → ColumnTerm → Option (ℕ × ℤ)
wide_scaled_term fs e t = option_map (λ a. (t.0, a)) (wide_scaled_cell t.1 (e +ℤ entry fs t.0 +ℤ pos 48))

unfoldable pub wide_scaled_terms : List ℤ → ℤ → List ColumnTerm → Option (List (ℕ × ℤ))
wide_scaled_terms fs e ts = each_from (λ k t. wide_scaled_term fs e t) 0 ts

-- with one row more, whose slack is basic
abbrev pub wide_with_appended_row : ℤ → List (ℕ × ℤ) → WideSides → WideTable → WideTable
wide_with_appended_row e ts s t = record t {
  scales = record t.scales { rows = t.scales.rows ++ e ∷ [] };
  rows = t.rows ++ ts ∷ [];
  bounds = record { lows = t.bounds.lows ++ s.low ∷ []; ups = t.bounds.ups ++ s.up ∷ []; has_low = t.bounds.has_low ++ s.has_low ∷ []; has_up = t.bounds.has_up ++ s.has_up ∷ [] };
  basis = record t.basis { places = t.basis.places ++ None ∷ [] };
}

-- with one row of a program more, which gets the exponent e; absent where a number leaves its range
abbrev pub wide_appending_step : ℤ → LpRow → WideTable → Option WideTable
wide_appending_step e r t = option_and_then (λ ts. option_map (λ s. wide_with_appended_row e ts s t) (wide_scaled_sides (e +ℤ t.scales.values +ℤ pos 32) r)) (wide_scaled_terms t.scales.columns e r.terms)

unfoldable pub wide_appended_row : LpRow → WideTable → Option WideTable
wide_appended_row r t = wide_appending_step (row_scale t.scales.columns r.terms) r t

-- with some rows more, one after the other
abbrev pub wide_appended : List LpRow → WideTable → Option WideTable
wide_appended rows t = run (λ i r s. wide_appended_row r s) 0 rows t
