-- The answer by a table in which no bound is violated.
use Rattle.std.specs.Prelude.{ℕ, ◌^◌, ◌+◌, ℤ, pos, ◌+ℤ◌, ◌-ℤ◌, ◌*ℤ◌, false, List, get_or, slice_set, length, Option, Some, None, int_lt, if◌then◌else◌}
use Rattle.std.specs.Option.{option_map, option_and_then}
use Rattle.base_num.specs.Sums.{entry, floor_over}
use Rattle.lp_program.specs.declared.fixed.Fx.{Fx}
use Rattle.lp_program.specs.declared.programs.Column.{Column}
use Rattle.lp_program.specs.declared.programs.LpRow.{LpRow}
use Rattle.lp_program.specs.declared.programs.Program.{Program}
use Rattle.lp_program.specs.declared.programs.Answer.{Answer}
use Rattle.lp_program.specs.declared.programs.Kind.TheVariants as kinds
use Rattle.lp_program.specs.Numbers.{number, zero_fx, held}
use Rattle.lp_table.specs.declared.table.WarmTable.{WarmTable}
use Rattle.lp_table.specs.Numbers.{shift_of}
use Rattle.base_num.specs.Each.{each_from}
use Rattle.lp_price.specs.Folds.{fold_from}
use Rattle.lp_price.specs.Padded.{padded_numbers}
use Rattle.lp_price.specs.Proves.{own_rows}

-- the place of a variable, none where it is basic
abbrev pub place_of_variable : WarmTable → ℕ → Option ℕ
place_of_variable t v = get_or t.basis.places v None

-- the nearest multiple of 2^8, halves up; none where a result leaves 128 bits
unfoldable pub rounded : ℤ → Option ℤ
rounded x = option_and_then (λ s. held (floor_over s (2 ^ 8) *ℤ pos (2 ^ 8))) (held (x +ℤ pos (2 ^ 7)))

-- max(low, min(high, x))
unfoldable pub clamped_value : Column → ℤ → Fx
clamped_value c x = if int_lt x c.low.0 then c.low else (if int_lt c.high.0 x then c.high else number x)

-- a basic column has its value, no longer scaled, as a multiple of 2^8 in its box
unfoldable pub basic_point : WarmTable → ℕ → Column → Option Fx
basic_point t v c = option_map (clamped_value c) (option_and_then rounded (shift_of (entry t.values v) (entry t.scales.columns v -ℤ t.scales.values)))

-- a nonbasic one, at place j, has its bound in the program
abbrev pub bound_point : WarmTable → Column → ℕ → Fx
bound_point t c j = if get_or t.basis.high j false then c.high else c.low

abbrev pub point_by : WarmTable → ℕ → Column → Option ℕ → Option Fx
point_by t v c None = basic_point t v c
point_by t v c (Some j) = Some (bound_point t c j)

-- the value of column v
abbrev pub point_value_at : WarmTable → ℕ → Column → Option Fx
point_value_at t v c = point_by t v c (place_of_variable t v)

-- the reduced cost at place j, no longer scaled, is the dual of row i
unfoldable pub slack_dual : WarmTable → ℕ → ℕ → Option Fx
slack_dual t i j = option_map number (shift_of (entry t.reduced j) ((entry t.scales.rows i -ℤ t.scales.costs) -ℤ pos 8))

abbrev pub dual_by : WarmTable → ℕ → Option ℕ → Option Fx
dual_by t i None = Some zero_fx
dual_by t i (Some j) = slack_dual t i j

-- the dual of row i of the table, 0 where its slack is basic
unfoldable pub dual_at : WarmTable → ℕ → Option Fx
dual_at t i = dual_by t i (place_of_variable t (length t.costs + i))

-- the value of each column
unfoldable pub points_of : WarmTable → Program → Option (List Fx)
points_of t lp = each_from (point_value_at t) 0 lp.columns

-- the duals of the program's own rows
abbrev pub own_duals : WarmTable → Program → Option (List Fx)
own_duals t lp = each_from (λ i (r : LpRow). dual_at t i) 0 (own_rows lp)

-- the duals, of which that of a row of the program is now the one of row i of the table
unfoldable pub dual_step : WarmTable → ℕ → List Fx → ℕ → Option (List Fx)
dual_step t i ys row = option_map (λ y. slice_set ys row y) (dual_at t i)

-- a dual for each row of the program: 0 for a cut without a row in the table
unfoldable pub duals_of : WarmTable → Program → Option (List Fx)
duals_of t lp = option_and_then (λ ys. fold_from (dual_step t) lp.own (padded_numbers (length lp.rows) ys) t.cuts.rows) (own_duals t lp)

abbrev pub found_with : List Fx → List Fx → Answer
found_with point duals = record { kind = kinds.Found; point = point; duals = duals }

-- none where a number on the way leaves 128 bits
unfoldable pub found_answer : WarmTable → Program → Option Answer
found_answer t lp = option_and_then (λ point. option_map (found_with point) (duals_of t lp)) (points_of t lp)
