-- The answer by a table in which no bound is violated.
use Rattle.std.specs.Prelude.{ℕ, ◌^◌, ◌+◌, ℤ, pos, ◌-ℤ◌, ◌*ℤ◌, false, List, get_or, length, Option, Some, None, if◌then◌else◌}
use Rattle.std.specs.Option.{option_map, option_and_then}
use Rattle.base_num.specs.Sums.{entry, floor_over}
use Rattle.lp_program.specs.declared.fixed.Fx.{Fx}
use Rattle.lp_program.specs.declared.programs.Column.{Column}
use Rattle.lp_program.specs.declared.programs.LpRow.{LpRow}
use Rattle.lp_program.specs.declared.programs.Program.{Program}
use Rattle.lp_program.specs.declared.programs.Answer.{Answer}
use Rattle.lp_program.specs.declared.programs.Kind.TheVariants as kinds
use Rattle.lp_program.specs.Numbers.{number, zero_fx}
use Rattle.base_num.specs.Each.{each_from}
use Rattle.lp_wide_table.specs.WideWhole.{held_wide}
use Rattle.lp_price.specs.Found.{clamped_value}
use Rattle.lp_wide_table.specs.Numbers.{sum_of, wide_shift_of}
use Rattle.lp_wide_table.specs.declared.table.WideTable.{WideTable}
use Rattle.lp_wide.specs.Finish.{wide_dual_of, wide_reduced_costs_of}

-- the place of a variable, none where it is basic
abbrev pub wide_place_of_variable : WideTable → ℕ → Option ℕ
wide_place_of_variable t v = get_or t.basis.places v None

-- the nearest multiple of 2^8, halves up; none where 128 bits do not hold it
unfoldable pub wide_rounded : ℤ → Option ℤ
wide_rounded x = option_map (λ s. floor_over s (2 ^ 8) *ℤ pos (2 ^ 8)) (option_and_then (held_wide 127) (sum_of x (pos (2 ^ 7))))

-- a basic column has its value, no longer scaled, as a multiple of 2^8 in its box
unfoldable pub wide_basic_point : WideTable → ℕ → Column → Option Fx
wide_basic_point t v c = option_map (clamped_value c) (option_and_then wide_rounded (wide_shift_of (entry t.values v) (entry t.scales.columns v -ℤ t.scales.values -ℤ pos 32)))

-- a nonbasic one, at place j, has its bound in the program
abbrev pub wide_bound_point : WideTable → Column → ℕ → Fx
wide_bound_point t c j = if get_or t.basis.high j false then c.high else c.low

abbrev pub wide_point_by : WideTable → ℕ → Column → Option ℕ → Option Fx
wide_point_by t v c None = wide_basic_point t v c
wide_point_by t v c (Some j) = Some (wide_bound_point t c j)

-- the value of column v
abbrev pub wide_point_value_at : WideTable → ℕ → Column → Option Fx
wide_point_value_at t v c = wide_point_by t v c (wide_place_of_variable t v)

-- the dual of the row i, whose slack v has the reduced cost d, no longer scaled; none where 128 bits do not hold it
unfoldable pub wide_slack_dual : WideTable → ℕ → ℕ → ℤ → Option Fx
wide_slack_dual t i v d = option_map number (option_and_then (held_wide 127) (wide_shift_of (wide_dual_of t v d) (entry t.scales.rows i -ℤ t.scales.costs -ℤ pos 48)))

abbrev pub wide_dual_by : WideTable → ℕ → ℕ → Option ℕ → Option Fx
wide_dual_by t i v None = Some zero_fx
wide_dual_by t i v (Some j) = wide_slack_dual t i v (entry t.reduced j)

-- the dual of row i, 0 where its slack is basic
abbrev pub wide_dual_at : WideTable → ℕ → LpRow → Option Fx
wide_dual_at t i r = wide_dual_by t i (length t.costs + i) (wide_place_of_variable t (length t.costs + i))

abbrev pub wide_found_with : List Fx → List Fx → Answer
wide_found_with point duals = record { kind = kinds.Found; point = point; duals = duals }

-- none where a number on the way leaves 128 bits
unfoldable pub wide_found_answer : WideTable → Program → Option Answer
wide_found_answer t lp = option_and_then (λ point. option_map (wide_found_with point) (each_from (wide_dual_at t) 0 lp.rows)) (each_from (wide_point_value_at t) 0 lp.columns)

-- the answer, none where a reduced cost is no cell
unfoldable pub finished_of : WideTable → Program → Option Answer
finished_of t lp = option_and_then (λ costs. wide_found_answer t lp) (wide_reduced_costs_of t)
