-- The multipliers of own rows by which a variable that nothing brings back to its bound shows that no point keeps these rows.
use Rattle.std.specs.Prelude.{ℕ, suc, ◌^◌, ◌+◌, ◌==◌, ℤ, pos, neg_ℤ, ◌+ℤ◌, ◌-ℤ◌, Bool, List, [], ◌∷◌, length, take, Option, Some, None, int_lt, if◌then◌else◌}
use Rattle.std.specs.Option.{option_map, option_and_then}
use Rattle.base_num.specs.Sums.{entry}
use Rattle.lp_program.specs.declared.fixed.Fx.{Fx}
use Rattle.lp_program.specs.declared.programs.LpRow.{LpRow}
use Rattle.lp_program.specs.declared.programs.Program.{Program}
use Rattle.lp_program.specs.declared.programs.Answer.{Answer}
use Rattle.lp_program.specs.declared.programs.Kind.TheVariants as kinds
use Rattle.lp_program.specs.Numbers.{number}
use Rattle.lp_program.specs.Answers.{lows_of}
use Rattle.base_num.specs.Each.{each_from}
use Rattle.lp_wide_table.specs.WideWhole.{held_wide}
use Rattle.lp_table.specs.Numbers.{bits_of}
use Rattle.lp_price.specs.Proves.{clipped, proves}
use Rattle.lp_wide_table.specs.Numbers.{wide_shift_of}
use Rattle.lp_wide_table.specs.declared.table.WideTable.{WideTable}
use Rattle.lp_wide.specs.Found.{wide_place_of_variable}

-- 1, at scale 2^80, of a variable that is below its bound; -1 of one that is above
abbrev pub wide_own_factor : Bool → ℤ
wide_own_factor above = if above then neg_ℤ (pos (2 ^ 80)) else pos (2 ^ 80)

-- a cell of the line, with the other sign where the variable is below
abbrev pub wide_turned_cell : Bool → ℤ → ℤ
wide_turned_cell above x = if above then x else neg_ℤ x

abbrev pub wide_factor_by : List ℤ → Bool → Option ℕ → ℤ
wide_factor_by line above None = pos 0
wide_factor_by line above (Some j) = wide_turned_cell above (entry line j)

-- the scaled factor of row i, where the variable v violates its bound: that of v's own row, of a nonbasic slack by its cell, else 0
unfoldable pub wide_ray_factor_at : WideTable → List ℤ → ℕ → Bool → ℕ → ℤ
wide_ray_factor_at t line v above i = if length t.costs + i == v then wide_own_factor above else wide_factor_by line above (wide_place_of_variable t (length t.costs + i))

abbrev pub wide_greater : Option ℤ → ℤ → ℤ
wide_greater None x = x
wide_greater (Some best) x = if int_lt best x then x else best

-- the greatest so far of digits and exponent, and those of a factor other than 0
abbrev pub wide_with_digits : Option ℤ → ℕ → ℤ → Option ℤ
wide_with_digits best digits e = if digits == 0 then best else Some (wide_greater best (pos digits +ℤ e))

-- the greatest so far, and those of the rows from row i on, whose exponents these are
abbrev pub wide_greatest_from : WideTable → List ℤ → ℕ → Bool → ℕ → Option ℤ → List ℤ → Option ℤ
wide_greatest_from t line v above i best [] = best
wide_greatest_from t line v above i best (e ∷ es) = wide_greatest_from t line v above (suc i) (wide_with_digits best (bits_of (wide_ray_factor_at t line v above i)) e) es

-- the most binary digits that a factor of the first `own` rows has once it is no longer scaled; none where all are 0
unfoldable pub wide_top_of_factors : WideTable → List ℤ → ℕ → Bool → ℕ → Option ℤ
wide_top_of_factors t line v above own = wide_greatest_from t line v above 0 None (take own t.scales.rows)

-- the multiplier of row i: its factor, no longer scaled, so that the greatest has 60 digits, and rounded down; clipped
unfoldable pub wide_clipped_ray_dual : WideTable → List ℤ → ℕ → Bool → ℤ → ℕ → LpRow → Option Fx
wide_clipped_ray_dual t line v above top i r =
    option_map (λ y. clipped r (number y)) (option_and_then (held_wide 127) (wide_shift_of (wide_ray_factor_at t line v above i) (entry t.scales.rows i +ℤ pos 60 -ℤ top)))

-- the duals of all own rows
unfoldable pub wide_ray_duals : WideTable → List ℤ → ℕ → Bool → Program → ℤ → Option (List Fx)
wide_ray_duals t line v above lp top = each_from (wide_clipped_ray_dual t line v above top) 0 (take lp.own lp.rows)

abbrev pub wide_ray_with : Program → List Fx → Answer
wide_ray_with lp ys = record { kind = kinds.Ray; point = lows_of lp.columns; duals = ys }

abbrev pub wide_where_proved : Program → List Fx → Option Answer
wide_where_proved lp ys = if proves lp ys then Some (wide_ray_with lp ys) else None

-- the answer by these multipliers, where they prove that no point keeps all own rows
unfoldable pub wide_ray_answer : WideTable → List ℤ → ℕ → Bool → Program → Option Answer
wide_ray_answer t line v above lp = option_and_then (wide_where_proved lp) (option_and_then (wide_ray_duals t line v above lp) (wide_top_of_factors t line v above lp.own))
