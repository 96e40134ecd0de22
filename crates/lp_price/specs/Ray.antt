-- The duals of a row that nothing brings back to its bound: a sum of rows, as a ray of the dual program.
use Rattle.std.specs.Prelude.{ℕ, suc, ◌^◌, ◌+◌, ◌==◌, ℤ, pos, neg_ℤ, ◌+ℤ◌, ◌-ℤ◌, Bool, List, [], ◌∷◌, length, take, Option, Some, None, int_lt, if◌then◌else◌}
use Rattle.std.specs.Option.{option_map, option_and_then}
use Rattle.base_num.specs.Sums.{entry}
use Rattle.lp_program.specs.declared.fixed.Fx.{Fx}
use Rattle.lp_program.specs.declared.programs.LpRow.{LpRow}
use Rattle.lp_program.specs.declared.programs.Program.{Program}
use Rattle.lp_program.specs.declared.programs.Answer.{Answer}
use Rattle.lp_program.specs.declared.programs.Kind.TheVariants as kinds
use Rattle.lp_program.specs.Numbers.{number}
use Rattle.lp_program.specs.Answers.{lows_of}
use Rattle.lp_table.specs.declared.table.WarmTable.{WarmTable}
use Rattle.lp_table.specs.Numbers.{bits_of, shift_of}
use Rattle.base_num.specs.Each.{each_from}
use Rattle.lp_price.specs.Found.{place_of_variable}
use Rattle.lp_price.specs.Padded.{padded_numbers}
use Rattle.lp_price.specs.Proves.{own_rows, clipped, proves}

-- 1, at scale 2^40, of a variable that is below its bound; -1 of one that is above
abbrev pub own_factor : Bool → ℤ
own_factor above = if above then neg_ℤ (pos (2 ^ 40)) else pos (2 ^ 40)

-- a cell of the line, with the other sign where the variable is below
abbrev pub turned_cell : Bool → ℤ → ℤ
turned_cell above x = if above then x else neg_ℤ x

abbrev pub factor_by : List ℤ → Bool → Option ℕ → ℤ
factor_by line above None = pos 0
factor_by line above (Some j) = turned_cell above (entry line j)

-- the scaled factor of row i, where the variable v violates its bound: that of v's own row, of a nonbasic slack by its cell, else 0
unfoldable pub ray_factor_at : WarmTable → List ℤ → ℕ → Bool → ℕ → ℤ
ray_factor_at t line v above i = if length t.costs + i == v then own_factor above else factor_by line above (place_of_variable t (length t.costs + i))

abbrev pub greater : Option ℤ → ℤ → ℤ
greater None x = x
greater (Some best) x = if int_lt best x then x else best

-- the greatest so far of digits and exponent, and those of a factor other than 0
abbrev pub with_digits : Option ℤ → ℕ → ℤ → Option ℤ
with_digits best digits e = if digits == 0 then best else Some (greater best (pos digits +ℤ e))

-- the greatest so far, and those of the rows from row i on
abbrev pub greatest_from : WarmTable → List ℤ → ℕ → Bool → ℕ → Option ℤ → List ℤ → Option ℤ
greatest_from t line v above i best [] = best
greatest_from t line v above i best (e ∷ es) = greatest_from t line v above (suc i) (with_digits best (bits_of (ray_factor_at t line v above i)) e) es

-- the most binary digits that a factor of one of the own rows has once it is no longer scaled; none where all factors are 0
unfoldable pub top_of_factors : WarmTable → List ℤ → ℕ → Bool → ℕ → Option ℤ
top_of_factors t line v above own = greatest_from t line v above 0 None (take own t.scales.rows)

-- the dual of row i: its factor, no longer scaled, so that the greatest has 60 digits; clipped
unfoldable pub clipped_ray_dual : WarmTable → List ℤ → ℕ → Bool → ℤ → ℕ → LpRow → Option Fx
clipped_ray_dual t line v above top i r = option_map (λ y. clipped r (number y)) (shift_of (ray_factor_at t line v above i) ((entry t.scales.rows i +ℤ pos 60) -ℤ top))

-- the duals of the own rows
abbrev pub ray_duals : WarmTable → List ℤ → ℕ → Bool → Program → ℤ → Option (List Fx)
ray_duals t line v above lp top = each_from (clipped_ray_dual t line v above top) 0 (own_rows lp)

-- with 0 for each row of a cut
abbrev pub ray_with : Program → List Fx → Answer
ray_with lp ys = record { kind = kinds.Ray; point = lows_of lp.columns; duals = padded_numbers (length lp.rows) ys }

abbrev pub where_proved : Program → List Fx → Option Answer
where_proved lp ys = if proves lp ys then Some (ray_with lp ys) else None

-- the answer by these duals, where they prove that no point keeps all own rows
unfoldable pub ray_answer : WarmTable → List ℤ → ℕ → Bool → Program → Option Answer
ray_answer t line v above lp = option_and_then (λ top. option_and_then (where_proved lp) (ray_duals t line v above lp top)) (top_of_factors t line v above lp.own)
