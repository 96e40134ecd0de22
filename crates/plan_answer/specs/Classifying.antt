-- The classification of an answer, for a node at values and an incoming state.
use Rattle.std.specs.Prelude.{ℕ, zero, suc, ◌+◌, ◌^◌, ℤ, List, if◌then◌else◌}
use Rattle.lp_program.specs.declared.fixed.Fx.{Fx}
use Rattle.lp_program.specs.declared.programs.Answer.{Answer}
use Rattle.lp_program.specs.declared.programs.Kind.{Kind}
use Rattle.lp_program.specs.declared.programs.Kind.TheVariants as kinds
use Rattle.theory.specs.Problem.{Node}
use Rattle.plan_answer.specs.declared.classifying.Classified.{Classified}
use Rattle.plan_answer.specs.declared.classifying.Classified.TheVariants.{Found, Unanswered, Infeasibility}
use Rattle.plan_answer.specs.Farkas.{refutes_of}
use Rattle.plan_answer.specs.Settling.{row_multipliers_over}

-- the multipliers that a ray gives rows, without so many of its last binary digits
abbrev pub ray_rows : Node → List Fx → ℕ → List ℤ
ray_rows n duals digits = row_multipliers_over (2 ^ digits) 0 n.rows duals

-- an infeasibility by the first that refute, of those without so many digits, 4 more, and so on, so many in all
abbrev pub first_infeasible : Node → List ℤ → List ℤ → List Fx → ℕ → ℕ → Classified
first_infeasible n values x duals digits zero = Unanswered
first_infeasible n values x duals digits (suc more) =
    if refutes_of n values x (ray_rows n duals digits) then Infeasibility (ray_rows n duals digits) else first_infeasible n values x duals (digits + 4) more

-- without 0, 4, 8, .., 56 digits: small multipliers count, and sums stay in range
abbrev pub classified_by : Node → List ℤ → List ℤ → List Fx → Kind → Classified
classified_by n values x duals kinds.Found = Found
classified_by n values x duals kinds.Ray = first_infeasible n values x duals 0 15
classified_by n values x duals kinds.Stuck = Unanswered

-- classify an answer: an infeasibility exactly where it is a ray, and its rows refute without some number of digits
unfoldable pub classify_of : Node → List ℤ → List ℤ → Answer → Classified
classify_of n values x answer = classified_by n values x answer.duals answer.kind
