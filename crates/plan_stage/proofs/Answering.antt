-- The answer of a chain of one solve, from facts about its parts.
use Rattle.std.proofs.Common.{◌≡◌, ℕ, ℤ, List, Option, Some, ap, sym, ◌∙◌}
use Rattle.problem.specs.Validated.{Validated}
use Rattle.theory.specs.declared.cut.Cut.{Cut}
use Rattle.lp_program.specs.declared.programs.Program.{Program}
use Rattle.lp_program.specs.declared.programs.Answer.{Answer}
use Rattle.lp_program.specs.Solving.{Solving}
use Rattle.plan_stage.specs.Nodes.{stage_in, program_of}
use Rattle.plan_stage.specs.Chained.{begun_at, stage_answer}

pub answered-by : {Start Chain : Type 0} (v : Solving Start Chain) (p : Validated) (pools : List (List Cut)) (m : ℕ) (values state : List ℤ) (lp : Program) (chain : Chain) (a : Answer)
    → stage_in p pools m values state ≡ Some lp → chain ≡ begun_at v p m lp → a ≡ (v.next chain lp).0 → a ≡ stage_answer v p pools m values state
unfolding stage_answer
answered-by v p pools m values state lp chain a stage begun is =
    is
    ∙ ap (λ c. (v.next c lp).0) begun
    ∙ sym (ap (λ (o : Option Program). (v.next (begun_at v p m (program_of o)) (program_of o)).0) stage)
