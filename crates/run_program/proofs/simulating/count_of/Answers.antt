use Rattle.std.proofs.Common.{◌∙◌, length, ap, arith}
use Rattle.problem.specs.declared.parts.ProblemParts.{ProblemParts}
use Rattle.policy_simulate.proofs.Following.{few_stored}
use Rattle.run_program.proofs.simulating.count_of.Goals as goal

pub overflow_cast-result : goal.overflow_cast-result
overflow_cast-result c =
    let stored = c.len-stored.ensures ∙ ap (λ (parts : ProblemParts). length parts.scenarios) c.parts.ensures.value in
    omega (arith, stored, few_stored c.args.problem.now c.parts.ensures.validated)
