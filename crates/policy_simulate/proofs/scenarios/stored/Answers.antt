use Rattle.std.proofs.Common.{◌≤◌, ◌∙◌, List, length, All, sym, ap, subst}
use Rattle.problem.specs.declared.parts.Moment.{Moment}
use Rattle.problem.specs.declared.parts.ProblemParts.{ProblemParts}
use Rattle.policy_simulate.specs.Runs.{IsProblemRun}
use Rattle.policy_simulate.proofs.Following.{few_stored, stored_runs}
use Rattle.policy_simulate.proofs.scenarios.stored.Goals as goal

pub returns-clause-runs : goal.returns-clause-runs
returns-clause-runs c =
    let is = c.as_slice.ensures ∙ ap (λ (parts : ProblemParts). parts.scenarios) c.parts.ensures.value in
    subst (λ (runs : List (List Moment)). All (IsProblemRun c.args.problem.now) runs) (sym is) (stored_runs c.args.problem.now c.parts.ensures.validated)

pub returns-clause-few : goal.returns-clause-few
returns-clause-few c =
    let is = c.as_slice.ensures ∙ ap (λ (parts : ProblemParts). parts.scenarios) c.parts.ensures.value in
    subst (λ (runs : List (List Moment)). length runs ≤ 1000) (sym is) (few_stored c.args.problem.now c.parts.ensures.validated)
