use Rattle.std.proofs.Common.{◌≡◌, ◌∙◌, List, map, ap, sym, subst}
use Rattle.problem.specs.declared.parts.Moment.{Moment}
use Rattle.plan_stage.proofs.Alike.{if_ok}
use Rattle.policy_simulate.specs.Runs.{IsProblemRun, moment_of}
use Rattle.policy_simulate.proofs.Following.{path_run}
use Rattle.policy_simulate.proofs.runs.drawn.Goals as goal

pub returns-clause-run : goal.returns-clause-run
returns-clause-run c =
    let p = c.args.problem.now in
    if_ok c.moments_of.result (λ (run : List Moment). run ≡ map (moment_of p.parts) c.as_slice.result.now) (IsProblemRun p)
    (λ run is. subst (IsProblemRun p) (sym (is ∙ ap (map (moment_of p.parts)) c.as_slice.ensures)) (path_run p c.parts.ensures.validated c.in_ok-path.path c.in_ok-path.ensures.is_path))
    c.moments_of.ensures
