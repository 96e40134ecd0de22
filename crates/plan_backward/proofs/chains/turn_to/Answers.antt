use Rattle.std.proofs.Common.{◌≡◌, true, subst}
use Rattle.problem.specs.Validated.{Validated, is_validated}
use Rattle.plan_stage.proofs.Alike.{like_validated}
use Rattle.plan_backward.proofs.chains.turn_to.Goals as goal

pub returns-else-not-has_them-clause-like : goal.returns-else-not-has_them-clause-like
returns-else-not-has_them-clause-like g c =
    let t = c.requires.stage in
    let here = c.args.here.now in
    let validated = subst (λ (p : Validated). is_validated p ≡ true) c.problem-problem.ensures c.parts.ensures.validated in
    like_validated here.planner.now.problem.now validated here.node c.requires.visit.known here.pools.now.lists t.values t.state t.values t.state c.args.lp.now c.args.lp.now t.is t.is
