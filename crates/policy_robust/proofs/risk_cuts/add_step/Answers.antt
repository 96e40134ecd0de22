use Rattle.cut_check.proofs.Fitting.{fit_for-fit}
use Rattle.policy_robust.proofs.risk_cuts.add_step.Goals as goal

pub add_risk_cut-requires-clause-fit : goal.add_risk_cut-requires-clause-fit
add_risk_cut-requires-clause-fit c = fit_for-fit c.args.problem.now c.args.risk_cuts.now.lists c.args.step.now.node c.parts.ensures.validated c.requires.known c.requires.fit
