use Rattle.std.proofs.Common.{◌≡◌, drop}
use Rattle.policy_robust.specs.RiskCuts.{each_step, risk_step_added}
use Rattle.cut_pool.specs.AtNodes.{PoolsFit}
use Rattle.policy_robust.proofs.risk_cuts.add_steps.Given as goal

abbrev pub invariant-loop-step : goal.invariant-loop-step
invariant-loop-step l = record {
  so_far : each_step (risk_step_added l.problem l.alternatives l.iteration) l.risk_cuts.lists (drop l.step-index l.steps) ≡ each_step (risk_step_added l.problem l.alternatives l.iteration) l.initial.risk_cuts.lists l.steps;
  fit : PoolsFit l.problem l.risk_cuts.lists;
}
