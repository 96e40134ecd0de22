use Rattle.std.proofs.Common.{◌≡◌, drop}
use Rattle.policy_robust.specs.RiskCuts.{each_step, risk_entries_added}
use Rattle.cut_pool.specs.AtNodes.{PoolsFit}
use Rattle.policy_robust.proofs.risk_cuts.add_lists.Given as goal

abbrev pub invariant-loop-entries : goal.invariant-loop-entries
invariant-loop-entries l = record {
  so_far : each_step (risk_entries_added l.problem l.alternatives) l.risk_cuts.lists (drop l.entries-index l.lists) ≡ each_step (risk_entries_added l.problem l.alternatives) l.initial.risk_cuts.lists l.lists;
  fit : PoolsFit l.problem l.risk_cuts.lists;
}
