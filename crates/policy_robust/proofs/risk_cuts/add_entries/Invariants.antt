use Rattle.std.proofs.Common.{◌≡◌, drop}
use Rattle.policy_robust.specs.RiskCuts.{each_step, entry_added}
use Rattle.cut_pool.specs.AtNodes.{PoolsFit}
use Rattle.policy_robust.proofs.risk_cuts.add_entries.Given as goal

abbrev pub invariant-loop-entry : goal.invariant-loop-entry
invariant-loop-entry l = record {
  so_far : each_step (entry_added l.problem l.alternatives) l.risk_cuts.lists (drop l.entry-index l.entries) ≡ each_step (entry_added l.problem l.alternatives) l.initial.risk_cuts.lists l.entries;
  fit : PoolsFit l.problem l.risk_cuts.lists;
}
