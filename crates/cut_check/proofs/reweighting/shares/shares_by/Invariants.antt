use Rattle.std.proofs.Common.{◌≡◌, length}
use Rattle.cut_check.proofs.Sharing.{Each}
use Rattle.cut_check.proofs.reweighting.shares.shares_by.Given as goal

abbrev pub invariant-loop-r : goal.invariant-loop-r
invariant-loop-r l = record {
  count : length l.found ≡ l.r;
  each : Each l.here.pools.now.lists l.here.node.now l.here.subproblem.now l.here.low.now l.here.high.now l.list l.found;
}
