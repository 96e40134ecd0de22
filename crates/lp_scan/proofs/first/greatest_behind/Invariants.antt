use Rattle.std.proofs.Common.{◌-◌, ◌≤◌, length}
use Rattle.lp_scan.proofs.first.greatest_behind.Given as goal

abbrev pub invariant-loop-from : goal.invariant-loop-from
invariant-loop-from l = record {
  place : l.place ≤ length l.bounds;
  from : l.from ≤ length l.bounds;
}

abbrev pub decreases-loop-from : goal.decreases-loop-from
decreases-loop-from l = length l.bounds - l.from
