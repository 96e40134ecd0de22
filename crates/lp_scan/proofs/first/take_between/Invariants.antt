use Rattle.std.proofs.Common.{◌-◌, ◌≤◌}
use Rattle.lp_scan.specs.Bounds.{IsFirst}
use Rattle.lp_scan.proofs.first.take_between.Given as goal

abbrev pub invariant-loop-k : goal.invariant-loop-k
invariant-loop-k l = record {
  there : l.k ≤ l.to;
  first : IsFirst l.all.cuts.now l.all.leaving.now l.k l.best;
}

abbrev pub decreases-loop-k : goal.decreases-loop-k
decreases-loop-k l = l.to - l.k
