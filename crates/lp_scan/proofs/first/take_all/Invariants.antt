use Rattle.std.proofs.Common.{◌-◌, ◌≤◌, length}
use Rattle.lp_scan.specs.Bounds.{IsFirst, IsLimit}
use Rattle.lp_scan.proofs.first.take_all.Given as goal

abbrev pub invariant-loop-from : goal.invariant-loop-from
invariant-loop-from l = record {
  there : l.from ≤ length l.all.cuts.now;
  first : IsFirst l.all.cuts.now l.all.leaving.now l.from l.best.first;
  limit : IsLimit l.all.shift l.all.base l.best.first.1 l.best.limit;
}

abbrev pub decreases-loop-from : goal.decreases-loop-from
decreases-loop-from l = length l.all.cuts.now - l.from
