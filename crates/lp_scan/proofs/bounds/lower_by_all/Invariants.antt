use Rattle.std.proofs.Common.{◌≡◌, ◌+◌, ◌-◌, length}
use Rattle.lp_scan.specs.Bounds.{AreBounds}
use Rattle.lp_scan.proofs.bounds.lower_by_all.Given as goal

abbrev pub invariant-loop-j : goal.invariant-loop-j
invariant-loop-j l = record {
  same : length l.bounds ≡ length l.cuts;
  bounds : AreBounds (l.coarse.slope_shift + l.coarse.state_shift) l.coarse.base l.cuts l.states l.j l.bounds;
}

abbrev pub decreases-loop-j : goal.decreases-loop-j
decreases-loop-j l = length l.states - l.j
