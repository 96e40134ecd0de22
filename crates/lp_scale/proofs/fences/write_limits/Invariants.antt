use Rattle.std.proofs.Common.{◌≡◌, length, take}
use Rattle.lp_scale.specs.Fences.{AreLimits}
use Rattle.lp_scale.proofs.fences.write_limits.Given as goal

abbrev pub invariant-loop-state : goal.invariant-loop-state
invariant-loop-state l = record {
  count : length l.limits ≡ length l.fn.limits;
  value : AreLimits l.greatest (take l.state-index l.lifts) l.limits;
}
