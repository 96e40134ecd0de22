use Rattle.std.proofs.Common.{◌≡◌, length}
use Rattle.lp_scale.proofs.fences.open.Given as goal

abbrev pub invariant-loop-state : goal.invariant-loop-state
invariant-loop-state l = length l.limits ≡ length l.fn.limits
