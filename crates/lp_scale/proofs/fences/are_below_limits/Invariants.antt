use Rattle.lp_scale.proofs.Fencing.{BelowBefore}
use Rattle.lp_scale.proofs.fences.are_below_limits.Given as goal

abbrev pub invariant-loop-state : goal.invariant-loop-state
invariant-loop-state l = BelowBefore l.state l.limits l.slopes
