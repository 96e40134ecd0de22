use Rattle.std.proofs.Common.{◌≡◌, false, replicate}
use Rattle.plan_mend.proofs.mending.none_held.Given as goal

abbrev pub invariant-loop-made : goal.invariant-loop-made
invariant-loop-made l = l.found ≡ replicate l._made false
