use Rattle.std.proofs.Common.{◌≡◌, ◌+◌, drop, sum}
use Rattle.plan_draw.specs.Picked.{first_above}
use Rattle.plan_draw.proofs.picks.first_above.Given as goal

abbrev pub invariant-loop-i : goal.invariant-loop-i
invariant-loop-i l = (first_above l.level l.sum l.i (drop l.i l.weights) ≡ first_above l.level 0 0 l.weights) × (l.sum + sum (drop l.i l.weights) ≡ sum l.weights)
