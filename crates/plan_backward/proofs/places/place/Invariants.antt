use Rattle.std.proofs.Common.{◌≡◌, ◌≤◌, length, take}
use Rattle.plan_backward.specs.Certifying.{placed}
use Rattle.plan_backward.proofs.places.place.Given as goal

abbrev pub invariant-loop-left : goal.invariant-loop-left
invariant-loop-left l = record {
  value : placed (take l.left l.order) l.solved.items l.list ≡ placed l.order l.fn.solved.items l.fn.list;
  count : length l.solved.items ≡ l.left;
  size : length l.list ≡ length l.fn.list;
  within : l.left ≤ length l.order;
}

abbrev pub decreases-loop-left : goal.decreases-loop-left
decreases-loop-left l = l.left
