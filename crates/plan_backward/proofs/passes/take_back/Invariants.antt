use Rattle.std.proofs.Common.{◌≡◌, ◌≤◌, length, take}
use Rattle.plan_backward.specs.Sweeping.{taken_back}
use Rattle.plan_backward.proofs.passes.take_back.Given as goal

abbrev pub decreases-loop-left : goal.decreases-loop-left
decreases-loop-left l = l.left

abbrev pub invariant-loop-left : goal.invariant-loop-left
invariant-loop-left l = record {
  value : taken_back l.pools.lists (take l.left l.steps) ≡ taken_back l.initial.pools.lists l.steps;
  count : length l.pools.lists ≡ length l.initial.pools.lists;
  within : l.left ≤ length l.steps;
}
