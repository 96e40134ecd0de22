use Rattle.std.proofs.Common.{◌≡◌, ◌+◌, sum, take}
use Rattle.policy_robust.proofs.weights.weights.Given as goal

abbrev pub invariant-loop-weight : goal.invariant-loop-weight
invariant-loop-weight l = record {
  found : l.found ≡ take l.weight-index l.all;
  left : l.left + sum (take l.weight-index l.all) ≡ 65535;
}
