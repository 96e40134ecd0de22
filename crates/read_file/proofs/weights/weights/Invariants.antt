use Rattle.std.proofs.Common.{◌≡◌, ◌+◌, sum, take}
use Rattle.read_file.proofs.weights.weights.Given as goal

abbrev pub invariant-loop-weight : goal.invariant-loop-weight
invariant-loop-weight l = record {
  found : l.found ≡ take l.weight-index l.all;
  left : l.left + l.more + sum (take l.weight-index l.all) ≡ 65535;
}
