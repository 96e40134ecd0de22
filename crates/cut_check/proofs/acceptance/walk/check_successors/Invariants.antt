use Rattle.std.proofs.Common.{◌≡◌, drop, zip}
use Rattle.theory.specs.View.{successors_of}
use Rattle.cut_make.specs.Acceptance.{successors_fault}
use Rattle.cut_check.proofs.acceptance.walk.check_successors.Given as goal

abbrev pub invariant-loop-i : goal.invariant-loop-i
invariant-loop-i l = successors_fault l.pools.lists l.r l.i (zip (successors_of (drop l.i l.successors) (drop l.i l.weights)) (drop l.i l.cuts)) ≡ successors_fault l.pools.lists l.r 0 (zip (successors_of l.successors l.weights) l.cuts)
