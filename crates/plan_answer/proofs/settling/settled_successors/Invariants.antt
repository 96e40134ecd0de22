use Rattle.std.proofs.Common.{◌≡◌, ◌++◌, drop}
use Rattle.theory.specs.View.{successors_of}
use Rattle.plan_answer.specs.Settling.{settled_successors}
use Rattle.plan_answer.proofs.settling.settled_successors.Given as goal

abbrev pub invariant-loop-i : goal.invariant-loop-i
invariant-loop-i l = l.found ++ settled_successors l.pools.lists (successors_of (drop l.i l.successors) (drop l.i l.weights)) (drop l.at l.duals) ≡ settled_successors l.pools.lists (successors_of l.successors l.weights) (drop l.from l.duals)
