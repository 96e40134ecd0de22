use Rattle.std.proofs.Common.{◌≡◌, map, take}
use Rattle.problem.specs.Validated.{out_highs}
use Rattle.problem.proofs.boxes.out_highs.Given as goal

abbrev pub invariant-loop-subproblem : goal.invariant-loop-subproblem
invariant-loop-subproblem l = l.found ≡ map out_highs (take l.subproblem-index l.subproblems)
