use Rattle.std.proofs.Common.{◌≡◌, map, take}
use Rattle.problem.specs.Validated.{out_lows}
use Rattle.problem.proofs.boxes.out_lows.Given as goal

abbrev pub invariant-loop-subproblem : goal.invariant-loop-subproblem
invariant-loop-subproblem l = l.found ≡ map out_lows (take l.subproblem-index l.subproblems)
