use Rattle.std.proofs.Common.{◌≡◌, ◌≤◌, map, max, drop}
use Rattle.base_graph.specs.Ranks.{greatest}
use Rattle.problem.specs.Formulas.{step_numbers}
use Rattle.problem.proofs.formulas.most_step_numbers.Given as goal

abbrev pub invariant-loop-subproblem : goal.invariant-loop-subproblem
invariant-loop-subproblem l =
    (max l.most (greatest (map (step_numbers l.states) (drop l.subproblem-index l.subproblems))) ≡ greatest (map (step_numbers l.states) l.subproblems))
    × (l.most ≤ 504)
