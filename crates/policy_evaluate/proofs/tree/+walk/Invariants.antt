use Rattle.std.proofs.Common.{◌+◌, ◌*◌, suc, drop}
use Rattle.theory.specs.Problem.{node_at, successor_weight}
use Rattle.theory.specs.View.{successors_of, problem_of}
use Rattle.policy_evaluate.specs.Costs.{tree_cost}
use Rattle.policy_evaluate.specs.PolicyTree.{decide_branch}
use Rattle.policy_evaluate.specs.Small.{successor_branches, successor_denominator}
use Rattle.policy_evaluate.proofs.Adding.{SuccessorsGo}
use Rattle.policy_evaluate.proofs.Branching.{BranchesGo}
use Rattle.policy_evaluate.proofs.tree.+walk.Given as goal

abbrev pub decreases-tree_cost : goal.decreases-tree_cost
decreases-tree_cost g l = 4 * l.stages

abbrev pub decreases-successor_costs : goal.decreases-successor_costs
decreases-successor_costs g l = 4 * l.stages + 1

abbrev pub decreases-branch_cost : goal.decreases-branch_cost
decreases-branch_cost g l = 4 * l.stages + 2

abbrev pub decreases-branch_costs : goal.decreases-branch_costs
decreases-branch_costs g l = 4 * l.stages + 3

abbrev pub invariant-successor_costs-loop-i : goal.invariant-successor_costs-loop-i
invariant-successor_costs-loop-i g l = SuccessorsGo l.course.planner.now.problem.now l.fn.stages l.fn.decided (tree_cost (decide_branch (g.V.Solver.does l.course.planner.now.solver.now) l.course.planner.now.problem.now l.course.pools.now.lists) (problem_of l.course.planner.now.problem.now) l.fn.stages l.state) (successors_of l.successors.nodes.now l.successors.weights.now) (drop l.i (successors_of l.successors.nodes.now l.successors.weights.now)) l.sum

abbrev pub invariant-branch_costs-loop-realization : goal.invariant-branch_costs-loop-realization
invariant-branch_costs-loop-realization g l =
    let p = l.course.planner.now.problem.now in
    let n = node_at (problem_of p) l.fn.node in
    let decide = decide_branch (g.V.Solver.does l.course.planner.now.solver.now) p l.course.pools.now.lists in
    BranchesGo p (suc l.fn.stages) (successor_weight n * successor_denominator p l.fn.stages n.successors) (1 + successor_branches p l.fn.stages n.successors) l.fn.decided decide (tree_cost decide (problem_of p) l.fn.stages) n l.fn.node l.state n.realizations (drop l.realization n.realizations) l.realization l.sum
