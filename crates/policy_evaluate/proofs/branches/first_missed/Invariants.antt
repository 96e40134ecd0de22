use Rattle.std.proofs.Common.{◌≡◌, drop}
use Rattle.theory.specs.Problem.{node_at}
use Rattle.theory.specs.View.{problem_of}
use Rattle.plan_forward.specs.Costing.{residuals_of}
use Rattle.policy_evaluate.specs.PolicyTree.{first_missed}
use Rattle.policy_evaluate.proofs.branches.first_missed.Given as goal

abbrev pub invariant-loop-row : goal.invariant-loop-row
invariant-loop-row l = first_missed 0 (residuals_of (node_at (problem_of l.problem) l.node) l.decisions l.state l.values) ≡ first_missed l.row (drop l.row (residuals_of (node_at (problem_of l.problem) l.node) l.decisions l.state l.values))
