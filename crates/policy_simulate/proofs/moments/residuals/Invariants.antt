use Rattle.std.proofs.Common.{◌≡◌, take}
use Rattle.theory.specs.Problem.{node_at}
use Rattle.theory.specs.View.{problem_of}
use Rattle.plan_forward.specs.Costing.{residuals_of}
use Rattle.policy_simulate.proofs.moments.residuals.Given as goal

abbrev pub invariant-loop-row : goal.invariant-loop-row
invariant-loop-row l = l.found ≡ take l.row (residuals_of (node_at (problem_of l.problem) l.node) l.decisions l.state l.values)
