use Rattle.std.proofs.Common.{◌≡◌, ◌*◌, ◌-◌}
use Rattle.theory.specs.Problem.{node_at}
use Rattle.theory.specs.View.{problem_of}
use Rattle.plan_answer.specs.Classifying.{first_infeasible}
use Rattle.plan_answer.proofs.classifying.classify_ray.Given as goal

abbrev pub invariant-loop-tried : goal.invariant-loop-tried
invariant-loop-tried l =
    let n = node_at (problem_of l.problem) l.node in
    first_infeasible n l.values l.state l.duals (4 * l.tried) (15 - l.tried) ≡ first_infeasible n l.values l.state l.duals 0 15
