use Rattle.std.proofs.Common.{rules}
use Rattle.theory.specs.Problem.{node_at}
use Rattle.theory.specs.View.{problem_of}
use Rattle.plan_answer.proofs.ClassifiedInfeasible.{this_refutes, next_tried}
use Rattle.plan_answer.proofs.classifying.classify_ray.Goals as goal

pub loop-tried-preserved : goal.loop-tried-preserved
loop-tried-preserved c =
    let n = node_at (problem_of c.args.problem.now) c.args.node in
    next_tried n c.args.values.now c.args.state.now c.in_ok-rows.rows c.args.duals.now c.loop-tried.tried c.refutes.result c.loop-tried-test.true c.in_ok-rows.ensures (search rules) c.if-refutes.false c.loop-tried.invariant

pub returns-then-refutes : goal.returns-then-refutes
returns-then-refutes c =
    let n = node_at (problem_of c.args.problem.now) c.args.node in
    this_refutes n c.args.values.now c.args.state.now c.in_ok-rows.rows c.args.duals.now c.loop-tried.tried c.refutes.result c.loop-tried-test.true c.in_ok-rows.ensures (search rules) (search rules) c.loop-tried.invariant
