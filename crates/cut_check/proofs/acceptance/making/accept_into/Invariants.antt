use Rattle.theory.specs.Problem.{with_weights}
use Rattle.theory.specs.View.{node_of}
use Rattle.cut_check.proofs.acceptance.making.accept_into.Given as goal

abbrev pub ghost-accept_at : goal.ghost-accept_at
ghost-accept_at a =
    let h = a.here.now in
    with_weights h.weights.now (node_of h.node.now h.subproblem.now h.low.now h.high.now)
