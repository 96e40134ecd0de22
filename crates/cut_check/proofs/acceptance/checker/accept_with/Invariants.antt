use Rattle.theory.specs.Problem.{with_weights}
use Rattle.theory.specs.View.{node_of}
use Rattle.cut_check.proofs.acceptance.checker.accept_with.Given as goal

abbrev pub ghost-check : goal.ghost-check
ghost-check a =
    let h = a.here.now in
    with_weights h.weights.now (node_of h.node.now h.subproblem.now h.low.now h.high.now)
