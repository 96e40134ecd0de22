use Rattle.theory.specs.Problem.{with_weights}
use Rattle.theory.specs.View.{node_of}
use Rattle.cut_check.proofs.acceptance.making.write_cut_in_range.Given as goal

abbrev pub ghost-write_in_range : goal.ghost-write_in_range
ghost-write_in_range a =
    let h = a.here.now in
    with_weights h.weights.now (node_of h.node.now h.subproblem.now h.low.now h.high.now)
