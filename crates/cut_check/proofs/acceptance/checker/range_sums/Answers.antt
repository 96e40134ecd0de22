use Rattle.std.proofs.Common.{arith}
use Rattle.theory.specs.Problem.{with_weights}
use Rattle.theory.specs.View.{node_of}
use Rattle.cut_check.proofs.Passing.{few-range_of}
use Rattle.cut_check.proofs.acceptance.checker.range_sums.Goals as goal

pub overflow_cast-result : goal.overflow_cast-result
overflow_cast-result c =
    let a = c.args.here.now in
    let small = few-range_of a.pools.now.lists (with_weights a.weights.now (node_of a.node.now a.subproblem.now a.low.now a.high.now)) c.args.list.now c.in-Err.realization c.in-Err.ensures in
    grind (arith, small, c.requires.list, c.requires.sized.count, c.requires.sized.realizations)
