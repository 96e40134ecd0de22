use Rattle.theory.specs.Problem.{with_weights}
use Rattle.theory.specs.View.{node_of}
use Rattle.cut_check.proofs.reweighting.cuts.shares_at.Given as goal

abbrev pub ghost-shares_of : goal.ghost-shares_of
ghost-shares_of a = with_weights a.here.now.weights.now (node_of a.here.now.node.now a.here.now.subproblem.now a.here.now.low.now a.here.now.high.now)
