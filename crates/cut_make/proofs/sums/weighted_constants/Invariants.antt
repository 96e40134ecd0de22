use Rattle.std.proofs.Common.{◌≡◌, pos, ◌*ℤ◌, [], take, zip, length}
use Rattle.base_num.specs.Sums.{total}
use Rattle.theory.specs.declared.cut.Certificate.{Certificate}
use Rattle.theory.specs.Problem.{Realization, Node, with_weights}
use Rattle.theory.specs.View.{node_of}
use Rattle.theory.specs.CutOf.{alpha_at}
use Rattle.cut_make.specs.Congruent.{Congruent}
use Rattle.cut_make.specs.FixedParts.{AreFixedBefore}
use Rattle.cut_make.proofs.sums.weighted_constants.Given as goal

abbrev pub invariant-loop-r : goal.invariant-loop-r
invariant-loop-r l =
    let n : Node = with_weights l.here.weights.now (node_of l.here.node.now l.here.subproblem.now [] []) in
    record {
      count : length l.reduced ≡ length l.initial.reduced;
      value : Congruent l.sum (total (λ (q : Realization × Certificate). pos q.0.weight *ℤ alpha_at l.here.pools.now.lists n q.0.values q.1) (take l.r (zip n.realizations l.list)));
      fixed : AreFixedBefore l.costs.scale l.here.pools.now.lists l.here.node.now l.here.subproblem.now l.list l.r l.known;
    }
