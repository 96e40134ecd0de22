use Rattle.std.proofs.Common.{ℕ, ◌+◌, ◌*◌, take, zip}
use Rattle.std.specs.List.{sum_by}
use Rattle.theory.specs.declared.cut.Certificate.{Certificate}
use Rattle.cut_make.specs.SizeByTerms.{successors_amount}
use Rattle.cut_check.specs.Bounds.{Tallies}
use Rattle.cut_check.proofs.size.tally.pairs_tally.Given as goal

abbrev pub invariant-loop-r : goal.invariant-loop-r
invariant-loop-r l = Tallies l.here.subproblem.now.decisions l.here.subproblem.now.outs l.initial.tally l.tally
    (0 + sum_by (λ (q : ℕ × Certificate). q.0 * successors_amount l.here.subproblem.now.decisions l.here.subproblem.now.outs l.here.pools.now.lists l.here.node.now.successors q.1.cuts) (take l.r (zip l.here.weights.now l.list)))
