use Rattle.std.proofs.Common.{ℕ, ◌+◌, ap, ◌∙◌, refl, List}
use Rattle.std.specs.List.{sum_by}
use Rattle.cut_make.specs.SizeByTerms.{successor_amount}
use Rattle.cut_check.proofs.Amounts.{pairs_more, pairs_past, take_pairs}
use Rattle.cut_check.proofs.size.cuts.successors_size.Goals as goal

pub returns-in_err-sum : goal.returns-in_err-sum
returns-in_err-sum c =
    rw c.from_residual.ensures
    (pairs_past (successor_amount c.args.decisions.now c.args.outs.now c.args.pools.now.lists) c.args.successors.now c.args.pairs.now c.loop-i.i 0 c.loop-i.sum.total _ _ 0 c.index-pairs-i.result c.index-pairs-i.result c.min-i-end.ensures c.loop-i-test.true refl c.index-pairs-i.is c.loop-i.invariant c.in_err-sum.ensures)

pub loop-i-preserved : goal.loop-i-preserved
loop-i-preserved c =
    pairs_more (successor_amount c.args.decisions.now c.args.outs.now c.args.pools.now.lists) c.args.successors.now c.args.pairs.now c.loop-i.i 0 c.loop-i.sum.total _ _ 0 c.index-pairs-i.result c.index-pairs-i.result c.min-i-end.ensures c.loop-i-test.true refl c.index-pairs-i.is c.loop-i.invariant c.in_ok-sum.sum.total c.in_ok-sum.ensures

pub returns : goal.returns
returns c =
    c.loop-i.invariant ∙ ap (λ (z : List (ℕ × List (ℕ × ℕ))). 0 + sum_by (successor_amount c.args.decisions.now c.args.outs.now c.args.pools.now.lists) z) (take_pairs c.args.successors.now c.args.pairs.now c.loop-i.i _ c.min-i-end.ensures c.loop-i-test.false)
