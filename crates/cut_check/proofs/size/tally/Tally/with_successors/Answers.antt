use Rattle.std.proofs.Common.{◌*◌, ℕ, List, take, zip, refl, subst, arith}
use Rattle.std.specs.List.{sum_by}
use Rattle.cut_make.specs.SizeByTerms.{successor_amount}
use Rattle.cut_check.specs.Bounds.{Tallies}
use Rattle.cut_check.proofs.Amounts.{pairs_more, take_pairs}
use Rattle.cut_check.proofs.Bounding.{tallies_more, scaled}
use Rattle.cut_check.proofs.size.tally.Tally.with_successors.Goals as goal

pub loop-i-preserved : goal.loop-i-preserved
loop-i-preserved c = λ ds outs.
    let f : ℕ × List (ℕ × ℕ) → ℕ = successor_amount ds outs c.args.pools.now.lists in
    let more = pairs_more f c.args.successors.now c.args.pairs.now c.loop-i.i 0 (sum_by f (take c.loop-i.i (zip c.args.successors.now c.args.pairs.now))) _ _ 0 c.index-pairs-i.result c.index-pairs-i.result c.min-i-end.ensures c.loop-i-test.true refl c.index-pairs-i.is (omega arith) _ refl in
    tallies_more ds outs c.args.self c.loop-i.tally c.in_ok-tally.tally _ _ _ (scaled c.args.weight _ _ _ (omega (arith, more))) (c.loop-i.invariant ds outs) (c.in_ok-tally.ensures ds outs)

pub returns : goal.returns
returns c = λ ds outs.
    subst (λ (z : List (ℕ × List (ℕ × ℕ))). Tallies ds outs c.args.self c.loop-i.tally (c.args.weight * sum_by (successor_amount ds outs c.args.pools.now.lists) z)) (take_pairs c.args.successors.now c.args.pairs.now c.loop-i.i _ c.min-i-end.ensures c.loop-i-test.false) (c.loop-i.invariant ds outs)
