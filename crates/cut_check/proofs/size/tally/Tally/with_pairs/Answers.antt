use Rattle.std.proofs.Common.{arith}
use Rattle.std.proofs.lemmas.List.Sums.{sum_by_more}
use Rattle.cut_make.specs.SizeByTerms.{pair_amount}
use Rattle.cut_check.proofs.Bounding.{tallies_none, tallies_more, scaled}
use Rattle.cut_check.proofs.size.tally.Tally.with_pairs.Goals as goal

pub loop-pair-init : goal.loop-pair-init
loop-pair-init c = λ ds outs. tallies_none ds outs c.args.self _ (omega arith)

pub loop-pair-preserved : goal.loop-pair-preserved
loop-pair-preserved c = λ ds outs.
    let more = sum_by_more (pair_amount ds outs c.args.cuts.now) c.args.pairs.now c.loop-pair.pair-index _ c.loop-pair-test.true in
    tallies_more ds outs c.args.self c.loop-pair.tally c.in_ok-tally.tally _ _ _ (scaled c.args.weight _ _ _ more) (c.loop-pair.invariant ds outs) (c.in_ok-tally.ensures ds outs)
