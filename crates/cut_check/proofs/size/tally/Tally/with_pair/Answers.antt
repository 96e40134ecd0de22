use Rattle.std.proofs.Common.{arith}
use Rattle.cut_check.proofs.Bounding.{tallies_pair}
use Rattle.cut_check.proofs.size.tally.Tally.with_pair.Goals as goal

pub returns : goal.returns
returns c = λ ds outs.
    let sum = c.in_ok-multipliers.ensures in
    tallies_pair ds outs c.args.self _ c.args.weight c.args.pair.now.1 _ (omega (arith, sum, c.product.ensures)) (c.widened-widened.ensures.grown ds outs) (c.widened-widened.ensures.cut ds outs)
