use Rattle.std.proofs.Common.{rules, arith}
use Rattle.std.proofs.lemmas.Grind.{common_steps}
use Rattle.std.proofs.lemmas.List.Elements.{All-more}
use Rattle.journal_record.specs.Shape.{PairFits}
use Rattle.journal_record.proofs.encoding.put_pairs.Goals as goal

pub loop-pair-preserved : goal.loop-pair-preserved
loop-pair-preserved c = record {
  text = grind (arith, common_steps);
  numbers = All-more PairFits c.args.pairs.now c.loop-pair.pair-index (0, 0) c.loop-pair-test.true c.loop-pair.invariant.numbers (search rules);
}
