use Rattle.std.proofs.Common.{subst, ◌∙◌, arith}
use Rattle.std.proofs.lemmas.Grind.{common_steps}
use Rattle.std.proofs.lemmas.List.Elements.{All-more}
use Rattle.journal_record.specs.Shape.{PairsFit}
use Rattle.journal_record.proofs.encoding.put_cuts.Goals as goal

pub loop-pairs-preserved : goal.loop-pairs-preserved
loop-pairs-preserved c = record {
  text = grind (arith, common_steps);
  numbers = All-more PairsFit c.args.cuts.now c.loop-pairs.pairs-index _ c.loop-pairs-test.true c.loop-pairs.invariant.numbers (subst PairsFit (c.as_slice.ensures ∙ c.pairs-item.is) c.in_ok-put_pairs.ensures.numbers);
}
