use Rattle.std.proofs.Common.{subst, arith}
use Rattle.std.proofs.lemmas.Grind.{common_steps}
use Rattle.std.proofs.lemmas.List.Elements.{All-more}
use Rattle.journal_record.specs.Shape.{EntryFits}
use Rattle.journal_record.proofs.encoding.put_entries.Goals as goal

pub loop-entry-preserved : goal.loop-entry-preserved
loop-entry-preserved c = record {
  text = grind (arith, common_steps);
  numbers = All-more EntryFits c.args.list.now c.loop-entry.entry-index _ c.loop-entry-test.true c.loop-entry.invariant.numbers (subst EntryFits c.entry-item.is c.in_ok-put_entry.ensures.numbers);
}
