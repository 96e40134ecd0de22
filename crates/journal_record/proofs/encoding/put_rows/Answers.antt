use Rattle.std.proofs.Common.{arith, rules, w64, FitsSigned, pos}
use Rattle.std.proofs.lemmas.List.Elements.{All-more}
use Rattle.std.proofs.lemmas.Grind.{common_steps}
use Rattle.std.proofs.lemmas.Int.{to_z-of_z}
use Rattle.journal_record.proofs.encoding.put_rows.Goals as goal

pub loop-row-preserved : goal.loop-row-preserved
loop-row-preserved c = record {
  text = grind (arith, to_z-of_z, common_steps);
  numbers = All-more (λ z. FitsSigned w64 z) c.args.rows.now c.loop-row.row-index (pos 0) c.loop-row-test.true c.loop-row.invariant.numbers (search rules);
}
