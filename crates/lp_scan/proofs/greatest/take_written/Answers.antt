use Rattle.std.proofs.Common.{◌≡◌, ◌∙◌, ◌<◌, ◌+◌, true, List, length, drop, Option, IfSome, arith, ap, sym}
use Rattle.lp_program.specs.declared.programs.LpRow.{LpRow}
use Rattle.lp_scale.specs.Walks.{walk}
use Rattle.lp_scale.specs.Waiting.{last_column, waits}
use Rattle.lp_scan.specs.Values.{Valued, greatest_step, IsValueWithin}
use Rattle.lp_scan.proofs.PackedWalks.{walk_more, got, got_holds}
use Rattle.lp_scan.proofs.greatest.take_written.Goals as goal

pub take_row-requires-clause-column : goal.take_row-requires-clause-column
take_row-requires-clause-column c =
    got_holds (λ (r : LpRow). IfSome (last_column r.terms) (λ j. j < length c.loop-i.greatest)) c.args.lookup.now.first c.loop-i.i c.args.lp.now.rows c.write_row.new.over (omega (arith, c.loop-i.auto.i)) (omega (arith, c.loop-i-test.true, c.row_count-i-end.ensures)) c.in_ok-write_row.ensures
    (rw c.loop-i.invariant.count c.requires.columns)

pub take_row-requires-clause-within : goal.take_row-requires-clause-within
take_row-requires-clause-within c =
    got_holds (λ (r : LpRow). waits c.args.lookup.now.waiting.now r ≡ true → IsValueWithin c.args.lookup.now.states.now r) c.args.lookup.now.first c.loop-i.i c.args.lp.now.rows c.write_row.new.over (omega (arith, c.loop-i.auto.i)) (omega (arith, c.loop-i-test.true, c.row_count-i-end.ensures)) c.in_ok-write_row.ensures c.requires.within

pub loop-i-preserved : goal.loop-i-preserved
loop-i-preserved c =
    let i = c.loop-i.i in
    let rows = c.args.lp.now.rows in
    record {
      value = c.loop-i.invariant.value ∙ walk_more (λ i bests (r : LpRow). greatest_step c.args.lookup.now.waiting.now c.args.lookup.now.states.now i bests r) i i c.loop-i.greatest rows c.write_row.new.over (omega (arith, c.loop-i-test.true, c.row_count-i-end.ensures))
          ∙ ap (λ (bs : List (Option Valued)). walk (λ i bests (r : LpRow). greatest_step c.args.lookup.now.waiting.now c.args.lookup.now.states.now i bests r) (i + 1) bs (drop (i + 1) rows))
          (ap (λ (r : LpRow). greatest_step c.args.lookup.now.waiting.now c.args.lookup.now.states.now i c.loop-i.greatest r) (got rows i c.write_row.new.over c.write_row.new.over c.in_ok-write_row.ensures) ∙ sym c.take_row.ensures.value);
      count = c.take_row.ensures.count ∙ c.loop-i.invariant.count;
    }
