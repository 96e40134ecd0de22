use Rattle.std.proofs.Common.{◌∙◌, length, sym, arith}
use Rattle.plan_mend.specs.Stages.{frame_at}
use Rattle.plan_mend.proofs.Harms.{one_harmed, none_harmed}
use Rattle.plan_mend.proofs.moves.harm.Goals as goal
use Rattle.plan_mend.proofs.moves.harm.Goals.{then-is_harmed_by, else-is_harmed_by}

pub loop-other-preserved : goal.loop-other-preserved
loop-other-preserved c =
    let f = frame_at c.args.stage.now in
    let i = c.args.row in
    let l = c.loop-other in
    let there = c.loop-other-test.true in
    elim c.if-is_harmed_by.branch [
      | then-is_harmed_by w ↦ (one_harmed f i c.args.before.now c.args.after.now l.other (length f.rows) _ l.count c.if-is_harmed_by.count (omega (arith, there, c.stage_row_count-other-end.ensures)) l.invariant.0 (sym w.if-is_harmed_by.true ∙ c.is_harmed_by.ensures) w.count-is, omega (arith, w.count-is, l.invariant.1))
      | else-is_harmed_by w ↦ (none_harmed f i c.args.before.now c.args.after.now l.other (length f.rows) _ l.count c.if-is_harmed_by.count (omega (arith, there, c.stage_row_count-other-end.ensures)) l.invariant.0 (sym w.if-is_harmed_by.false ∙ c.is_harmed_by.ensures) w.count-is, omega (arith, w.count-is, l.invariant.1))
    ]
