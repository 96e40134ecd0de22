use Rattle.lp_program.proofs.AllRows.{one_more}
use Rattle.lp_program.proofs.stage_lp.StageLp.all_rows.Goals as goal

pub loop-number-preserved : goal.loop-number-preserved
loop-number-preserved c = one_more c.args.self.now.rows c.loop-number.found c.push.new.self c.loop-number.number c.write_row.new.over c.loop-number.invariant c.in_ok-write_row.ensures c.in_ok-push.ensures
