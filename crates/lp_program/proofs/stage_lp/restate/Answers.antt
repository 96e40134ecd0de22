use Rattle.lp_program.proofs.AllRows.{both_sides}
use Rattle.lp_program.proofs.stage_lp.restate.Goals as goal

pub returns : goal.returns
returns c = both_sides c.args.rows.now c.args.row c.args.low c.args.high c.index-rows-row.result c.index-rows-row-2.result c.requires
