use Rattle.lp_solve.proofs.Ending.{finished_held, weak_held, weak_fits}
use Rattle.lp_solve.proofs.turns.close.Goals as goal

pub returns-clause-fits : goal.returns-clause-fits
returns-clause-fits c = weak_fits c.args.table.now c.finish.new.table c.args.lp.now _ c.requires.fits c.finish.ensures.sized (finished_held c.args.table.now c.finish.new.table c.in_ok-finish.field-0 c.in_ok-finish.ensures.finished)

pub returns-clause-held : goal.returns-clause-held
returns-clause-held c = weak_held c.args.table.now c.finish.new.table _ (finished_held c.args.table.now c.finish.new.table c.in_ok-finish.field-0 c.in_ok-finish.ensures.finished)
