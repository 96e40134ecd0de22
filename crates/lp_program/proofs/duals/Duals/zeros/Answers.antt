use Rattle.lp_program.proofs.SpreadDuals.{zeros_is}
use Rattle.lp_program.proofs.duals.Duals.zeros.Goals as goal

pub returns : goal.returns
returns c = zeros_is c.new.result c.new-2.result.items c.args.rows c.new.ensures c.new-2.ensures.items
