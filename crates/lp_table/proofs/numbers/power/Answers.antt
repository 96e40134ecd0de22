use Rattle.lp_table.proofs.Powers.{power_read}
use Rattle.lp_table.proofs.numbers.power.Goals as goal

pub returns : goal.returns
returns c = power_read c.args.k c.requires
