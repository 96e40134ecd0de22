use Rattle.lp_table.proofs.Powers.{short_power_read}
use Rattle.lp_table.proofs.numbers.short_power.Goals as goal

pub returns : goal.returns
returns c = short_power_read c.args.k c.requires
