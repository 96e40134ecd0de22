use Rattle.lp_wide_table.proofs.Shifts.{power_read}
use Rattle.lp_wide_table.proofs.double_words.power.Goals as goal

pub returns : goal.returns
returns c = power_read c.args.k c.requires
