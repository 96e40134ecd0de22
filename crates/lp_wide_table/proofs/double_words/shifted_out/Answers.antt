use Rattle.lp_wide_table.proofs.Shifts.{shifted_out_is}
use Rattle.lp_wide_table.proofs.double_words.shifted_out.Goals as goal

pub returns : goal.returns
returns c = shifted_out_is c.args.a c.args.k c.cast_unsigned.result c.ranges.a c.requires.most c.cast_unsigned.ensures
