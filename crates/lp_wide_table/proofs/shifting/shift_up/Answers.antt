use Rattle.lp_wide_table.proofs.Scales.{shift_up_is}
use Rattle.lp_wide_table.proofs.shifting.shift_up.Goals as goal

pub returns-then-bits-k-le250 : goal.returns-then-bits-k-le250
returns-then-bits-k-le250 c = shift_up_is c.args.v c.bits.result c.args.k c.shifted.result c.ranges.v c.if-v-eq0.false c.bits.ensures.value c.if-bits-k-le250.true c.shifted.ensures
