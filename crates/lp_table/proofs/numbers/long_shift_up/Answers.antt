use Rattle.lp_table.proofs.Shifts.{up_absent}
use Rattle.lp_table.proofs.numbers.long_shift_up.Goals as goal

pub returns-else-k-eq127 : goal.returns-else-k-eq127
returns-else-k-eq127 c = up_absent c.args.v c.args.k c.if-k-le126.false c.if-v-eq0.false c.else-k-eq127.either
