use Rattle.lp_wide_table.proofs.ByHalves.{less_by_high, greater_by_high}
use Rattle.lp_wide_table.proofs.wide.Wide.is_less.Goals as goal

pub returns-then-self-other : goal.returns-then-self-other
returns-then-self-other c = less_by_high c.args.self c.args.other c.self.inside.high c.other.inside.high c.self.inside.low c.other.inside.low c.self.invariant.0 c.other.invariant.0 c.self.invariant.1 c.other.invariant.1 c.self.view_is c.other.view_is c.if-self-other.true

pub returns-else-self-other-2 : goal.returns-else-self-other-2
returns-else-self-other-2 c = greater_by_high c.args.self c.args.other c.self.inside.high c.other.inside.high c.self.inside.low c.other.inside.low c.self.invariant.0 c.other.invariant.0 c.self.invariant.1 c.other.invariant.1 c.self.view_is c.other.view_is c.if-self-other.false c.if-self-other-2.false
