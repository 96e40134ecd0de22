use Rattle.std.proofs.Math.Nat.{mod-lt}
use Rattle.lp_wide_table.proofs.Division.{few_digits, some, first, next, small_yet, small_at_last, last}
use Rattle.lp_wide_table.proofs.quotients.power_over.Goals as goal

pub power_of_two-power-requires : goal.power_of_two-power-requires
power_of_two-power-requires c = few_digits c.args.divisor c.args.digits c.requires.least c.requires.most

pub loop-init : goal.loop-init
loop-init c = (first c.power_of_two-power.result c.args.divisor c.args.digits c.power_of_two-power.ensures, mod-lt c.power_of_two-power.result (some c.args.divisor c.args.digits c.requires.least))

pub doubled-requires-clause-few : goal.doubled-requires-clause-few
doubled-requires-clause-few c = small_yet c.loop.quotient c.args.divisor c.loop.tail c.args.digits c.loop.counter c.loop.invariant.0 c.requires.least c.loop-test.true

pub loop-preserved : goal.loop-preserved
loop-preserved c = (next c.loop.quotient c.loop.tail c.doubled.result.0 c.doubled.result.1 c.args.divisor c.args.digits c.loop.counter c.doubled.ensures.value c.loop.invariant.0, c.doubled.ensures.below)

pub returns-clause-value : goal.returns-clause-value
returns-clause-value c = last c.loop.quotient c.args.divisor c.loop.tail c.args.digits c.loop.counter c.loop.invariant.0 c.loop.invariant.1 c.loop-test.false c.loop.auto.counter-end

pub returns-clause-small : goal.returns-clause-small
returns-clause-small c = small_at_last c.loop.quotient c.args.divisor c.loop.tail c.args.digits c.loop.counter c.loop.invariant.0 c.requires.least c.loop.auto.counter-end
