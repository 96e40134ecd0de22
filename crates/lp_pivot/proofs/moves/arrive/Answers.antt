use Rattle.lp_pivot.proofs.Arrivals.{arrived_none, arrived_some}
use Rattle.lp_pivot.proofs.moves.arrive.Goals as goal

pub returns-then-not-enter-clause-arrived : goal.returns-then-not-enter-clause-arrived
returns-then-not-enter-clause-arrived c =
    arrived_none c.args.table.now c.pass_all.new.table c.args.swap.leaving c.args.swap.above c.args.swap.place c.args.step c.args.flips.now c.pass_all.ensures.kept c.pass_all.ensures.passed c.if-not-enter.ensures.reached

pub returns-clause-arrived : goal.returns-clause-arrived
returns-clause-arrived c =
    arrived_some c.args.table.now c.pass_all.new.table c.args.swap.leaving c.args.swap.above c.args.swap.place c.args.step c.args.flips.now c.pass_all.ensures.kept c.pass_all.ensures.passed c.enter.new.table c.put.new.table.values c.enter.ensures.kept c.if-not-enter.ensures.reached c.put.ensures.put
