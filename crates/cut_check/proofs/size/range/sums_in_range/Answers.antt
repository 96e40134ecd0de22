use Rattle.cut_check.proofs.SizeRange.{range_stops}
use Rattle.cut_check.proofs.size.range.sums_in_range.Goals as goal

pub returns-in-Err : goal.returns-in-Err
returns-in-Err c = range_stops c.args.here.now.pools.now.lists c.args.here.now.node.now c.args.here.now.subproblem.now c.args.here.now.low.now c.args.here.now.high.now c.args.here.now.weights.now c.requires.sized c.args.list.now c.requires.list c.in-Err.realization c.in-Err.ensures
