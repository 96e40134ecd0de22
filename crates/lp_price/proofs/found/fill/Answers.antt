use Rattle.std.proofs.Common.{sym}
use Rattle.lp_price.specs.Found.{point_value_at}
use Rattle.lp_price.proofs.Nexts.{each_stops}
use Rattle.lp_price.proofs.found.fill.Goals as goal

pub returns-in-None : goal.returns-in-None
returns-in-None c = each_stops (point_value_at c.args.table.now) _ c.loop-j.found c.args.columns.now c.loop-j.j _ c.loop-j-test.true (sym c.in-None.ensures) c.loop-j.invariant
