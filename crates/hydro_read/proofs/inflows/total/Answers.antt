use Rattle.std.proofs.Common.{sym, arith}
use Rattle.hydro_read.proofs.Sums.{total-past}
use Rattle.hydro_read.proofs.inflows.total.Goals as goal

pub returns-in_default : goal.returns-in_default
returns-in_default c =
    let l = c.loop-inflow in
    let x = c.inflow-item.result in
    rw c.at.ensures (sym (total-past c.args.place c.args.inflows.now l.left l.inflow-index x x (omega arith) c.inflow-item.is l.invariant (omega arith)))
