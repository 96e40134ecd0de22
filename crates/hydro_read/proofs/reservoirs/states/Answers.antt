use Rattle.std.proofs.Common.{sym, arith}
use Rattle.hydro_read.proofs.Sums.{states-past}
use Rattle.hydro_read.proofs.reservoirs.states.Goals as goal

pub returns-in_default-checked_sub : goal.returns-in_default-checked_sub
returns-in_default-checked_sub c =
    let l = c.loop-reservoir in
    let x = c.reservoir-item.result in
    rw c.at-too_many.ensures (sym (states-past c.args.reservoirs.now l.left l.reservoir-index c.travel_stages.result x x (omega arith) c.reservoir-item.is c.travel_stages.ensures l.invariant (omega arith)))
