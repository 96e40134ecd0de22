use Rattle.std.proofs.Common.{of_z, to_z, SFits}
use mir.Syntax.{w128}
use Rattle.lp_wide_table.proofs.Shifts.{shift_in_fits, shift_small, shift_great}
use Rattle.lp_wide_table.proofs.wide.Wide.shift_down.Goals as goal

pub shift_in-requires-clause-fits : goal.shift_in-requires-clause-fits
shift_in-requires-clause-fits c = shift_in_fits (to_z w128 (of_z w128 c.self.inside.high)) c.args.k c.self.inside.low c.shifted_out.result c.if-k-lt128.true c.self.invariant.1 c.shifted_out.ensures

pub returns-then-k-lt128 : goal.returns-then-k-lt128
returns-then-k-lt128 c =
    let fits : SFits w128 c.shift_down.result = record { sfits = c.shift_down.type_inv } in
    shift_small c.args.self c.self.inside.high c.shift_down.result c.self.inside.low c.args.k c.shifted_out.result c.shift_in.result c.if-k-lt128.true c.self.invariant.0 fits c.self.view_is c.shift_down.ensures c.shifted_out.ensures c.shift_in.ensures

pub returns-else-k-lt128 : goal.returns-else-k-lt128
returns-else-k-lt128 c =
    let down = c.shift_down-else-k-lt128 in
    let fits : SFits w128 down.result = record { sfits = down.type_inv } in
    shift_great c.args.self c.self.inside.high down.result c.from_i128.result c.self.inside.low c.args.k c.if-k-lt128.false c.self.invariant.0 fits c.self.invariant.1 c.self.view_is down.ensures c.from_i128.ensures
