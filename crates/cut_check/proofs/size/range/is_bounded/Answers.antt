use Rattle.std.proofs.Common.{◌∙◌, sym, arith}
use Rattle.cut_check.proofs.SizeRange.{slopes_within, range_within, added}
use Rattle.cut_check.proofs.size.range.is_bounded.Goals as goal

pub returns-in-Some : goal.returns-in-Some
returns-in-Some c = λ some.
    let h = c.args.here.now in
    let list = c.args.list.now in
    let within = c.in-Some.ensures in
    let slopes = slopes_within h.pools.now.lists h.node.now h.subproblem.now h.low.now h.high.now h.weights.now c.requires.sized list (omega (arith, within, c.in-Some.size.in_range)) in
    range_within h.pools.now.lists h.node.now h.subproblem.now h.low.now h.high.now h.weights.now c.requires.sized list c.requires.list c.in-Some.size.total within
    (added c.plus_remainders.result c.in-Some.size.total _ (sym c.is_some.ensures ∙ some) (c.plus_remainders.ensures list c.requires.table slopes))
