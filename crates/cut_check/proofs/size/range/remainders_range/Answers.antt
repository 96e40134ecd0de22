use Rattle.std.proofs.Common.{length, Some, ap, sym, ◌∙◌, arith}
use Rattle.cut_check.proofs.SizeRange.{ended, slopes_within, range_ends}
use Rattle.cut_check.proofs.size.range.remainders_range.Goals as goal

pub returns-in-Some : goal.returns-in-Some
returns-in-Some c = λ list each table whole.
    let slopes = slopes_within c.args.here.now.pools.now.lists c.args.here.now.node.now c.args.here.now.subproblem.now c.args.here.now.low.now c.args.here.now.high.now c.args.here.now.weights.now c.requires.sized list (omega (arith, whole, c.args.size.in_range)) in
    sym (range_ends c.args.here.now.pools.now.lists c.args.here.now.node.now c.args.here.now.subproblem.now c.args.here.now.low.now c.args.here.now.high.now c.args.here.now.weights.now c.requires.sized list each c.args.size.total c.plus_remainders.result whole c.args.size.in_range (c.plus_remainders.ensures list table slopes) ∙ ap (ended (length list)) c.in-Some.is)

pub returns-in-None : goal.returns-in-None
returns-in-None c = λ list each table whole.
    let slopes = slopes_within c.args.here.now.pools.now.lists c.args.here.now.node.now c.args.here.now.subproblem.now c.args.here.now.low.now c.args.here.now.high.now c.args.here.now.weights.now c.requires.sized list (omega (arith, whole, c.args.size.in_range)) in
    sym (range_ends c.args.here.now.pools.now.lists c.args.here.now.node.now c.args.here.now.subproblem.now c.args.here.now.low.now c.args.here.now.high.now c.args.here.now.weights.now c.requires.sized list each c.args.size.total c.plus_remainders.result whole c.args.size.in_range (c.plus_remainders.ensures list table slopes) ∙ ap (ended (length list)) c.in-None.is ∙ ap Some each)
