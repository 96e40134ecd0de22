use Rattle.std.proofs.Common.{◌∙◌}
use Rattle.plan_mend.proofs.Framed.{low_is, high_is}
use Rattle.plan_mend.proofs.stage.box_at.Goals as goal

pub returns-clause-low : goal.returns-clause-low
returns-clause-low c =
    let s = c.args.stage.now in
    c.box_in.ensures.low ∙ low_is s.problem.now s.node c.sub.result.now c.requires.known c.sub.ensures c.as_slice.result.now c.args.at c.as_slice.ensures

pub returns-clause-high : goal.returns-clause-high
returns-clause-high c =
    let s = c.args.stage.now in
    c.box_in.ensures.high ∙ high_is s.problem.now s.node c.sub.result.now c.requires.known c.sub.ensures c.as_slice.result.now c.args.at c.as_slice.ensures
