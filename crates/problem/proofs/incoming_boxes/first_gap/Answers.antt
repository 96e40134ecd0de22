use Rattle.std.proofs.Common.{◌∙◌, [], length}
use Rattle.problem.specs.Hull.{hull}
use Rattle.problem.specs.declared.side.Side.TheVariants.{Low, High}
use Rattle.problem.proofs.Tables.{below, entry_for}
use Rattle.problem.proofs.incoming_boxes.first_gap.Goals as goal

pub list_at-requires : goal.list_at-requires
list_at-requires c = below (hull Low c.args.parts.now) c.args.low.now c.loop-node.node c.len-node-end.result (length c.args.parts.now.nodes) c.requires.low c.loop-node-test.true c.len-node-end.ensures

pub list_at-requires-in-loop-node : goal.list_at-requires-in-loop-node
list_at-requires-in-loop-node c = below (hull High c.args.parts.now) c.args.high.now c.loop-node.node c.len-node-end.result (length c.args.parts.now.nodes) c.requires.high c.loop-node-test.true c.len-node-end.ensures

pub gap_at-requires-clause-low : goal.gap_at-requires-clause-low
gap_at-requires-clause-low c =
    c.list_at.ensures ∙ entry_for (hull Low c.args.parts.now) c.args.low.now c.loop-node.node c.len-node-end.result (length c.args.parts.now.nodes) [] c.requires.low c.loop-node-test.true c.len-node-end.ensures

pub gap_at-requires-clause-high : goal.gap_at-requires-clause-high
gap_at-requires-clause-high c =
    c.list_at-in-loop-node.ensures ∙ entry_for (hull High c.args.parts.now) c.args.high.now c.loop-node.node c.len-node-end.result (length c.args.parts.now.nodes) [] c.requires.high c.loop-node-test.true c.len-node-end.ensures
