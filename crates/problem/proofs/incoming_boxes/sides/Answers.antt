use Rattle.std.proofs.Common.{◌∙◌, [], length}
use Rattle.problem.specs.Hull.{hull}
use Rattle.problem.proofs.Tables.{below, entry_for}
use Rattle.problem.proofs.incoming_boxes.sides.Goals as goal

pub list_at-requires : goal.list_at-requires
list_at-requires c = below (hull c.args.side c.args.parts.now) c.args.inner.now c.loop-node.node c.len-node-end.result (length c.args.parts.now.nodes) c.requires c.loop-node-test.true c.len-node-end.ensures

pub side_of-requires : goal.side_of-requires
side_of-requires c = c.list_at.ensures ∙ entry_for (hull c.args.side c.args.parts.now) c.args.inner.now c.loop-node.node c.len-node-end.result (length c.args.parts.now.nodes) [] c.requires c.loop-node-test.true c.len-node-end.ensures
