use Rattle.std.proofs.Common.{◌∙◌, [], length}
use Rattle.base_graph.specs.Ranks.{predecessors}
use Rattle.problem.specs.Validated.{graph_of}
use Rattle.problem.proofs.Tables.{below, entry_for}
use Rattle.problem.proofs.hull.hulls.Goals as goal

pub list_at-into-requires : goal.list_at-into-requires
list_at-into-requires c = below (predecessors (graph_of c.args.parts.now)) c.args.into.now c.loop-node.node c.len-node-end.result (length c.args.parts.now.nodes) c.requires.into c.loop-node-test.true c.len-node-end.ensures

pub hull_of-requires-clause-into : goal.hull_of-requires-clause-into
hull_of-requires-clause-into c =
    c.list_at-into.ensures
    ∙ entry_for (predecessors (graph_of c.args.parts.now)) c.args.into.now c.loop-node.node c.len-node-end.result (length c.args.parts.now.nodes) [] c.requires.into c.loop-node-test.true c.len-node-end.ensures
