use Rattle.cut_make.proofs.PartsOfNode.{node_parts}
use Rattle.cut_make.proofs.ValidatedWithin.{node_read}
use Rattle.cut_make.proofs.node_at.NodeAt.of.Goals as goal

pub returns-clause-parts : goal.returns-clause-parts
returns-clause-parts c =
    let the_node = node_read c.args.problem.now c.parts.result.now c.as_slice.result.now c.args.node c.index-as_slice-node.result c.parts.ensures.value c.as_slice.ensures c.requires.known c.index-as_slice-node.is in
    node_parts c.args.problem.now c.args.node c.args.pools.now.lists c.args.weights.now c.index-as_slice-node.result c.sub.result.now c.lo.result.now c.hi.result.now c.parts.ensures.validated c.requires.known c.requires.fit.lists c.requires.weighs the_node c.sub.ensures c.lo.ensures c.hi.ensures
