use Rattle.journal_record.proofs.Taken.{known_node}
use Rattle.journal_record.proofs.steps.step.Goals as goal

pub sizes_of-requires : goal.sizes_of-requires
sizes_of-requires c = known_node c.args.problem.now c.args.before c.args.last c.args.bytes.now (c.in_ok-node.node, c.in_ok-node.tail.now) c.in_ok-node.ensures
