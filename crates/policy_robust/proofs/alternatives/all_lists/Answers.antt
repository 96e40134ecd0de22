use Rattle.std.proofs.Common.{arith}
use Rattle.std.proofs.lemmas.Result.{err_from_is_err_and}
use Rattle.serde_json.specs.View.{members_view}
use Rattle.read_json.proofs.Walks.{list-go, list-fail, list-done}
use Rattle.policy_robust.specs.Alternatives.{next_node_at}
use Rattle.policy_robust.proofs.alternatives.all_lists.Goals as goal

pub returns-in_err-next_node : goal.returns-in_err-next_node
returns-in_err-next_node c =
    let l = c.loop-n in
    let p = err_from_is_err_and c.from_residual-in_err-next_node.result c.from_residual-in_err-next_node.ensures.1 in
    rw (p.1, p.2) (list-fail (next_node_at (members_view c.args.table.now.entries)) l.found l.n c.index-nodes-n.result c.index-nodes-n.result c.args.nodes.now _ c.in_err-next_node.field-0.0 (omega arith) c.index-nodes-n.is c.in_err-next_node.ensures l.invariant)

pub loop-n-preserved : goal.loop-n-preserved
loop-n-preserved c =
    let l = c.loop-n in
    list-go (next_node_at (members_view c.args.table.now.entries)) l.found c.next_node.new.found l.n c.index-nodes-n.result c.index-nodes-n.result c.args.nodes.now _ (omega arith) c.index-nodes-n.is c.in_ok-next_node.ensures l.invariant

pub returns : goal.returns
returns c = let l = c.loop-n in list-done (next_node_at (members_view c.args.table.now.entries)) l.found l.n c.args.nodes.now _ (omega arith) l.invariant
