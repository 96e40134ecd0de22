use Rattle.std.proofs.Common.{string_bytes, arith}
use Rattle.std.proofs.lemmas.Result.{err_from_is_err_and}
use Rattle.std.proofs.lemmas.Grind.{common_steps}
use Rattle.serde_json.specs.View.{view}
use Rattle.serde_json.proofs.Views.{Entry}
use Rattle.read_json.specs.Steps.{Fails}
use Rattle.read_json.proofs.Walks.{members-go, members-fail, members-done}
use Rattle.read_file.specs.Nodes.{read_node_at, nodes_at}
use Rattle.read_file.proofs.nodes.nodes.Goals as goal

pub loop-name-init : goal.loop-name-init
unfolding nodes_at
loop-name-init c = grind (arith, common_steps)

pub returns-in_err-node : goal.returns-in_err-node
returns-in_err-node c =
    let l = c.loop-name in
    let e : Entry = (c.in-Some.name.now, c.in-Some.value.now) in
    let p = err_from_is_err_and c.from_residual-in_err-node.result c.from_residual-in_err-node.ensures.1 in
    let fails : Fails c.in_err-node.field-0.0 (read_node_at c.args.names.now c.args.subproblems.now l.found l.n (string_bytes e.0) (view e.1)) = rw (← c.as_str.ensures.value) c.in_err-node.ensures in
    rw (p.1, p.2) (members-fail (read_node_at c.args.names.now c.args.subproblems.now) l.found l.n e c.next.new.self l.name-iterator _ c.in_err-node.field-0.0 c.in-Some.ensures.steps fails l.invariant.walked)

pub loop-name-preserved : goal.loop-name-preserved
loop-name-preserved c =
    let l = c.loop-name in
    let e : Entry = (c.in-Some.name.now, c.in-Some.value.now) in
    record {
      can = tt;
      finite = tt;
      counted = grind (arith, common_steps);
      walked = members-go (read_node_at c.args.names.now c.args.subproblems.now) l.found c.node.new.found l.n e c.next.new.self l.name-iterator _ c.in-Some.ensures.steps (rw (← c.as_str.ensures.value) c.in_ok-node.ensures) l.invariant.walked;
    }

pub returns : goal.returns
returns c = let l = c.loop-name in members-done (read_node_at c.args.names.now c.args.subproblems.now) l.found l.n l.name-iterator _ c.in-None.ensures.steps.0 l.invariant.walked
