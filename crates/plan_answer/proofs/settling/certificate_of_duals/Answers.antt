use Rattle.std.proofs.Common.{◌≡◌, length, drop}
use Rattle.theory.specs.Problem.{node_at}
use Rattle.theory.specs.View.{successors_of, problem_of}
use Rattle.theory.specs.Certificates.{RightAt}
use Rattle.theory.specs.declared.cut.Certificate.{Certificate}
use Rattle.plan_answer.specs.Settling.{settled_rows, settled_successors, settled_of}
use Rattle.plan_answer.proofs.SettledNode.{weights_there, nodes_there, cuts_there, if_ok, is_settled, is_right}
use Rattle.plan_answer.proofs.settling.certificate_of_duals.Goals as goal

pub settled_duals-requires-clause-weights : goal.settled_duals-requires-clause-weights
settled_duals-requires-clause-weights c =
    weights_there c.args.problem.now c.parts-parts.result.now c.as_slice.result.now c.args.node c.index-as_slice-node.result c.sub.result.now c.args.pools.now.lists c.parts-parts.ensures.validated c.parts-parts.ensures.value c.as_slice.ensures c.requires.known c.index-as_slice-node.is c.sub.ensures c.requires.fit

pub settled_duals-requires-clause-known : goal.settled_duals-requires-clause-known
settled_duals-requires-clause-known c =
    nodes_there c.args.problem.now c.parts-parts.result.now c.as_slice.result.now c.args.node c.index-as_slice-node.result c.sub.result.now c.args.pools.now.lists c.parts-parts.ensures.validated c.parts-parts.ensures.value c.as_slice.ensures c.requires.known c.index-as_slice-node.is c.sub.ensures c.requires.fit

pub settled_duals-requires-clause-some : goal.settled_duals-requires-clause-some
settled_duals-requires-clause-some c =
    cuts_there c.args.problem.now c.parts-parts.result.now c.as_slice.result.now c.args.node c.index-as_slice-node.result c.sub.result.now c.args.pools.now.lists c.parts-parts.ensures.validated c.parts-parts.ensures.value c.as_slice.ensures c.requires.known c.index-as_slice-node.is c.sub.ensures c.requires.fit

pub returns-clause-value : goal.returns-clause-value
returns-clause-value c =
    if_ok (λ (x : Certificate). x ≡ record { rows = settled_rows 0 c.sub.result.now.rows c.used_duals.result.now; cuts = settled_successors c.args.pools.now.lists (successors_of c.index-as_slice-node.result.successors c.index-as_slice-node.result.successor_weights) (drop (length c.sub.result.now.rows) c.used_duals.result.now) })
    (λ x. x ≡ settled_of c.args.pools.now.lists (node_at (problem_of c.args.problem.now) c.args.node) c.args.answer.now) c.settled_duals.result
    (λ x made. is_settled c.args.problem.now c.parts-parts.result.now c.as_slice.result.now c.args.node c.index-as_slice-node.result c.sub.result.now c.args.pools.now.lists c.parts-parts.ensures.validated c.parts-parts.ensures.value c.as_slice.ensures c.requires.known c.index-as_slice-node.is c.sub.ensures c.requires.fit c.args.answer.now c.used_duals.result.now x c.used_duals.ensures made)
    c.settled_duals.ensures

pub returns-clause-right : goal.returns-clause-right
returns-clause-right c =
    if_ok (λ (x : Certificate). x ≡ record { rows = settled_rows 0 c.sub.result.now.rows c.used_duals.result.now; cuts = settled_successors c.args.pools.now.lists (successors_of c.index-as_slice-node.result.successors c.index-as_slice-node.result.successor_weights) (drop (length c.sub.result.now.rows) c.used_duals.result.now) })
    (RightAt c.args.pools.now.lists (node_at (problem_of c.args.problem.now) c.args.node)) c.settled_duals.result
    (λ x made. is_right c.args.problem.now c.parts-parts.result.now c.as_slice.result.now c.args.node c.index-as_slice-node.result c.sub.result.now c.args.pools.now.lists c.parts-parts.ensures.validated c.parts-parts.ensures.value c.as_slice.ensures c.requires.known c.index-as_slice-node.is c.sub.ensures c.requires.fit c.args.answer.now c.used_duals.result.now x c.used_duals.ensures made)
    c.settled_duals.ensures
