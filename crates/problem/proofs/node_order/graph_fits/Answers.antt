use Rattle.std.proofs.Common.{◌≡◌, arith}
use Rattle.std.proofs.lemmas.Grind.{common_steps}
use Rattle.problem.specs.Validated.{graph_of, graph_fits}
use Rattle.problem.proofs.ValidatedFacts.{known_graph, few_in_graph}
use Rattle.problem.proofs.node_order.graph_fits.Goals as goal

pub successors_in_order_fit-requires-clause-known : goal.successors_in_order_fit-requires-clause-known
successors_in_order_fit-requires-clause-known c =
    let known = known_graph c.args.parts.now c.requires in
    let same : c.as_slice-3.result.now ≡ graph_of c.args.parts.now = grind (arith, common_steps) in
    rw same known

pub successors_in_order_fit-requires-clause-count : goal.successors_in_order_fit-requires-clause-count
successors_in_order_fit-requires-clause-count c =
    let few = few_in_graph c.args.parts.now c.requires in
    let same : c.as_slice-3.result.now ≡ graph_of c.args.parts.now = grind (arith, common_steps) in
    rw same few

pub returns : goal.returns
unfolding graph_fits
returns c =
    let same : c.as_slice-3.result.now ≡ graph_of c.args.parts.now = grind (arith, common_steps) in
    let e = c.successors_in_order_fit.ensures in
    rw (same, c.as_slice-2.ensures) at e
