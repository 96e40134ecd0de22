use Rattle.std.proofs.Common.{◌∙◌, ℕ, ◌<◌, ◌≤◌, max, length, ap, subst, arith}
use Rattle.std.proofs.lemmas.List.FromFn.{length-range_with_len}
use Rattle.base_graph.specs.Paths.{numbers}
use Rattle.base_graph.proofs.Numbers.{drop_next}
use Rattle.problem.specs.declared.parts.ProblemParts.{ProblemParts}
use Rattle.problem.proofs.ValidatedFacts.{parts-is_validated, few_nodes}
use Rattle.theory.specs.View.{problem_of}
use Rattle.policy_evaluate.specs.TooBig.{most_size, node_size}
use Rattle.policy_evaluate.proofs.Sizing.{most_done, most_goes}
use Rattle.policy_evaluate.proofs.stage_sizes.most_size.Goals as goal

pub overflow_cast-count : goal.overflow_cast-count
overflow_cast-count c =
    let few : length c.args.problem.now.parts.nodes ≤ 1000 = few_nodes c.args.problem.now.parts (parts-is_validated c.args.problem.now c.parts.ensures.validated) in
    let len = c.len-count.ensures ∙ ap (λ (r : ProblemParts). length r.nodes) c.parts.ensures.value in
    grind (arith, few, len)

pub loop-node-preserved : goal.loop-node-preserved
loop-node-preserved c =
    let count = length c.args.problem.now.parts.nodes in
    let len = c.len-count.ensures ∙ ap (λ (r : ProblemParts). length r.nodes) c.parts.ensures.value in
    let inside : c.loop-node.node < count = subst (λ (k : ℕ). c.loop-node.node < k) len c.loop-node-test.true in
    most_goes (node_size (problem_of c.args.problem.now)) (numbers count) c.loop-node.node c.args.cap c.loop-node.node c.loop-node.most c.max-most.result (drop_next c.loop-node.node count inside) c.loop-node.invariant
    (c.max-most.ensures ∙ ap (λ (k : ℕ). max c.loop-node.most k) c.node_size.ensures)

pub returns : goal.returns
unfolding most_size
returns c =
    let count = length c.args.problem.now.parts.nodes in
    let len = c.len-count.ensures ∙ ap (λ (r : ProblemParts). length r.nodes) c.parts.ensures.value in
    let end : length (numbers count) ≤ c.loop-node.node = omega (arith, length-range_with_len 0 count, len, c.loop-node-test.false) in
    most_done (node_size (problem_of c.args.problem.now)) (numbers count) c.args.cap c.loop-node.node c.loop-node.most end c.loop-node.invariant
