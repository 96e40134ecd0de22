use Rattle.std.proofs.Common.{◌≡◌, ℕ, ℤ, pos, ◌+ℤ◌, ◌<◌, ◌≤◌, drop, List, length, to_z, arith, ap, sym, subst, ◌∙◌}
use mir.Syntax.{w128}
use Rattle.std.proofs.lemmas.Int.{to_z-of_z}
use Rattle.problem.specs.declared.parts.ProblemParts.{ProblemParts}
use Rattle.problem.specs.Validated.{initial_values}
use Rattle.std.proofs.lemmas.List.{drop_all}
use lib.IntN.{+ℤ_idr}
use Rattle.base_num.specs.Sums.{total}
use Rattle.theory.specs.Problem.{Successor}
use Rattle.theory.specs.View.{problem_of, successors_of}
use Rattle.theory.proofs.Views.{root-problem_of, initial-problem_of, length-successors_of}
use Rattle.cut_pool.proofs.Weighted.{part, known, starts, root, next_read}
use Rattle.cut_pool.proofs.pools.Pools.weighted.Goals as goal

pub value_at-value-requires-clause-known : goal.value_at-value-requires-clause-known
value_at-value-requires-clause-known c =
    let nodes : c.as_slice-nodes.result.now ≡ c.args.problem.now.parts.root = c.as_slice-nodes.ensures ∙ ap (λ (r : ProblemParts). r.root) c.parts-parts.ensures.value in
    rw nodes (known c.args.problem.now c.loop-i.i 0 c.parts-parts.ensures.validated (rw nodes at c.loop-i-test.true))

pub value_at-value-requires-clause-inside : goal.value_at-value-requires-clause-inside
value_at-value-requires-clause-inside c =
    let nodes : c.as_slice-nodes.result.now ≡ c.args.problem.now.parts.root = c.as_slice-nodes.ensures ∙ ap (λ (r : ProblemParts). r.root) c.parts-parts.ensures.value in
    rw (nodes, c.initial-state.ensures) (starts c.args.problem.now c.loop-i.i c.parts-parts.ensures.validated (rw nodes at c.loop-i-test.true))

pub bounds-weights-i : goal.bounds-weights-i
bounds-weights-i c =
    let nodes : c.as_slice-nodes.result.now ≡ c.args.problem.now.parts.root = c.as_slice-nodes.ensures ∙ ap (λ (r : ProblemParts). r.root) c.parts-parts.ensures.value in
    let weights : c.as_slice-weights.result.now ≡ c.args.problem.now.parts.root_weights = c.as_slice-weights.ensures ∙ ap (λ (r : ProblemParts). r.root_weights) c.parts-parts.ensures.value in
    let inside : c.loop-i.i < length c.args.problem.now.parts.root = rw nodes at c.loop-i-test.true in
    rw weights (subst (λ (n : ℕ). c.loop-i.i < n) (sym (root c.args.problem.now c.parts-parts.ensures.validated).lengths) inside)

pub add_product-sum-requires : goal.add_product-sum-requires
add_product-sum-requires c =
    let more = next_read c.args.problem.now c.args.self.now.lists c.parts-parts.result.now c.as_slice-nodes.result.now c.as_slice-weights.result.now c.initial-state.result.now c.loop-i.i (to_z w128 c.loop-i.sum-bits) c.from.result c.value_at-value.result
    c.parts-parts.ensures.validated c.parts-parts.ensures.value c.as_slice-nodes.ensures c.as_slice-weights.ensures c.initial-state.ensures c.loop-i-test.true (record { sfits = c.from.type_inv }) (record { sfits = c.value_at-value.type_inv }) c.from.ensures c.value_at-value.ensures.value c.value_at-value.ensures.small c.loop-i.invariant.value c.loop-i.invariant.room in
    record { product = more.fits; whole = more.whole }

pub loop-i-preserved : goal.loop-i-preserved
loop-i-preserved c =
    let more = next_read c.args.problem.now c.args.self.now.lists c.parts-parts.result.now c.as_slice-nodes.result.now c.as_slice-weights.result.now c.initial-state.result.now c.loop-i.i (to_z w128 c.loop-i.sum-bits) c.from.result c.value_at-value.result
    c.parts-parts.ensures.validated c.parts-parts.ensures.value c.as_slice-nodes.ensures c.as_slice-weights.ensures c.initial-state.ensures c.loop-i-test.true (record { sfits = c.from.type_inv }) (record { sfits = c.value_at-value.type_inv }) c.from.ensures c.value_at-value.ensures.value c.value_at-value.ensures.small c.loop-i.invariant.value c.loop-i.invariant.room in
    let sum = to_z-of_z w128 c.add_product-sum.result (record { sfits = c.add_product-sum.type_inv }) ∙ c.add_product-sum.ensures in
    rw sum (record { value = more.value; room = more.room })

pub returns : goal.returns
returns c =
    let nodes : c.as_slice-nodes.result.now ≡ c.args.problem.now.parts.root = c.as_slice-nodes.ensures ∙ ap (λ (r : ProblemParts). r.root) c.parts-parts.ensures.value in
    let p = c.args.problem.now in
    let count : length (successors_of p.parts.root p.parts.root_weights) ≡ length p.parts.root = length-successors_of p.parts.root p.parts.root_weights (root p c.parts-parts.ensures.validated).lengths in
    let past : length p.parts.root ≤ c.loop-i.i = rw nodes at c.loop-i-test.false in
    let none : total (part c.args.self.now.lists (initial_values p.parts)) (drop c.loop-i.i (successors_of p.parts.root p.parts.root_weights)) ≡ pos 0 = ap (total (part c.args.self.now.lists (initial_values p.parts))) (drop_all c.loop-i.i (successors_of p.parts.root p.parts.root_weights) (omega arith)) in
    let whole : total (part c.args.self.now.lists (initial_values p.parts)) (successors_of p.parts.root p.parts.root_weights) ≡ to_z w128 c.loop-i.sum-bits = c.loop-i.invariant.value ∙ ap (λ (k : ℤ). to_z w128 c.loop-i.sum-bits +ℤ k) none ∙ +ℤ_idr (to_z w128 c.loop-i.sum-bits) in
    sym whole
    ∙ ap (λ (x : List ℤ). total (part c.args.self.now.lists x) (successors_of p.parts.root p.parts.root_weights)) (sym (initial-problem_of p))
    ∙ ap (λ (ls : List Successor). total (part c.args.self.now.lists (problem_of p).initial) ls) (sym (root-problem_of p))
