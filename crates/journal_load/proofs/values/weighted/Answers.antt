use Rattle.std.proofs.Common.{◌≡◌, ℤ, pos, ◌+ℤ◌, drop, List, length, get_or, SFits, to_z, rules, arith, ap, sym, ◌∙◌}
use mir.Syntax.{w128}
use Rattle.std.proofs.lemmas.Int.{to_z-of_z}
use Rattle.std.proofs.lemmas.List.{drop_all}
use lib.IntN.{+ℤ_idr}
use Rattle.problem.specs.declared.parts.ProblemParts.{ProblemParts}
use Rattle.problem.specs.Validated.{initial_values}
use Rattle.base_num.specs.Sums.{total}
use Rattle.theory.specs.Problem.{Successor}
use Rattle.theory.specs.View.{problem_of, successors_of}
use Rattle.theory.proofs.Views.{root-problem_of, initial-problem_of, length-successors_of}
use Rattle.cut_pool.proofs.Weighted.{part, root}
use Rattle.journal_load.proofs.Raising.{values_count, next_value}
use Rattle.journal_load.proofs.values.weighted.Goals as goal

pub bounds-weights-i : goal.bounds-weights-i
bounds-weights-i c =
    let p = c.args.problem.now in
    let weights : c.as_slice-weights.result.now ≡ p.parts.root_weights = c.as_slice-weights.ensures ∙ ap (λ (r : ProblemParts). r.root_weights) c.parts.ensures.value in
    let count : length c.args.values.now ≡ length p.parts.root = ap (λ (xs : List ℤ). length xs) c.requires.values ∙ values_count p c.args.pools.now.lists in
    rw weights (omega (arith, count, (root p c.parts.ensures.validated).lengths, c.loop-i-test.true))

pub add_product-sum-requires : goal.add_product-sum-requires
add_product-sum-requires c =
    let p = c.args.problem.now in
    let fits : SFits w128 (get_or c.args.values.now c.loop-i.i (pos 0)) = search rules in
    let weights = c.as_slice-weights.ensures ∙ ap (λ (r : ProblemParts). r.root_weights) c.parts.ensures.value in
    let more = next_value p c.args.pools.now.lists c.args.values.now c.as_slice-weights.result.now c.loop-i.i (to_z w128 c.loop-i.sum-bits) c.from.result c.parts.ensures.validated c.requires.fit c.requires.values weights c.loop-i-test.true (record { sfits = c.from.type_inv }) fits c.from.ensures c.loop-i.invariant.value c.loop-i.invariant.room in
    record { product = more.fits; whole = more.whole }

pub loop-i-preserved : goal.loop-i-preserved
loop-i-preserved c =
    let p = c.args.problem.now in
    let fits : SFits w128 (get_or c.args.values.now c.loop-i.i (pos 0)) = search rules in
    let weights = c.as_slice-weights.ensures ∙ ap (λ (r : ProblemParts). r.root_weights) c.parts.ensures.value in
    let more = next_value p c.args.pools.now.lists c.args.values.now c.as_slice-weights.result.now c.loop-i.i (to_z w128 c.loop-i.sum-bits) c.from.result c.parts.ensures.validated c.requires.fit c.requires.values weights c.loop-i-test.true (record { sfits = c.from.type_inv }) fits c.from.ensures c.loop-i.invariant.value c.loop-i.invariant.room in
    let sum = to_z-of_z w128 c.add_product-sum.result (record { sfits = c.add_product-sum.type_inv }) ∙ c.add_product-sum.ensures in
    rw sum (record { value = more.value; room = more.room })

pub returns : goal.returns
returns c =
    let p = c.args.problem.now in
    let pools = c.args.pools.now.lists in
    let successors : length (successors_of p.parts.root p.parts.root_weights) ≡ length p.parts.root = length-successors_of p.parts.root p.parts.root_weights (root p c.parts.ensures.validated).lengths in
    let count : length c.args.values.now ≡ length p.parts.root = ap (λ (xs : List ℤ). length xs) c.requires.values ∙ values_count p pools in
    let none : total (part pools (initial_values p.parts)) (drop c.loop-i.i (successors_of p.parts.root p.parts.root_weights)) ≡ pos 0 = ap (total (part pools (initial_values p.parts))) (drop_all c.loop-i.i (successors_of p.parts.root p.parts.root_weights) (omega (arith, c.loop-i-test.false, successors, count))) in
    let whole : total (part pools (initial_values p.parts)) (successors_of p.parts.root p.parts.root_weights) ≡ to_z w128 c.loop-i.sum-bits = c.loop-i.invariant.value ∙ ap (λ (k : ℤ). to_z w128 c.loop-i.sum-bits +ℤ k) none ∙ +ℤ_idr (to_z w128 c.loop-i.sum-bits) in
    sym whole
    ∙ ap (λ (x : List ℤ). total (part pools x) (successors_of p.parts.root p.parts.root_weights)) (sym (initial-problem_of p))
    ∙ ap (λ (ls : List Successor). total (part pools (problem_of p).initial) ls) (sym (root-problem_of p))
