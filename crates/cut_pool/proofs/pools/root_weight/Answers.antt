use Rattle.std.proofs.Common.{◌≡◌, ℕ, ℤ, pos, ◌<◌, ◌≤ℤ◌, List, sum, to_z, of_z, arith, ap, sym, ◌∙◌}
use mir.Syntax.{w128}
use Rattle.std.proofs.lemmas.Int.{ints, to_z-of_z}
use Rattle.problem.specs.declared.parts.ProblemParts.{ProblemParts}
use Rattle.cut_pool.proofs.Weighted.{root, root_weights, root_some}
use Rattle.cut_pool.proofs.pools.root_weight.Goals as goal

pub total-requires : goal.total-requires
total-requires c =
    let weights : c.as_slice.result.now ≡ c.args.problem.now.parts.root_weights = c.as_slice.ensures ∙ ap (λ (r : ProblemParts). r.root_weights) c.parts.ensures.value in
    rw weights (root c.args.problem.now c.parts.ensures.validated).few

pub returns-clause-value : goal.returns-clause-value
returns-clause-value c =
    let weights : c.as_slice.result.now ≡ c.args.problem.now.parts.root_weights = c.as_slice.ensures ∙ ap (λ (r : ProblemParts). r.root_weights) c.parts.ensures.value in
    to_z-of_z w128 c.from.result (record { sfits = c.from.type_inv }) ∙ c.from.ensures ∙ ap pos (c.total.ensures ∙ ap (λ (ws : List ℕ). sum ws) weights ∙ sym (root_weights c.args.problem.now c.parts.ensures.validated))

positive : (n : ℤ) (k : ℕ) → n ≡ pos k → 0 < k → pos 1 ≤ℤ n
positive n k e h = omega (arith, ints)

pub returns-clause-some : goal.returns-clause-some
returns-clause-some c =
    let weights : c.as_slice.result.now ≡ c.args.problem.now.parts.root_weights = c.as_slice.ensures ∙ ap (λ (r : ProblemParts). r.root_weights) c.parts.ensures.value in
    positive (to_z w128 (of_z w128 c.from.result)) (sum c.args.problem.now.parts.root_weights)
    (to_z-of_z w128 c.from.result (record { sfits = c.from.type_inv }) ∙ c.from.ensures ∙ ap pos (c.total.ensures ∙ ap (λ (ws : List ℕ). sum ws) weights)) (root_some c.args.problem.now c.parts.ensures.validated)
