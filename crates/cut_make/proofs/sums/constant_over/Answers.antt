use Rattle.std.proofs.Common.{◌≡◌, ℤ, pos, ◌+ℤ◌, ◌-ℤ◌, ◌*ℤ◌, [], ◌∷◌, List, SFits, w64, zip, to_z, of_z, rules, refl, ap, ap₂, ◌∙◌}
use mir.Syntax.{w128}
use Rattle.std.specs.Int.{int_wrap}
use Rattle.base_num.specs.Sums.{total, entry, dot, at_terms}
use Rattle.base_num.proofs.Ring.{ring, var, num, ◌⊕◌, ◌⊗◌}
use Rattle.problem.specs.declared.parts.Row.{Row}
use Rattle.theory.specs.declared.cut.Cut.{Cut}
use Rattle.theory.specs.Problem.{S}
use Rattle.theory.specs.CutOf.{side}
use Rattle.cut_make.specs.Congruent.{Congruent}
use Rattle.cut_make.specs.Parts.{over_successors, least_at}
use Rattle.cut_make.proofs.Congruence.{same_add, same_times, same_read, same_wide}
use Rattle.cut_make.proofs.sums.constant_over.Goals as goal

ordered : (k f v p l : ℤ) → pos 0 +ℤ k *ℤ f +ℤ pos 16777216 *ℤ v +ℤ (p +ℤ l) ≡ k *ℤ f +ℤ pos S *ℤ v +ℤ p +ℤ l
unfolding S
ordered k f v p l = ring (k ∷ f ∷ v ∷ p ∷ l ∷ []) (num (pos 0) ⊕ var 0 ⊗ var 1 ⊕ num (pos 16777216) ⊗ var 2 ⊕ (var 3 ⊕ var 4)) (var 0 ⊗ var 1 ⊕ num (pos 16777216) ⊗ var 2 ⊕ var 3 ⊕ var 4) tt

pub returns : goal.returns
returns c =
    let k : ℤ = c.args.scale in
    let e : ℤ = c.args.here.now.subproblem.now.constant in
    let values : List ℤ = c.args.values.now in
    let d : ℤ = dot c.args.here.now.subproblem.now.random_costs values in
    let part : Row × ℤ → ℤ = λ (q : Row × ℤ). q.1 *ℤ (side q.0 q.1 -ℤ at_terms q.0.randoms (entry values)) in
    let v : ℤ = total part (zip c.args.here.now.subproblem.now.rows c.args.certificate.now.rows) in
    let p : ℤ = over_successors c.args.here.now.pools.now.lists c.args.here.now.node.now.successors c.args.certificate.now.cuts (λ (cut : Cut). cut.alpha) in
    let l : ℤ = least_at k c.args.here.now.pools.now.lists c.args.here.now.node.now c.args.here.now.subproblem.now c.args.certificate.now in
    let fe : SFits w64 e = search rules in
    let random : Congruent (to_z w128 (of_z w128 c.products-random.result)) d = same_read c.products-random.result (record { sfits = c.products-random.type_inv }) ∙ c.products-random.ensures ∙ ap (λ (xs : List ℤ). int_wrap w128 (dot xs values)) c.as_slice.ensures in
    let constant : Congruent (to_z w128 (of_z w128 c.from.result)) e = same_wide c.from.result e (record { sfits = c.from.type_inv }) fe c.from.ensures in
    let cost : Congruent (to_z w128 (of_z w128 c.wrapping_add-cost.result)) (e +ℤ d) = same_read c.wrapping_add-cost.result (record { sfits = c.wrapping_add-cost.type_inv }) ∙ c.wrapping_add-cost.ensures ∙ same_add _ _ e d constant random in
    let level : Congruent (to_z w128 (of_z w128 c.sides-level.result)) v = same_read c.sides-level.result (record { sfits = c.sides-level.type_inv }) ∙ c.sides-level.ensures ∙ ap₂ (λ (rows : List Row) (ys : List ℤ). int_wrap w128 (total part (zip rows ys))) c.as_slice-2.ensures c.as_slice-3.ensures in
    let fixed : Congruent (to_z w128 (of_z w128 c.args.fixed)) (p +ℤ l) = same_read c.args.fixed c.ranges.fixed ∙ c.requires.fixed in
    let start : Congruent (to_z w128 (of_z w128 c.wrapping_add_product.result)) (pos 0 +ℤ k *ℤ (e +ℤ d)) =
    same_read c.wrapping_add_product.result (record { sfits = c.wrapping_add_product.type_inv }) ∙ c.wrapping_add_product.ensures ∙ same_add (pos 0) _ (pos 0) (k *ℤ (e +ℤ d)) refl (same_times _ _ k (e +ℤ d) (same_read k c.ranges.scale) cost) in
    let staged : Congruent (to_z w128 (of_z w128 c.wrapping_add_product-staged.result)) (pos 0 +ℤ k *ℤ (e +ℤ d) +ℤ pos 16777216 *ℤ v) =
    same_read c.wrapping_add_product-staged.result (record { sfits = c.wrapping_add_product-staged.type_inv }) ∙ c.wrapping_add_product-staged.ensures ∙ same_add _ _ (pos 0 +ℤ k *ℤ (e +ℤ d)) (pos 16777216 *ℤ v) start (same_times (pos 16777216) _ (pos 16777216) v refl level) in
    same_read c.wrapping_add.result (record { sfits = c.wrapping_add.type_inv }) ∙ c.wrapping_add.ensures ∙ same_add _ _ (pos 0 +ℤ k *ℤ (e +ℤ d) +ℤ pos 16777216 *ℤ v) (p +ℤ l) staged fixed ∙ ap (int_wrap w128) (ordered k (e +ℤ d) v p l)
