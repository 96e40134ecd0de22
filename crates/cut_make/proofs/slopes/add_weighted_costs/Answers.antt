use Rattle.std.proofs.Common.{◌≡◌, ◌≤◌, ℤ, pos, ◌+ℤ◌, ◌*ℤ◌, [], ◌∷◌, List, length, sum, to_z, of_z, refl, ap, sym, subst, ◌∙◌}
use mir.Syntax.{w128}
use Rattle.std.specs.Int.{int_wrap}
use Rattle.std.proofs.lemmas.Int.{to_z-of_z}
use Rattle.base_num.specs.Sums.{entry}
use Rattle.base_num.proofs.Ring.{ring, var, num, ◌⊕◌, ◌⊗◌}
use Rattle.theory.specs.Problem.{Node}
use Rattle.theory.specs.View.{node_of}
use Rattle.theory.specs.CutOf.{scale}
use Rattle.cut_make.specs.Congruent.{Congruent}
use Rattle.cut_make.specs.Sized.{Sized, unboxed}
use Rattle.cut_make.proofs.Congruence.{same_add, same_times, same_read}
use Rattle.cut_make.proofs.CutSlopes.{costs_inside}
use Rattle.cut_make.proofs.Tables.{tabled_as}
use Rattle.cut_make.proofs.slopes.add_weighted_costs.Goals as goal

alone : (w s e : ℤ) → pos 0 +ℤ w *ℤ s *ℤ e ≡ w *ℤ (s *ℤ e)
alone w s e = ring (w ∷ s ∷ e ∷ []) (num (pos 0) ⊕ var 0 ⊗ var 1 ⊗ var 2) (var 0 ⊗ (var 1 ⊗ var 2)) tt

pub add_numbers-requires : goal.add_numbers-requires
add_numbers-requires c =
    let h = c.args.here.now in
    subst (λ (xs : List ℤ). length xs ≤ length c.args.sums.now) (sym c.as_slice.ensures) (costs_inside h.pools.now.lists h.node.now h.subproblem.now h.low.now h.weights.now c.requires.sized (length c.args.sums.now) c.requires.table)

pub returns-clause-value : goal.returns-clause-value
unfolding node_of
returns-clause-value c =
    let h = c.args.here.now in
    let z : Sized h.pools.now.lists h.node.now h.subproblem.now h.low.now h.weights.now = c.requires.sized in
    let n : Node = unboxed h.weights.now h.node.now h.subproblem.now in
    let w : ℤ = pos (sum h.weights.now) in
    let s : ℤ = scale n in
    let weight : to_z w128 (of_z w128 c.from.result) ≡ w = to_z-of_z w128 c.from.result (record { sfits = c.from.type_inv }) ∙ c.from.ensures ∙ ap pos c.total.ensures in
    let factor : to_z w128 (of_z w128 c.scale.result) ≡ s = to_z-of_z w128 c.scale.result (record { sfits = c.scale.type_inv }) ∙ c.scale.ensures in
    let product : Congruent (to_z w128 (of_z w128 c.wrapping_product-factor.result)) (w *ℤ s) =
    same_read c.wrapping_product-factor.result (record { sfits = c.wrapping_product-factor.type_inv }) ∙ c.wrapping_product-factor.ensures ∙ same_times _ _ w s (ap (int_wrap w128) weight) (ap (int_wrap w128) factor) in
    λ t. tabled_as _ _ c.add_numbers.new.sums
    (λ k. let e : ℤ = entry h.subproblem.now.state_costs k in
    same_add (pos 0) _ (pos 0) (w *ℤ s *ℤ e) refl (same_times _ _ (w *ℤ s) e product (ap (λ (xs : List ℤ). int_wrap w128 (entry xs k)) c.as_slice.ensures))
    ∙ ap (int_wrap w128) (alone w s e))
    (c.add_numbers.ensures.value (λ k. pos 0) t)
