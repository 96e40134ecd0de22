use Rattle.std.proofs.Common.{◌≡◌, ℤ, negsuc, ◌+ℤ◌, ◌-ℤ◌, ◌*ℤ◌, [], ◌∷◌, List, w64, to_z, of_z, refl, ap, ◌∙◌}
use mir.Syntax.{w128}
use Rattle.std.specs.Int.{int_wrap}
use Rattle.std.proofs.lemmas.Int.{to_z-of_z}
use Rattle.base_num.specs.Sums.{Term, entry, at_terms}
use Rattle.base_num.proofs.Ring.{ring, var, num, ◌⊕◌, ◌⊗◌, ⊖}
use Rattle.theory.specs.CutOf.{side}
use Rattle.cut_make.specs.Congruent.{Congruent}
use Rattle.cut_make.proofs.Congruence.{same_add, same_times, same_read, same_wide}
use Rattle.cut_make.proofs.constants.add_side.Goals as goal

less : (a b : ℤ) → a +ℤ negsuc 0 *ℤ b ≡ a -ℤ b
less a b = ring (a ∷ b ∷ []) (var 0 ⊕ num (negsuc 0) ⊗ var 1) (var 0 ⊕ ⊖ (var 1)) tt

pub returns : goal.returns
returns c =
    let y : ℤ = c.args.multiplier in
    let b : ℤ = at_terms c.args.row.now.randoms (entry c.args.values.now) in
    let a : ℤ = side c.args.row.now y in
    let factor : Congruent (to_z w128 (of_z w128 c.from-2.result)) y = same_wide c.from-2.result y (record { sfits = c.from-2.type_inv }) c.ranges.multiplier c.from-2.ensures in
    let bound : Congruent (to_z w128 (of_z w128 c.from.result)) a =
    same_wide c.from.result c.row_side.result (record { sfits = c.from.type_inv }) (record { sfits = c.row_side.type_inv }) c.from.ensures ∙ ap (int_wrap w128) (c.row_side.ensures ∙ ap (side c.args.row.now) (to_z-of_z w64 y c.ranges.multiplier)) in
    let random : Congruent (to_z w128 (of_z w128 c.terms_at-random.result)) b = same_read c.terms_at-random.result (record { sfits = c.terms_at-random.type_inv }) ∙ c.terms_at-random.ensures ∙ ap (λ (ts : List Term). int_wrap w128 (at_terms ts (entry c.args.values.now))) c.as_slice.ensures in
    let level : Congruent (to_z w128 (of_z w128 c.wrapping_add_product-level.result)) (a -ℤ b) =
    same_read c.wrapping_add_product-level.result (record { sfits = c.wrapping_add_product-level.type_inv }) ∙ c.wrapping_add_product-level.ensures ∙ same_add _ _ a (negsuc 0 *ℤ b) bound (same_times (negsuc 0) _ (negsuc 0) b refl random) ∙ ap (int_wrap w128) (less a b) in
    same_read c.wrapping_add_product.result (record { sfits = c.wrapping_add_product.type_inv }) ∙ c.wrapping_add_product.ensures
    ∙ same_add _ _ c.args.sum (y *ℤ (a -ℤ b)) (same_read c.args.sum c.ranges.sum) (same_times _ _ y (a -ℤ b) factor level)
