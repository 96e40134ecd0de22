use Rattle.std.proofs.Common.{◌≡◌, ℤ, pos, negsuc, ◌+ℤ◌, ◌-ℤ◌, ◌*ℤ◌, [], ◌∷◌, List, w64, ap, ap₂, ◌∙◌}
use mir.Syntax.{w128}
use Rattle.std.specs.Int.{int_wrap}
use Rattle.std.proofs.lemmas.Int.{to_z-of_z}
use Rattle.base_num.specs.Sums.{Term, coefficient}
use Rattle.base_num.proofs.Ring.{ring, var, num, ◌⊕◌, ◌⊗◌, ⊖}
use Rattle.theory.specs.Problem.{S}
use Rattle.cut_make.proofs.Tables.{tabled_as}
use Rattle.cut_make.proofs.reduced_costs.add_row.Goals as goal

taken : (f y x : ℤ) → f +ℤ negsuc 16777215 *ℤ y *ℤ x ≡ f -ℤ pos S *ℤ (y *ℤ x)
unfolding S
taken f y x = ring (f ∷ y ∷ x ∷ []) (var 0 ⊕ num (negsuc 16777215) ⊗ var 1 ⊗ var 2) (var 0 ⊕ ⊖ (num (pos 16777216) ⊗ (var 1 ⊗ var 2))) tt

pub returns-then-multiplier-ne0-clause-value : goal.returns-then-multiplier-ne0-clause-value
returns-then-multiplier-ne0-clause-value c =
    let y : ℤ = c.args.multiplier in
    λ f t. tabled_as _ _ c.add_terms.new.sums
    (λ j. ap (int_wrap w128)
    (ap₂ (λ (a : ℤ) (ts : List Term). f j +ℤ negsuc 16777215 *ℤ a *ℤ coefficient ts j) (to_z-of_z w64 y c.ranges.multiplier) c.as_slice.ensures
    ∙ taken (f j) y (coefficient c.args.row.now.decisions j)))
    (c.add_terms.ensures.value f t)
