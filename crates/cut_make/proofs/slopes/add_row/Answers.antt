use Rattle.std.proofs.Common.{◌≡◌, ℤ, ◌+ℤ◌, ◌*ℤ◌, [], ◌∷◌, w64, ap, ◌∙◌}
use mir.Syntax.{w128}
use Rattle.std.specs.Int.{int_wrap}
use Rattle.std.proofs.lemmas.Int.{to_z-of_z}
use Rattle.base_num.specs.Sums.{coefficient}
use Rattle.base_num.proofs.Ring.{ring, var, ◌⊕◌, ◌⊗◌}
use Rattle.cut_make.proofs.Tables.{tabled_as}
use Rattle.cut_make.proofs.slopes.add_row.Goals as goal

grouped : (f k y x : ℤ) → f +ℤ k *ℤ y *ℤ x ≡ f +ℤ k *ℤ (y *ℤ x)
grouped f k y x = ring (f ∷ k ∷ y ∷ x ∷ []) (var 0 ⊕ var 1 ⊗ var 2 ⊗ var 3) (var 0 ⊕ var 1 ⊗ (var 2 ⊗ var 3)) tt

pub returns-then-multiplier-ne0-clause-value : goal.returns-then-multiplier-ne0-clause-value
returns-then-multiplier-ne0-clause-value c =
    let k : ℤ = c.args.factor in
    let y : ℤ = c.args.multiplier in
    λ f t. tabled_as _ _ c.add_terms.new.sums
    (λ j. ap (int_wrap w128)
    ((λ i. f j +ℤ to_z-of_z w64 k c.ranges.factor i *ℤ to_z-of_z w64 y c.ranges.multiplier i *ℤ coefficient (c.as_slice.ensures i) j)
    ∙ grouped (f j) k y (coefficient c.args.row.now.states j)))
    (c.add_terms.ensures.value f t)
