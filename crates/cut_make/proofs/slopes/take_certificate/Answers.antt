use Rattle.std.proofs.Common.{◌≡◌, ℕ, ℤ, pos, negsuc, ◌+ℤ◌, ◌-ℤ◌, ◌*ℤ◌, [], ◌∷◌, List, zip, Fits, SFits, w32, w64, to_z, of_z, arith, ap, ap₂, ◌∙◌}
use mir.Syntax.{w128}
use Rattle.std.specs.Int.{int_wrap}
use Rattle.std.proofs.lemmas.Int.{ints, to_z-of_z, fits_signed_from_abs}
use Rattle.base_num.specs.Sums.{total, coefficient}
use Rattle.base_num.proofs.Ring.{ring, var, num, ◌⊕◌, ◌⊗◌, ⊖}
use Rattle.problem.specs.declared.parts.Row.{Row}
use Rattle.theory.specs.Problem.{S}
use Rattle.cut_make.proofs.Tables.{tabled_as}
use Rattle.cut_make.proofs.slopes.take_certificate.Goals as goal

weighted : (f w y : ℤ) → f +ℤ negsuc 16777215 *ℤ w *ℤ y ≡ f -ℤ w *ℤ (pos S *ℤ y)
unfolding S
weighted f w y = ring (f ∷ w ∷ y ∷ []) (var 0 ⊕ num (negsuc 16777215) ⊗ var 1 ⊗ var 2) (var 0 ⊕ ⊖ (var 1 ⊗ (num (pos 16777216) ⊗ var 2))) tt

scaled_fits : (w : ℕ) → Fits w32 w → SFits w64 (negsuc 16777215 *ℤ pos w)
scaled_fits w f = fits_signed_from_abs w64 (negsuc 16777215 *ℤ pos w) (omega (arith, ints, f.fits))

pub returns-clause-value : goal.returns-clause-value
returns-clause-value c =
    let w : ℕ = c.args.weight in
    let rows : List Row = c.args.rows.now in
    let part : ℕ → Row × ℤ → ℤ = λ (j : ℕ) (q : Row × ℤ). q.1 *ℤ coefficient q.0.states j in
    let weight : to_z w64 (of_z w64 c.from.result) ≡ pos w = to_z-of_z w64 c.from.result (record { sfits = c.from.type_inv }) ∙ c.from.ensures in
    let factor : to_z w64 (of_z w64 (negsuc 16777215 *ℤ to_z w64 (of_z w64 c.from.result))) ≡ negsuc 16777215 *ℤ pos w =
    ap (λ (z : ℤ). to_z w64 (of_z w64 (negsuc 16777215 *ℤ z))) weight ∙ to_z-of_z w64 (negsuc 16777215 *ℤ pos w) (scaled_fits w c.ranges.weight) in
    λ f t. tabled_as _ _ c.add_rows.new.sums
    (λ j. ap (int_wrap w128)
    (ap₂ (λ (a : ℤ) (ys : List ℤ). f j +ℤ a *ℤ total (part j) (zip rows ys)) factor c.as_slice.ensures
    ∙ weighted (f j) (pos w) (total (part j) (zip rows c.args.certificate.now.rows))))
    (c.add_rows.ensures.value f t)
