-- One summand more in a sum of 128 bits, where the sum of the absolute values is in range.
use Rattle.std.proofs.Common.{◌≡◌, ℕ, ◌+◌, ◌<◌, ◌^◌, ℤ, pos, ◌+ℤ◌, ◌≤ℤ◌, ◌<ℤ◌, List, length, drop, get_or, SFits, add-one, arith, refl, ap, sym, subst, ◌∙◌, drop-cons}
use Rattle.std.proofs.lemmas.Int.{ints, fits_signed_from_abs}
use mir.Syntax.{w128}
use lib.IntN.{+ℤ_assoc}
use Rattle.base_num.specs.Sums.{total}
use Rattle.base_num.proofs.Fronts.{total_some}
use Rattle.theory.specs.Size.{magnitude}

-- the sum s takes z: both stay in range, and what is summed and what is left still make the whole
pub record Added (v s z vn rn r : ℤ) : Type 0 where
  pub fits : SFits w128 z
  pub whole : SFits w128 (s +ℤ z)
  pub value : v ≡ s +ℤ z +ℤ vn
  pub room : (magnitude (s +ℤ z) +ℤ rn) ≤ℤ r

fits_below : (z b : ℤ) → magnitude z ≤ℤ b → b <ℤ pos (2 ^ 127) → SFits w128 z
fits_below z b h k = fits_signed_from_abs w128 z (omega (arith, ints))

pub added : (v s z g vn rn r : ℤ) → v ≡ s +ℤ (z +ℤ vn) → (magnitude s +ℤ (g +ℤ rn)) ≤ℤ r → magnitude z ≤ℤ g → pos 0 ≤ℤ rn → r <ℤ pos (2 ^ 127) → Added v s z vn rn r
added v s z g vn rn r e h k p b = record {
  fits = fits_below z r (omega (arith, ints)) b;
  whole = fits_below (s +ℤ z) r (omega (arith, ints)) b;
  value = e ∙ sym (+ℤ_assoc s z vn);
  room = omega (arith, ints);
}

-- the element i of a sum of f over a list, of an absolute value of at most g there
pub total_step : {A : Type 0} (f g : A → ℤ) (xs : List A) (i : ℕ) (d : A) (s : ℤ) → i < length xs → magnitude (f (get_or xs i d)) ≤ℤ g (get_or xs i d) → ((x : A) → pos 0 ≤ℤ g x)
    → total f xs ≡ s +ℤ total f (drop i xs) → (magnitude s +ℤ total g (drop i xs)) ≤ℤ total g xs → total g xs <ℤ pos (2 ^ 127)
    → Added (total f xs) s (f (get_or xs i d)) (total f (drop (i + 1) xs)) (total g (drop (i + 1) xs)) (total g xs)
total_step f g xs i d s h k some v r b =
    let n : total f (drop i xs) ≡ f (get_or xs i d) +ℤ total f (drop (i + 1) xs) = rw (add-one, drop-cons xs i d) refl in
    let m : total g (drop i xs) ≡ g (get_or xs i d) +ℤ total g (drop (i + 1) xs) = rw (add-one, drop-cons xs i d) refl in
    added (total f xs) s (f (get_or xs i d)) (g (get_or xs i d)) (total f (drop (i + 1) xs)) (total g (drop (i + 1) xs)) (total g xs) (v ∙ ap (λ (q : ℤ). s +ℤ q) n) (subst (λ (q : ℤ). (magnitude s +ℤ q) ≤ℤ total g xs) m r) k
    (total_some g (drop (i + 1) xs) some) b
