-- Products and sums whose sizes are in range.
use Rattle.std.proofs.Common.{◌≡◌, ℕ, ◌+◌, ◌*◌, ◌^◌, ◌<◌, ◌≤◌, ℤ, pos, neg_ℤ, ◌+ℤ◌, ◌*ℤ◌, nat_abs, SFits, arith, mul-le-mul_left}
use mir.Syntax.{w128}
use Rattle.std.specs.Int.{int_min}
use Rattle.theory.proofs.SizeToFit.{lesser_by}
use Rattle.cut_make.specs.SizeByTerms.{span}
use Rattle.std.proofs.lemmas.Int.{ints, unsigned_abs-mul, fits_signed_from_abs}

module _ (a f v : ℤ) (s t n : ℕ) (own : nat_abs a ≤ s) (inner : nat_abs v ≤ t) (size : n ≡ s + nat_abs f * t) where
  product_at_most : nat_abs (f *ℤ v) ≤ nat_abs f * t
  product_at_most = let m : nat_abs f * nat_abs v ≤ nat_abs f * t = mul-le-mul_left (nat_abs f) inner in rw (unsigned_abs-mul f v) m

  pub sum_at_most : nat_abs (a +ℤ f *ℤ v) ≤ n
  sum_at_most = let p = product_at_most in omega (arith, ints, own, p, size)

  pub product_fits : n < 2 ^ 127 → SFits w128 (f *ℤ v)
  product_fits h = let p = product_at_most in fits_signed_from_abs w128 (f *ℤ v) (omega (arith, ints, p, size, h))

  pub sum_fits : n < 2 ^ 127 → SFits w128 (a +ℤ f *ℤ v)
  sum_fits h = fits_signed_from_abs w128 (a +ℤ f *ℤ v) (let p = sum_at_most in omega (arith, ints, p, h))

module _ (a v l h : ℤ) (s t n : ℕ) (own : nat_abs a ≤ s) (inner : nat_abs v ≤ t) (size : n ≡ s + span l h * t) where
  end_at_most : (e : ℤ) → nat_abs e ≤ span l h → nat_abs (neg_ℤ v *ℤ e) ≤ span l h * t
  end_at_most e k =
      let p : nat_abs (neg_ℤ v) * nat_abs e ≤ nat_abs (neg_ℤ v) * span l h = mul-le-mul_left (nat_abs (neg_ℤ v)) k in
      let q : span l h * nat_abs (neg_ℤ v) ≤ span l h * t = mul-le-mul_left (span l h) (omega (arith, ints, inner)) in
      rw (unsigned_abs-mul (neg_ℤ v) e) (omega (arith, p, q))

  low_at_most : nat_abs (neg_ℤ v *ℤ l) ≤ span l h * t
  low_at_most = end_at_most l (omega (arith, ints))

  high_at_most : nat_abs (neg_ℤ v *ℤ h) ≤ span l h * t
  high_at_most = end_at_most h (omega (arith, ints))

  pub low_fits : n < 2 ^ 127 → SFits w128 (neg_ℤ v *ℤ l)
  low_fits k = fits_signed_from_abs w128 (neg_ℤ v *ℤ l) (let p = low_at_most in omega (arith, ints, p, size, k))

  pub high_fits : n < 2 ^ 127 → SFits w128 (neg_ℤ v *ℤ h)
  high_fits k = fits_signed_from_abs w128 (neg_ℤ v *ℤ h) (let p = high_at_most in omega (arith, ints, p, size, k))

  pub least_at_most : nat_abs (a +ℤ pos 1 *ℤ int_min (neg_ℤ v *ℤ l) (neg_ℤ v *ℤ h)) ≤ n
  least_at_most = lesser_by (λ (z : ℤ). nat_abs (a +ℤ pos 1 *ℤ z) ≤ n) (neg_ℤ v *ℤ l) (neg_ℤ v *ℤ h) (add (neg_ℤ v *ℤ l) low_at_most) (add (neg_ℤ v *ℤ h) high_at_most)
    where
      add : (z : ℤ) → nat_abs z ≤ span l h * t → nat_abs (a +ℤ pos 1 *ℤ z) ≤ n
      add z k = omega (arith, ints, k, own, size)

  pub least_fits : n < 2 ^ 127 → SFits w128 (a +ℤ pos 1 *ℤ int_min (neg_ℤ v *ℤ l) (neg_ℤ v *ℤ h))
  least_fits k = fits_signed_from_abs w128 (a +ℤ pos 1 *ℤ int_min (neg_ℤ v *ℤ l) (neg_ℤ v *ℤ h)) (let p = least_at_most in omega (arith, ints, p, k))
