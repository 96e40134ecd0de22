-- Numbers of 128 bits times powers of 2.
use Rattle.std.proofs.Common.{◌≡◌, ℕ, zero, suc, ◌+◌, ◌-◌, ◌*◌, ◌^◌, ◌<◌, ◌≤◌, ℤ, pos, negsuc, ◌*ℤ◌, nat_abs, nat_le, of_z, to_z, FitsSigned, Bool, true, false, Option, Some, arith, refl, ap, sym, subst, ◌∙◌}
use mir.Syntax.{w128}
use Rattle.std.specs.Ordering.{int_eq}
use Rattle.std.specs.Int.Count.{count_leading_zeros}
use Rattle.std.proofs.lemmas.Bool.Decides.{nat_tests, Decides-int_eq}
use Rattle.std.proofs.lemmas.Int.{to_z-of_z, unsigned_abs-mul}
use Rattle.std.proofs.lemmas.Nat.{leading_top, pow-add}
use Rattle.std.proofs.Math.Nat.{mul-lt-mul_of_pos_right}
use Rattle.lp_wide_table.specs.WideWhole.{bits_of_wide, held_wide, shift_up_wide}
use Rattle.lp_wide_table.proofs.Held.{held_within}
use Rattle.lp_wide_table.proofs.Shifts.{power_more, power_positive}

-- a number is below the power of 2 with so many digits
below_power : (n : ℕ) → 0 < n → n < 2 ^ 128 → n < 2 ^ (128 - count_leading_zeros 128 n)
below_power n p h =
    let t = leading_top 128 n p h in
    let e = t.1 in
    let digits : suc t.0 ≡ 128 - count_leading_zeros 128 n = omega (arith, e) in
    subst (λ (b : ℕ). n < 2 ^ b) digits t.3

scaled_below : (n b k : ℕ) → n < 2 ^ b → b + k ≤ 250 → n * 2 ^ k < 2 ^ 255
scaled_below n b k h l =
    let more = mul-lt-mul_of_pos_right h (power_positive k) in
    let whole : 2 ^ (b + k) ≡ 2 ^ b * 2 ^ k = pow-add 2 b k in
    omega (arith, more, whole, power_more 250 (b + k) l)

some_size : (v : ℤ) → (of_z w128 v ≡ 0 → ⊥) → 0 < nat_abs v
some_size (pos zero) h = absurd (h refl)
some_size (pos (suc n)) h = omega arith
some_size (negsuc n) h = omega arith

size_fits : (v : ℤ) → FitsSigned w128 v → nat_abs v < 2 ^ 128
size_fits (pos n) f = let h : n < 2 ^ 127 = f.sfits in omega (arith, h)
size_fits (negsuc n) f = let h : n < 2 ^ 127 = f.sfits in omega (arith, h)

up_held : (v : ℤ) (k : ℕ) → FitsSigned w128 v → 0 < nat_abs v → bits_of_wide v + k ≤ 250 → held_wide 255 (v *ℤ pos (2 ^ k)) ≡ Some (v *ℤ pos (2 ^ k))
up_held v k f p h =
    let small : nat_abs v * 2 ^ k < 2 ^ 255 = scaled_below (nat_abs v) (bits_of_wide v) k (below_power (nat_abs v) p (size_fits v f)) h in
    held_within 255 (v *ℤ pos (2 ^ k)) (subst (λ (n : ℕ). n < 2 ^ 255) (sym (unsigned_abs-mul v (pos (2 ^ k)))) small)

not_none : (v : ℤ) → 0 < nat_abs v → int_eq v (pos 0) ≡ false
not_none v p = by (int_eq v (pos 0)) refl
  where
    by : (t : Bool) → int_eq v (pos 0) ≡ t → t ≡ false
    by true e = absurd (let none : nat_abs v ≡ 0 = ap nat_abs ((Decides-int_eq v (pos 0)).0 e) in omega (arith, none, p))
    by false e = refl

few_true : (n : ℕ) → n ≤ 250 → nat_le n 250 ≡ true
few_true n h = grind (arith, nat_tests)

pub shift_up_is : (v : ℤ) (b k : ℕ) (r : Option ℤ) → FitsSigned w128 v → (of_z w128 v ≡ 0 → ⊥) → b ≡ bits_of_wide (to_z w128 (of_z w128 v)) → b + k ≤ 250 → r ≡ held_wide 255 (to_z w128 (of_z w128 v) *ℤ pos (2 ^ k)) → r ≡ shift_up_wide v k
unfolding shift_up_wide
shift_up_is v b k r f n e h i =
    let read = to_z-of_z w128 v f in
    let size = some_size v n in
    let digits : bits_of_wide v + k ≤ 250 = subst (λ (m : ℕ). m + k ≤ 250) (e ∙ ap bits_of_wide read) h in
    rw (not_none v size, few_true (bits_of_wide v + k) digits) (i ∙ ap (λ (z : ℤ). held_wide 255 (z *ℤ pos (2 ^ k))) read ∙ up_held v k f size digits)
