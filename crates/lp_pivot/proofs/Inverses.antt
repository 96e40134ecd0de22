-- The inverse of a pivot.
use Rattle.std.proofs.Common.{◌≡◌, ◌∙◌, ⊎_elim, ℕ, zero, suc, ◌+◌, ◌-◌, ◌*◌, ◌/◌, ◌^◌, ◌<◌, ◌≤◌, ℤ, pos, negsuc, neg_ℤ, nat_abs, arith, refl, ap, sym, subst}
use Rattle.std.proofs.lemmas.Nat.{leading_top, pow-add}
use Rattle.std.proofs.lemmas.Bool.{cases_lt}
use Rattle.std.proofs.Math.Nat.{div-le_of_le-mul, div-le_self}
use Rattle.std.specs.Int.Count.{count_leading_zeros, leading_of_zero}
use Rattle.std.specs.Int.Signed.{quot_z, shr_z}
use Rattle.lp_table.proofs.Powers.{power_more}
use Rattle.lp_table.specs.Numbers.{bits_of}

-- the greatest power of 2 in a number
top : (n : ℕ) → 0 < n → n < 2 ^ 60 → (j : ℕ) × (128 - count_leading_zeros 128 n ≡ suc j) × (2 ^ j ≤ n)
top n p h =
    let t = leading_top 128 n p (omega (arith, h)) in
    let e = t.1 in
    (t.0, omega (arith, e), t.2)

low_power : (j n : ℕ) → 2 ^ j ≤ n → n < 2 ^ 60 → j < 60
low_power j n h k = ⊎_elim (λ (a : j < 60). a) (λ (b : 60 ≤ j). absurd (omega (arith, h, k, power_more j 60 b))) (cases_lt j 60)

some_few : (n : ℕ) → 0 < n → n < 2 ^ 60 → 128 - count_leading_zeros 128 n ≤ 60
some_few n p h =
    let t = top n p h in
    let e = t.1 in
    let l = low_power t.0 n t.2 h in
    omega (arith, e, l)

any_few : (n : ℕ) → n < 2 ^ 60 → 128 - count_leading_zeros 128 n ≤ 60
any_few zero h = omega (arith, leading_of_zero 128)
any_few (suc n) h = some_few (suc n) (omega arith) h

pub bits_few : (p : ℤ) → nat_abs p < 2 ^ 60 → bits_of p ≤ 60
bits_few p h = any_few (nat_abs p) h

quotient_small : (n : ℕ) → 0 < n → n < 2 ^ 60 → 2 ^ (128 - count_leading_zeros 128 n + 56) / n ≤ 2 ^ 57
quotient_small n p h =
    let t = top n p h in
    let e : 128 - count_leading_zeros 128 n + 56 ≡ t.0 + 57 = ap (λ (b : ℕ). b + 56) t.1 ∙ omega arith in
    let low : 2 ^ t.0 ≤ n = t.2 in
    let split : 2 ^ (t.0 + 57) ≡ 2 ^ t.0 * 2 ^ 57 = pow-add 2 t.0 57 in
    let most : 2 ^ (t.0 + 57) ≤ n * 2 ^ 57 = omega (arith, split, low) in
    div-le_of_le-mul n (subst (λ (k : ℕ). 2 ^ k ≤ n * 2 ^ 57) (sym e) most)

abs_neg : (n : ℕ) → nat_abs (neg_ℤ (pos n)) ≡ n
abs_neg zero = refl
abs_neg (suc n) = refl

pub inverse_small : (p : ℤ) → 0 < nat_abs p → nat_abs p < 2 ^ 60 → nat_abs (quot_z (pos (2 ^ (bits_of p + 56))) p) ≤ 2 ^ 57
inverse_small (pos n) p h = quotient_small n p h
inverse_small (negsuc n) p h = subst (λ (k : ℕ). k ≤ 2 ^ 57) (sym (abs_neg (2 ^ (128 - count_leading_zeros 128 (suc n) + 56) / suc n))) (quotient_small (suc n) p h)

pub half_small : (k : ℕ) → k ≤ 76 → 2 ^ (k - 1) ≤ 2 ^ 75
half_small k h = power_more 75 (k - 1) (omega (arith, h))

pub dividend_small : (k : ℕ) → k ≤ 60 → 2 ^ (k + 56) ≤ 2 ^ 116
dividend_small k h = power_more 116 (k + 56) (omega (arith, h))

-- a number that is shifted down is no greater
pub shift_small : (z : ℤ) (n : ℕ) → nat_abs (shr_z z n) ≤ nat_abs z
shift_small (pos a) n = div-le_self a n
shift_small (negsuc a) n = let l : a / n ≤ a = div-le_self a n in omega (arith, l)
