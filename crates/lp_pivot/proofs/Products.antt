-- Products of numbers in range.
use Rattle.std.proofs.Common.{ℕ, ◌^◌, ◌<◌, ◌≤◌, ℤ, ◌*ℤ◌, nat_abs, arith, mul-le-mul, subst, sym}
use Rattle.std.proofs.lemmas.Int.{unsigned_abs-mul}

pub term_small : (a x : ℤ) → nat_abs a ≤ 2 ^ 40 → nat_abs x < 2 ^ 55 → nat_abs (a *ℤ x) ≤ 2 ^ 95
term_small a x h k = let j : nat_abs x ≤ 2 ^ 55 = omega (arith, k) in subst (λ (n : ℕ). n ≤ 2 ^ 95) (sym (unsigned_abs-mul a x)) (mul-le-mul h j)

pub share_small : (t q : ℤ) → nat_abs t < 2 ^ 60 → nat_abs q ≤ 2 ^ 56 → nat_abs (t *ℤ q) ≤ 2 ^ 116
share_small t q h k =
    let i : nat_abs t ≤ 2 ^ 60 = omega (arith, h) in
    subst (λ (n : ℕ). n ≤ 2 ^ 116) (sym (unsigned_abs-mul t q)) (mul-le-mul i k)

pub turned_small : (x inv : ℤ) → nat_abs x < 2 ^ 60 → nat_abs inv ≤ 2 ^ 57 → nat_abs (x *ℤ inv) ≤ 2 ^ 117
turned_small x inv h k = let i : nat_abs x ≤ 2 ^ 60 = omega (arith, h) in subst (λ (n : ℕ). n ≤ 2 ^ 117) (sym (unsigned_abs-mul x inv)) (mul-le-mul i k)
