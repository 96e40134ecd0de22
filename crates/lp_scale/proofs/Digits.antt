-- The binary digits of slopes.
use Rattle.std.proofs.Common.{◌≡◌, ℕ, zero, suc, ◌+◌, ◌-◌, ◌*◌, ◌^◌, ◌<◌, ◌≤◌, ℤ, pos, negsuc, ◌*ℤ◌, ◌≤ℤ◌, neg_ℤ, nat_abs, nat_le, Bool, true, false, to_z, arith, refl, ap, sym, subst, ◌∙◌}
use Rattle.std.proofs.lemmas.Int.{ints, unsigned_abs-mul, to_z-of_z}
use mir.Syntax.{w32}
use Rattle.std.proofs.lemmas.Nat.{leading_top, leading_length, pow-add}
use Rattle.std.proofs.lemmas.Bool.Decides.{nat_tests}
use lib.Count.{count_leading_zeros}
use Rattle.lp_table.specs.Numbers.{bits_of}
use Rattle.lp_table.proofs.Powers.{power_more}

-- a power that is at most a number is below each power that is above it
pub below_power : (a j k : ℕ) → 2 ^ j ≤ a → a < 2 ^ k → j < k
below_power a j k h l = by (nat_le k j) refl
  where
    by : (b : Bool) → nat_le k j ≡ b → j < k
    by true e =
        let m : k ≤ j = grind (arith, nat_tests) in
        absurd (omega (arith, power_more j k m, h, l))
    by false e = grind (arith, nat_tests)

-- the digits of a number between two powers
pub digits_between : (w a j : ℕ) → a < 2 ^ w → 0 < a → 2 ^ j ≤ a → a < 2 ^ suc j → count_leading_zeros w a + suc j ≡ w
digits_between w a j h p low high =
    let t = leading_top w a p h in
    let x = below_power a j (suc t.0) low t.3 in
    let y = below_power a t.0 (suc j) t.2 high in
    omega (arith, x, y, t.1)

-- 64 bits have as many digits as 128
pub same_digits : (s : ℤ) → nat_abs s < 2 ^ 57 → bits_of s ≡ 64 - count_leading_zeros 64 (nat_abs s)
same_digits s h =
    let a : ℕ = nat_abs s in
    let t = leading_length 64 a (omega (arith, h)) in
    let u = leading_length 128 a (omega (arith, h)) in
    let e : 2 ^ (t.0 + 1) ≡ 2 ^ t.0 * 2 = pow-add 2 t.0 1 in
    let f : 2 ^ (u.0 + 1) ≡ 2 ^ u.0 * 2 = pow-add 2 u.0 1 in
    let x = below_power (2 * a + 1) t.0 (u.0 + 1) t.3 (omega (arith, f, u.2)) in
    let y = below_power (2 * a + 1) u.0 (t.0 + 1) u.3 (omega (arith, e, t.2)) in
    omega (arith, x, y, t.1, u.1)

abs_neg : (s : ℤ) → nat_abs (neg_ℤ s) ≡ nat_abs s
abs_neg (pos zero) = refl
abs_neg (pos (suc n)) = refl
abs_neg (negsuc n) = refl

pub abs_times : (s : ℤ) → nat_abs (pos 256 *ℤ neg_ℤ s) ≡ 256 * nat_abs s
abs_times s = let n = abs_neg s in omega (arith, unsigned_abs-mul (pos 256) (neg_ℤ s), n)

-- 256 times as much has 8 digits more
pub more_digits : (s : ℤ) → 0 < nat_abs s → nat_abs s < 2 ^ 57 → bits_of (pos 256 *ℤ neg_ℤ s) ≡ bits_of s + 8
more_digits s p h =
    let a : ℕ = nat_abs s in
    let e = abs_times s in
    let t = leading_top 128 a p (omega (arith, h)) in
    let low : 2 ^ (t.0 + 8) ≡ 2 ^ t.0 * 256 = pow-add 2 t.0 8 in
    let high : 2 ^ (suc t.0 + 8) ≡ 2 ^ suc t.0 * 256 = pow-add 2 (suc t.0) 8 in
    let d = digits_between 128 (nat_abs (pos 256 *ℤ neg_ℤ s)) (t.0 + 8) (omega (arith, e, h)) (omega (arith, e, p)) (omega (arith, e, low, t.2)) (omega (arith, e, high, t.3)) in
    omega (arith, d, t.1)

pub some_digits : (s : ℤ) → 0 < nat_abs s → nat_abs s < 2 ^ 57 → 1 ≤ bits_of s
some_digits s p h = let t = leading_top 128 (nat_abs s) p (omega (arith, h)) in omega (arith, t.1)

-- a number below a power has at most so many digits
pub few_digits : (v : ℤ) (n : ℕ) → n ≤ 128 → nat_abs v < 2 ^ n → bits_of v ≤ n
few_digits v n m h =
    let t = leading_length 128 (nat_abs v) (omega (arith, h, power_more 128 n m)) in
    let e : 2 ^ (n + 1) ≡ 2 ^ n * 2 = pow-add 2 n 1 in
    let x = below_power (2 * nat_abs v + 1) t.0 (n + 1) t.3 (omega (arith, e, h)) in
    omega (arith, x, t.1)

-- as 32 bits read them
pub digits_read : (s : ℤ) (a : ℕ) → a ≡ nat_abs s → nat_abs s < 2 ^ 57 → to_z w32 (64 - count_leading_zeros 64 a) ≡ pos (bits_of s)
digits_read s a e h =
    let n : ℕ = 64 - count_leading_zeros 64 a in
    let small : n < 2 ^ 31 = omega arith in
    to_z-of_z w32 (pos n) (record { sfits = small }) ∙ ap pos (ap (λ (m : ℕ). 64 - count_leading_zeros 64 m) e ∙ sym (same_digits s h))

pub digits_some : (s : ℤ) (a : ℕ) → a ≡ nat_abs s → nat_abs s < 2 ^ 57 → pos 0 ≤ℤ to_z w32 (64 - count_leading_zeros 64 a)
digits_some s a e h = subst (λ (z : ℤ). pos 0 ≤ℤ z) (sym (digits_read s a e h)) (omega (arith, ints))

pub digits_few : (s : ℤ) (a : ℕ) → a ≡ nat_abs s → nat_abs s < 2 ^ 57 → to_z w32 (64 - count_leading_zeros 64 a) ≤ℤ pos 57
digits_few s a e h = let few = few_digits s 57 (omega arith) h in subst (λ (z : ℤ). z ≤ℤ pos 57) (sym (digits_read s a e h)) (omega (arith, ints, few))
