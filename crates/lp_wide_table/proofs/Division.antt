-- Powers of 2 over a number, by long division.
use Rattle.std.proofs.Common.{◌≡◌, ◌∙◌, ⊎_elim, ℕ, ◌+◌, ◌-◌, ◌*◌, ◌/◌, ◌%◌, ◌^◌, ◌<◌, ◌≤◌, arith, ap, sym, mul-le-mul_left}
use native.Mathlib.Nat.{le_of_mul-le-mul_left}
use Rattle.std.proofs.lemmas.Nat.{leading_top, pow-add, div-mul-add, div-add-mod'}
use Rattle.std.proofs.lemmas.Bool.{cases_lt}
use Rattle.std.specs.Int.Count.{count_leading_zeros}
use Rattle.lp_wide_table.proofs.Shifts.{power_more, power_positive}

-- a number with so many digits is not 0
pub some : (d b : ℕ) → 2 ^ b ≤ 2 * d → 0 < d
some d b h = omega (arith, h, power_positive b)

pub few_digits : (d b : ℕ) → 2 ^ b ≤ 2 * d → d < 2 ^ 124 → b ≤ 127
few_digits d b h k = ⊎_elim (λ (l : b < 128). omega (arith, l)) (λ (l : 128 ≤ b). absurd (omega (arith, h, k, power_more b 128 l))) (cases_lt b 128)

-- the quotient is small on the way
small : (q d r b i : ℕ) → q * d + r ≡ 2 ^ (b + i) → 2 ^ b ≤ 2 * d → q ≤ 2 * 2 ^ i
small q d r b i e h =
    let split : 2 ^ (b + i) ≡ 2 ^ b * 2 ^ i = pow-add 2 b i in
    let most : 2 ^ i * 2 ^ b ≤ 2 ^ i * (2 * d) = mul-le-mul_left (2 ^ i) h in
    le_of_mul-le-mul_left (by (2 ^ (b + i)) (2 ^ b) (2 ^ i) e split most) (some d b h)
  where
    by : (w x y : ℕ) → q * d + r ≡ w → w ≡ x * y → y * x ≤ y * (2 * d) → d * q ≤ d * (2 * y)
    by w x y f g k = omega (arith, f, g, k)

pub small_yet : (q d r b i : ℕ) → q * d + r ≡ 2 ^ (b + i) → 2 ^ b ≤ 2 * d → i < 124 → q < 2 ^ 126
small_yet q d r b i e h k = omega (arith, small q d r b i e h, power_more 123 i (omega (arith, k)))

pub first : (p d b : ℕ) → p ≡ 2 ^ b → p / d * d + p % d ≡ 2 ^ (b + 0)
first p d b e =
    let none : b + 0 ≡ b = omega arith in
    div-add-mod' p d ∙ e ∙ ap (λ (n : ℕ). 2 ^ n) (sym none)

pub next : (q r s t d b i : ℕ) → s * d + t ≡ 2 * (q * d + r) → q * d + r ≡ 2 ^ (b + i) → s * d + t ≡ 2 ^ (b + (i + 1))
next q r s t d b i e f =
    let whole : b + (i + 1) ≡ 1 + (b + i) = omega arith in
    e ∙ ap (λ (n : ℕ). 2 * n) f ∙ sym (pow-add 2 1 (b + i)) ∙ ap (λ (n : ℕ). 2 ^ n) (sym whole)

-- the end
pub last : (q d r b i : ℕ) → q * d + r ≡ 2 ^ (b + i) → r < d → 124 ≤ i → i ≤ 124 → q ≡ 2 ^ (b + 124) / d
last q d r b i e h k l =
    let all : i ≡ 124 = omega (arith, k, l) in
    sym (div-mul-add q d r h) ∙ ap (λ (n : ℕ). n / d) (e ∙ ap (λ (j : ℕ). 2 ^ (b + j)) all)

pub small_at_last : (q d r b i : ℕ) → q * d + r ≡ 2 ^ (b + i) → 2 ^ b ≤ 2 * d → i ≤ 124 → q ≤ 2 ^ 125
small_at_last q d r b i e h k = omega (arith, small q d r b i e h, power_more 124 i k)

-- a number that is not 0 is at least half of the next power of 2
pub digits_least : (n : ℕ) → 0 < n → n < 2 ^ 124 → 2 ^ (128 - count_leading_zeros 128 n) ≤ 2 * n
digits_least n p h =
    let t = leading_top 128 n p (omega (arith, h)) in
    let e = t.1 in
    by t.0 (128 - count_leading_zeros 128 n) (omega (arith, e)) t.2
  where
    by : (j b : ℕ) → b ≡ 1 + j → 2 ^ j ≤ n → 2 ^ b ≤ 2 * n
    by j b e low =
        let double : 2 ^ b ≡ 2 * 2 ^ j = ap (λ (k : ℕ). 2 ^ k) e ∙ pow-add 2 1 j in
        omega (arith, double, low)
