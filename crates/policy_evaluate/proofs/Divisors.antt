-- The greatest common divisor and the least common multiple of positive numbers.
use Rattle.std.proofs.Common.{◌≡◌, ℕ, zero, suc, ◌*◌, ◌/◌, ◌%◌, ◌<◌, ◌≤◌, List, [], ◌∷◌, All, refl, sym, subst, arith}
use Prim.Native.Nat.{◌∣◌}
use Rattle.std.specs.Int.{IsGcd}
use Rattle.std.proofs.lemmas.Nat.Gcd.{IsGcd-from_zero, IsGcd-from_mod, dvd-zero, dvd_antisymm, mod-eq-zero_of_dvd}
use Rattle.base_num.proofs.Sums.{All_head, All_tail}
use Rattle.policy_evaluate.specs.Multiples.{gcd, gcd_within, lcm, lcm_all}

is_gcd_within : (n a b : ℕ) → b < n → IsGcd a b (gcd_within n a b)
is_gcd_within zero a b h = absurd (omega arith)
is_gcd_within (suc n) a zero h = IsGcd-from_zero a zero refl
is_gcd_within (suc n) a (suc b) h =
    let less : a % suc b < suc b = omega arith in
    IsGcd-from_mod a (suc b) (gcd_within n (suc b) (a % suc b)) (is_gcd_within n (suc b) (a % suc b) (omega (arith, less, h)))

pub is_gcd : (a b : ℕ) → IsGcd a b (gcd a b)
unfolding gcd
is_gcd a b = is_gcd_within (suc b) a b (omega arith)

-- a divisor of a positive number is positive, and goes into it
positive_divisor : (g a : ℕ) → g ∣ a → 0 < a → 0 < g
positive_divisor zero a d h = let is : zero ≡ a = dvd_antisymm d (dvd-zero a) in absurd (omega (arith, is, h))
positive_divisor (suc g) a d h = omega arith

pub parted : (g a : ℕ) → g ∣ a → a ≡ g * (a / g)
parted g a d = let none : a % g ≡ zero = mod-eq-zero_of_dvd g d in omega (arith, none)

-- two positive numbers are multiples of their greatest common divisor
pub record Parted (a b : ℕ) : Type 0 where
  pub some : 0 < gcd a b
  pub first : a ≡ gcd a b * (a / gcd a b)
  pub second : b ≡ gcd a b * (b / gcd a b)

pub parts_of : (a b : ℕ) → 0 < a → Parted a b
parts_of a b h =
    let g = is_gcd a b in
    record { some = positive_divisor (gcd a b) a g.0 h; first = parted (gcd a b) a g.0; second = parted (gcd a b) b g.1 }

pub factor_positive : (g k a : ℕ) → a ≡ g * k → 0 < a → 0 < k
factor_positive g zero a e h = absurd (omega (arith, e, h))
factor_positive g (suc k) a e h = omega arith

-- the least common multiple is at least each of both
over_first : (g a b k l : ℕ) → a ≡ g * k → b ≡ g * l → 0 < l → a ≤ k * b
over_first g a b k (suc l) e f h = subst (λ (b : ℕ). a ≤ k * b) (sym f) (subst (λ (a : ℕ). a ≤ k * (g * suc l)) (sym e) (omega arith))
over_first g a b k zero e f h = absurd (omega arith)

over_second : (k b : ℕ) → 0 < k → b ≤ k * b
over_second zero b h = absurd (omega arith)
over_second (suc k) b h = omega arith

pub lcm_first : (a b : ℕ) → 0 < a → 0 < b → a ≤ lcm a b
lcm_first a b h k =
    let q = parts_of a b h in
    over_first (gcd a b) a b (a / gcd a b) (b / gcd a b) q.first q.second (factor_positive (gcd a b) (b / gcd a b) b q.second k)

pub lcm_second : (a b : ℕ) → 0 < a → b ≤ lcm a b
lcm_second a b h =
    let q = parts_of a b h in
    over_second (a / gcd a b) b (factor_positive (gcd a b) (a / gcd a b) a q.first h)

pub lcm_positive : (a b : ℕ) → 0 < a → 0 < b → 0 < lcm a b
lcm_positive a b h k = omega (arith, lcm_first a b h k, h)

-- and so is that of many
pub lcm_all_least : (a : ℕ) (bs : List ℕ) → 0 < a → All (λ b. 0 < b) bs → a ≤ lcm_all a bs
lcm_all_least a [] h p = omega arith
lcm_all_least a (b ∷ bs) h p =
    let k = All_head (λ b. 0 < b) b bs p in
    let tail = lcm_all_least (lcm a b) bs (lcm_positive a b h k) (All_tail (λ b. 0 < b) b bs p) in
    omega (arith, lcm_first a b h k, tail)
