-- Products and sums of small numbers.
use Rattle.std.proofs.Common.{ℕ, suc, ◌+◌, ◌-◌, ◌*◌, ◌^◌, ◌<◌, ◌≤◌, ℤ, ◌*ℤ◌, nat_abs, List, [], ◌∷◌, length, get_or, slice_set, zero, arith, mul-le-mul, subst, sym}
use Rattle.std.proofs.lemmas.Int.{unsigned_abs-mul}
use Rattle.std.proofs.lemmas.List.Elements.{All-set}
use Rattle.base_num.specs.Sums.{Term}
use Rattle.lp_table.specs.Shape.{AreTermsRising}
use Rattle.lp_price.specs.Within.{AreWithin}

pub product_within : (a b : ℤ) (m n : ℕ) → nat_abs a ≤ m → nat_abs b ≤ n → nat_abs (a *ℤ b) ≤ m * n
product_within a b m n h k = subst (λ (z : ℕ). z ≤ m * n) (sym (unsigned_abs-mul a b)) (mul-le-mul h k)

pub wider : (most more : ℕ) (rests : List ℤ) → most ≤ more → AreWithin most rests → AreWithin more rests
wider most more rests h w = λ k d i. let e = w k d i in omega (arith, e, h)

pub set_within : (most i : ℕ) (rests : List ℤ) (z : ℤ) → nat_abs z ≤ (most + 1) * 2 ^ 100 → AreWithin most rests → AreWithin (most + 1) (slice_set rests i z)
set_within most i rests z h w = All-set (λ (x : ℤ). nat_abs x ≤ (most + 1) * 2 ^ 100) rests i z h (wider most (most + 1) rests (omega arith) w)

-- rising terms are of columns that are there
pub rising_inside : (least n : ℕ) (ts : List Term) (k : ℕ) (d : Term) → AreTermsRising least n ts → k < length ts → (get_or ts k d).0 < n
rising_inside least n [] k d r h = absurd (omega arith)
rising_inside least n (t ∷ ts) zero d r h = r.1
rising_inside least n (t ∷ ts) (suc k) d r h = rising_inside (suc t.0) n ts k d r.2 (omega arith)

-- there are no more of them than columns
pub rising_few : (least n : ℕ) (ts : List Term) → AreTermsRising least n ts → length ts ≤ n - least
rising_few least n [] r = omega arith
rising_few least n (t ∷ ts) r = omega (arith, r.0, r.1, rising_few (suc t.0) n ts r.2)
