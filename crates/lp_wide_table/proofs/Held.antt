-- The numbers that a sign and binary digits hold, as a test and as a fact.
use Rattle.std.proofs.Common.{◌≡◌, ℕ, ◌^◌, ◌<◌, ◌≤◌, ℤ, pos, negsuc, nat_abs, nat_lt, SFits, FitsSigned, Bool, true, false, cond, Option, Some, None, arith, refl, ap}
use Rattle.std.specs.Option.{SomeIff}
use mir.Syntax.{w128}
use Rattle.std.proofs.lemmas.Bool.Decides.{nat_tests}
use Rattle.lp_wide_table.specs.WideWhole.{fits_wide, held_wide}

pub less_true : (m n : ℕ) → m < n → nat_lt m n ≡ true
less_true m n h = grind (arith, nat_tests)

pub less_false : (m n : ℕ) → n ≤ m → nat_lt m n ≡ false
less_false m n h = grind (arith, nat_tests)

pub fits_read : (z : ℤ) → fits_wide 127 z ≡ true → SFits w128 z
fits_read (pos n) e = let h : n < 2 ^ 127 = grind (arith, nat_tests) in record { sfits = h }
fits_read (negsuc n) e = let h : n < 2 ^ 127 = grind (arith, nat_tests) in record { sfits = h }

pub fits_true : (z : ℤ) → FitsSigned w128 z → fits_wide 127 z ≡ true
fits_true (pos n) f = let h : n < 2 ^ 127 = f.sfits in grind (arith, nat_tests)
fits_true (negsuc n) f = let h : n < 2 ^ 127 = f.sfits in grind (arith, nat_tests)

-- a number of absolute value below 2^k is held
fits_within : (k : ℕ) (z : ℤ) → nat_abs z < 2 ^ k → fits_wide k z ≡ true
fits_within k (pos n) h = less_true n (2 ^ k) h
fits_within k (negsuc n) h = less_true n (2 ^ k) (omega (arith, h))

pub held_within : (k : ℕ) (z : ℤ) → nat_abs z < 2 ^ k → held_wide k z ≡ Some z
held_within k z h = rw (fits_within k z h) refl

pub some_same : {a b : ℤ} → Some a ≡ Some b → a ≡ b
some_same j = cc

-- the held number is the number itself
pub held_same : (k : ℕ) (z y : ℤ) → Some y ≡ held_wide k z → y ≡ z
held_same k z y h = by (fits_wide k z) h
  where
    by : (t : Bool) → Some y ≡ cond t (Some z) None → y ≡ z
    by true e = some_same e
    by false e = absurd (cc)

-- a result that is there exactly where the type holds the number
pub is_held : (r : Option ℤ) (z : ℤ) → SomeIff r (FitsSigned w128 z) z → r ≡ held_wide 127 z
is_held None z h = by (fits_wide 127 z) refl
  where
    by : (t : Bool) → fits_wide 127 z ≡ t → None ≡ cond t (Some z) None
    by true e = absurd (h (fits_read z e))
    by false e = refl
is_held (Some x) z h = rw (fits_true z h.0) (ap Some h.1)
