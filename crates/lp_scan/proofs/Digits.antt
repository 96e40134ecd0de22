-- Numbers of few binary digits.
use Rattle.std.proofs.Common.{ℕ, zero, suc, ◌+◌, ◌/◌, ◌^◌, ◌<◌, ◌≤◌, ℤ, pos, negsuc, ◌≤ℤ◌, nat_abs, FitsSigned, Bool, true, false, int_lt, cond, arith, ◌≡◌, refl}
use Rattle.std.proofs.lemmas.Int.{ints}
use Rattle.std.proofs.lemmas.Nat.{leading_le}
use Rattle.std.proofs.lemmas.Grind.{common_steps}
use Rattle.std.proofs.Math.Nat.{pow-suc}
use Rattle.std.specs.Int.{w64}
use Rattle.std.specs.Int.Count.{count_leading_zeros}
use Rattle.base_num.specs.Sums.{floor_over}
use Rattle.lp_program.specs.declared.fixed.Fx.{Fx}
use Rattle.lp_program.specs.declared.programs.Column.{Column}
use Rattle.lp_table.specs.Numbers.{bits_of}
use Rattle.lp_table.proofs.Powers.{power_more}
use Rattle.lp_scale.specs.Exponents.{reach_of}
use Rattle.lp_price.specs.Found.{clamped_value}
use Rattle.lp_scan.specs.Values.{state_number}

-- a number of at most m of k binary digits, where m is less than k
few_digits : (k n m : ℕ) → k ≤ count_leading_zeros k n + m → m < k → n < 2 ^ m
unfolding lib.Count.count_leading_zeros
few_digits zero n m h l = absurd (omega (arith, l))
few_digits (suc k) zero m h l = omega (arith, power_more m 0 (omega arith))
few_digits (suc k) (suc n) zero h l = let e : count_leading_zeros (suc k) (suc n) ≡ count_leading_zeros k (suc n / 2) = refl in absurd (omega (arith, h, e, leading_le k (suc n / 2)))
few_digits (suc k) (suc n) (suc m) h l =
    let e : count_leading_zeros (suc k) (suc n) ≡ count_leading_zeros k (suc n / 2) = refl in
    let half : suc n / 2 < 2 ^ m = few_digits k (suc n / 2) m (omega (arith, h, e)) (omega (arith, l)) in
    omega (arith, half, pow-suc 2 m)

pub below_bits : (v : ℤ) (m : ℕ) → bits_of v ≤ m → m < 128 → nat_abs v < 2 ^ m
below_bits v m h l = few_digits 128 (nat_abs v) m (omega (arith, h)) l

pub box_small : (c : Column) → reach_of c ≤ 71 → (nat_abs c.low.0 < 2 ^ 71) × (nat_abs c.high.0 < 2 ^ 71)
box_small c h = (below_bits c.low.0 71 (omega (arith, h)) (omega arith), below_bits c.high.0 71 (omega (arith, h)) (omega arith))

not_below : (x y : ℤ) → int_lt x y ≡ false → y ≤ℤ x
not_below x y e = grind (arith, ints, common_steps, e)

pub clamped_small : (c : Column) (x : ℤ) (n : ℕ) → nat_abs c.low.0 < n → nat_abs c.high.0 < n → nat_abs (clamped_value c x).0 < n
unfolding clamped_value
clamped_small c x n l h = by (int_lt x c.low.0) (int_lt c.high.0 x) refl refl
  where
    by : (a b : Bool) → int_lt x c.low.0 ≡ a → int_lt c.high.0 x ≡ b → nat_abs (cond a c.low (cond b c.high (record { 0 = x }))).0 < n
    by true b e f = l
    by false true e f = h
    by false false e f = omega (arith, ints, l, h, not_below x c.low.0 e, not_below c.high.0 x f)

pub state_fits : (x : Fx) → nat_abs x.0 < 2 ^ 71 → FitsSigned w64 (state_number x)
state_fits x h = by x.0 h
  where
    by : (z : ℤ) → nat_abs z < 2 ^ 71 → FitsSigned w64 (floor_over z (2 ^ 8))
    by (pos a) k = omega (arith, k)
    by (negsuc a) k = omega (arith, k)
