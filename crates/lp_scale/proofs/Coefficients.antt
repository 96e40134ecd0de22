-- Terms of rows that are scaled are coefficients.
use Rattle.std.proofs.Common.{◌≡◌, ℕ, suc, ◌+◌, ◌^◌, ◌/◌, ◌<◌, ◌≤◌, ℤ, pos, negsuc, ◌+ℤ◌, ◌*ℤ◌, ◌≤ℤ◌, nat_abs, SFits, nat_lt, nat_le, Bool, true, Some, None, cond, arith, refl, ap, sym, subst, ◌∙◌}
use Rattle.std.proofs.lemmas.Int.{ints, unsigned_abs-mul, fits_signed_from_abs}
use Rattle.std.proofs.lemmas.Nat.{leading_length, pow-add}
use Rattle.std.proofs.Math.Nat.{mul-lt-mul_of_pos_right, div-lt_iff_lt-mul}
use Rattle.std.proofs.lemmas.Bool.Decides.{nat_tests}
use Rattle.std.specs.Option.{option_and_then}
use mir.Syntax.{w128}
use Rattle.base_num.specs.Sums.{floor_over}
use Rattle.lp_table.specs.Numbers.{bits_of, coefficient_of, cell_of, shift_of, shift_up, shift_down}
use Rattle.lp_program.proofs.Numbers.{fits-true}
use Rattle.lp_table.proofs.Powers.{power_more}

below_bits : (v : ℤ) → nat_abs v < 2 ^ 128 → nat_abs v < 2 ^ bits_of v
below_bits v h =
    let l = leading_length 128 (nat_abs v) h in
    let e : l.0 ≡ bits_of v = omega (arith, l.1) in
    subst (λ (m : ℕ). nat_abs v < 2 ^ m) e l.2

power_some : (n : ℕ) → 0 < 2 ^ n
power_some n = omega (arith, power_more n 0 (omega arith))

up_small : (v : ℤ) (n : ℕ) → nat_abs v < 2 ^ bits_of v → bits_of v + n ≤ 40 → nat_abs (v *ℤ pos (2 ^ n)) ≤ 2 ^ 40
up_small v n h k =
    let a = mul-lt-mul_of_pos_right h (power_some n) in
    let b = pow-add 2 (bits_of v) n in
    let c = power_more 40 (bits_of v + n) k in
    omega (arith, a, b, c, unsigned_abs-mul v (pos (2 ^ n)))

down_small : (v : ℤ) (n : ℕ) → nat_abs v < 2 ^ bits_of v → bits_of v ≤ 40 + n → nat_abs (floor_over v (2 ^ n)) ≤ 2 ^ 40
down_small (pos a) n h k =
    let c = power_more (40 + n) (bits_of (pos a)) k in
    let b = pow-add 2 40 n in
    let q : a / 2 ^ n < 2 ^ 40 = (div-lt_iff_lt-mul (power_some n)).1 (omega (arith, h, b, c)) in
    omega (arith, q)
down_small (negsuc a) n h k =
    let c = power_more (40 + n) (bits_of (negsuc a)) k in
    let b = pow-add 2 40 n in
    let q : a / 2 ^ n < 2 ^ 40 = (div-lt_iff_lt-mul (power_some n)).1 (omega (arith, h, b, c)) in
    omega (arith, q)

-- a number that is shifted to at most 40 binary digits is there, and is at most 2^40
pub shift_small : (v k : ℤ) → nat_abs v < 2 ^ 128 → (pos (bits_of v) +ℤ k) ≤ℤ pos 40 → (z : ℤ) × (shift_of v k ≡ Some z) × (nat_abs z ≤ 2 ^ 40)
unfolding shift_up shift_down
shift_small v (pos n) h b =
    let s = up_small v n (below_bits v h) (omega (arith, ints, b)) in
    let f = fits-true (v *ℤ pos (2 ^ n)) (fits_signed_from_abs w128 (v *ℤ pos (2 ^ n)) (omega (arith, s))) in
    (v *ℤ pos (2 ^ n), ap (λ (t : Bool). cond t (Some (v *ℤ pos (2 ^ n))) None) f, s)
shift_small v (negsuc n) h b = (floor_over v (2 ^ suc n), refl, down_small v (suc n) (below_bits v h) (omega (arith, ints, b)))

same_small : (z : ℤ) → nat_abs z ≤ 2 ^ 40 → coefficient_of z ≡ cell_of z
same_small z h =
    let a : nat_le (nat_abs z) (2 ^ 40) ≡ true = grind (arith, nat_tests) in
    let b : nat_lt (nat_abs z) (2 ^ 60) ≡ true = grind (arith, nat_tests) in
    ap (λ (t : Bool). cond t (Some z) None) a ∙ sym (ap (λ (t : Bool). cond t (Some z) None) b)

pub same_cell : (v k : ℤ) → nat_abs v < 2 ^ 128 → (pos (bits_of v) +ℤ k) ≤ℤ pos 40 → option_and_then coefficient_of (shift_of v k) ≡ option_and_then cell_of (shift_of v k)
same_cell v k h b =
    let s = shift_small v k h b in
    ap (option_and_then coefficient_of) s.1 ∙ same_small s.0 s.2 ∙ sym (ap (option_and_then cell_of) s.1)

pub wide : (v : ℤ) → SFits w128 v → nat_abs v < 2 ^ 128
wide (pos n) f = let h : n < 2 ^ 127 = f.sfits in omega (arith, h)
wide (negsuc n) f = let h : n < 2 ^ 127 = f.sfits in omega (arith, h)
