-- Shifts by many places.
use Rattle.std.proofs.Common.{◌≡◌, ℕ, zero, suc, ◌^◌, ◌-◌, ◌*◌, ◌<◌, ◌≤◌, ℤ, pos, negsuc, neg_ℤ, nat_abs, of_z, ⊎_elim, ◌⊎◌, true, ◌<ℤ◌, ◌≤ℤ◌, ◌*ℤ◌, FitsSigned, Some, None, Bool, false, cond, arith, refl, ap, sym}
use Rattle.std.proofs.lemmas.Int.{ints}
use Rattle.std.proofs.Math.Nat.{div-eq_of_lt}
use mir.Syntax.{w128}
use Rattle.lp_program.specs.Numbers.{fits, held}
use Rattle.lp_table.specs.Numbers.{shift_up, shift_down}
use Rattle.lp_program.proofs.Numbers.{fits-true, fits-fact}
use Rattle.lp_table.proofs.Powers.{power_more}

pub down_to_none : (v : ℤ) (k : ℕ) → FitsSigned w128 v → 127 ≤ k → pos 0 ≤ℤ v → pos 0 ≡ shift_down v k
unfolding shift_down
down_to_none (pos n) k f h p = let g : n < 2 ^ 127 = f.sfits in ap pos (sym (div-eq_of_lt (omega (arith, g, power_more k 127 h))))
down_to_none (negsuc n) k f h p = absurd (omega (arith, ints))

pub down_to_one : (v : ℤ) (k : ℕ) → FitsSigned w128 v → 127 ≤ k → v <ℤ pos 0 → negsuc 0 ≡ shift_down v k
unfolding shift_down
down_to_one (pos n) k f h p = absurd (omega (arith, ints))
down_to_one (negsuc n) k f h p = let g : n < 2 ^ 127 = f.sfits in ap negsuc (sym (div-eq_of_lt (omega (arith, g, power_more k 127 h))))

pos_times : (a b : ℕ) → pos a *ℤ pos b ≡ pos (a * b)
pos_times a b = refl

neg_times : (a b : ℕ) → negsuc a *ℤ pos b ≡ neg_ℤ (pos (suc a * b))
neg_times a b = refl

absent_from : (z : ℤ) → (FitsSigned w128 z → ⊥) → None ≡ held z
absent_from z h = by (fits z) refl
  where
    by : (t : Bool) → fits z ≡ t → None ≡ cond t (Some z) None
    by true e = absurd (h (fits-fact z e))
    by false e = refl

too_great : (n : ℕ) → 2 ^ 127 ≤ n → FitsSigned w128 (pos n) → ⊥
too_great n h f = let g : n < 2 ^ 127 = f.sfits in absurd (omega (arith, g))

too_small : (n : ℕ) → 2 ^ 127 < n → FitsSigned w128 (neg_ℤ (pos n)) → ⊥
too_small zero h f = absurd (omega arith)
too_small (suc n) h f = let g : n < 2 ^ 127 = f.sfits in absurd (omega (arith, g))

pub up_absent : (v : ℤ) (k : ℕ) → 126 < k → (of_z w128 v ≡ 0 → ⊥) → ((k ≡ 127) × (of_z w128 v ≡ 2 ^ 128 - 1 → ⊥)) ⊎ (k ≡ 127 → ⊥) → None ≡ shift_up v k
unfolding shift_up
up_absent (pos zero) k h a b = absurd (a refl)
up_absent (pos (suc n)) k h a b = rw (pos_times (suc n) (2 ^ k)) (absent_from (pos (suc n * 2 ^ k)) (too_great (suc n * 2 ^ k) (omega (arith, power_more k 127 h))))
up_absent (negsuc zero) k h a b = ⊎_elim (λ (p : (k ≡ 127) × (of_z w128 (negsuc zero) ≡ 2 ^ 128 - 1 → ⊥)). absurd (p.1 refl)) (λ (p : k ≡ 127 → ⊥). rw (neg_times 0 (2 ^ k)) (absent_from (neg_ℤ (pos (suc 0 * 2 ^ k))) (too_small (suc 0 * 2 ^ k) (omega (arith, power_more k 128 (omega (arith, p))))))) b
up_absent (negsuc (suc n)) k h a b = rw (neg_times (suc n) (2 ^ k)) (absent_from (neg_ℤ (pos (suc (suc n) * 2 ^ k))) (too_small (suc (suc n) * 2 ^ k) (omega (arith, power_more k 127 h))))

-- 128 bits hold what has at most 126
pub small_held : (z : ℤ) → nat_abs z ≤ 2 ^ 126 → held z ≡ Some z
small_held (pos n) h = rw (fits-true (pos n) (record { sfits = omega (arith, h) })) refl
small_held (negsuc n) h = rw (fits-true (negsuc n) (record { sfits = omega (arith, h) })) refl
