-- Shifts by more places than a number has.
use Rattle.std.proofs.Common.{◌≡◌, ℕ, zero, suc, ◌^◌, ◌<◌, ◌≤◌, ℤ, pos, negsuc, ◌<ℤ◌, FitsSigned, Some, arith, ap, sym, inr, ◌∙◌}
use Rattle.std.proofs.lemmas.Int.{ints}
use Rattle.std.proofs.Math.IntN.{zero-*ℤ}
use mir.Syntax.{w128}
use Rattle.lp_program.specs.Numbers.{held}
use Rattle.lp_table.specs.Numbers.{shift_up, shift_down, shift_of}
use Rattle.lp_table.proofs.Shifts.{up_absent, down_to_none, down_to_one}

far_up : (v : ℤ) (k : ℕ) → FitsSigned w128 v → 1000 ≤ k → shift_up v 1000 ≡ shift_up v k
unfolding shift_up
far_up (pos zero) k f h = ap held (zero-*ℤ (pos (2 ^ 1000)) ∙ sym (zero-*ℤ (pos (2 ^ k))))
far_up (pos (suc n)) k f h = sym (up_absent (pos (suc n)) 1000 (omega arith) (λ e. absurd (omega (arith, e))) (inr (λ e. absurd (omega (arith, e))))) ∙ up_absent (pos (suc n)) k (omega arith) (λ e. absurd (omega (arith, e))) (inr (λ e. absurd (omega (arith, e))))
far_up (negsuc n) k f h =
    let g : n < 2 ^ 127 = f.sfits in
    sym (up_absent (negsuc n) 1000 (omega arith) (λ e. absurd (omega (arith, g, e))) (inr (λ e. absurd (omega (arith, e))))) ∙ up_absent (negsuc n) k (omega arith) (λ e. absurd (omega (arith, g, e))) (inr (λ e. absurd (omega (arith, e))))

far_down : (v : ℤ) (k : ℕ) → FitsSigned w128 v → 1000 ≤ k → shift_down v 1000 ≡ shift_down v k
far_down (pos n) k f h = sym (down_to_none (pos n) 1000 f (omega arith) (omega (arith, ints))) ∙ down_to_none (pos n) k f (omega arith) (omega (arith, ints))
far_down (negsuc n) k f h = sym (down_to_one (negsuc n) 1000 f (omega arith) (omega (arith, ints))) ∙ down_to_one (negsuc n) k f (omega arith) (omega (arith, ints))

pub far_above : (v k : ℤ) → FitsSigned w128 v → pos 1000 <ℤ k → shift_of v (pos 1000) ≡ shift_of v k
far_above v (pos n) f h = far_up v n f (omega (arith, ints))
far_above v (negsuc n) f h = absurd (omega (arith, ints))

pub far_below : (v k : ℤ) → FitsSigned w128 v → k <ℤ negsuc 999 → shift_of v (negsuc 999) ≡ shift_of v k
far_below v (pos n) f h = absurd (omega (arith, ints))
far_below v (negsuc n) f h = ap Some (far_down v (suc n) f (omega (arith, ints)))
