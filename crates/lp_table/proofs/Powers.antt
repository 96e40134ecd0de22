-- Powers of 2.
use Rattle.std.proofs.Common.{◌≡◌, ℕ, ◌^◌, ◌*◌, ◌%◌, ◌<◌, ◌≤◌, pos, to_z, SFits, arith, ap, ◌∙◌}
use Rattle.std.proofs.Math.Nat.{pow-le-pow_right, mod-eq_of_lt}
use Rattle.std.proofs.lemmas.Int.{to_z-of_z}
use mir.Syntax.{w64, w128}

pub power_more : (k m : ℕ) → m ≤ k → 2 ^ m ≤ 2 ^ k
power_more k m h = pow-le-pow_right (omega arith) h

pub power_read : (k : ℕ) → k ≤ 126 → to_z w128 (1 * 2 ^ k % 2 ^ 128) ≡ pos (2 ^ k)
power_read k h =
    let small : 2 ^ k < 2 ^ 127 = omega (arith, power_more 126 k h) in
    let fits : SFits w128 (pos (2 ^ k)) = record { sfits = small } in
    let one : 1 * 2 ^ k ≡ 2 ^ k = omega arith in
    ap (λ (n : ℕ). to_z w128 (n % 2 ^ 128)) one ∙ ap (to_z w128) (mod-eq_of_lt (omega (arith, small))) ∙ to_z-of_z w128 (pos (2 ^ k)) fits

-- powers in 64 bits
pub short_power_read : (k : ℕ) → k ≤ 62 → to_z w64 (1 * 2 ^ k % 2 ^ 64) ≡ pos (2 ^ k)
short_power_read k h =
    let small : 2 ^ k < 2 ^ 63 = omega (arith, power_more 62 k h) in
    let fits : SFits w64 (pos (2 ^ k)) = record { sfits = small } in
    let one : 1 * 2 ^ k ≡ 2 ^ k = omega arith in
    ap (λ (n : ℕ). to_z w64 (n % 2 ^ 64)) one ∙ ap (to_z w64) (mod-eq_of_lt (omega (arith, small))) ∙ to_z-of_z w64 (pos (2 ^ k)) fits
