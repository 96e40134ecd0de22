-- Powers of 2 are held.
use Rattle.std.proofs.Common.{◌≡◌, ◌^◌, ◌-◌, ◌*◌, ◌≤◌, ℕ, ℤ, pos, ◌*ℤ◌, nat_lt, Bool, true, Option, Some, None, cond, arith, ap, ◌∙◌}
use Rattle.std.proofs.lemmas.Bool.Decides.{nat_tests}
use Rattle.lp_table.proofs.Powers.{power_more}
use Rattle.lp_wide_table.specs.WideWhole.{held_wide}

held_power : (j : ℕ) → j ≤ 249 → held_wide 255 (pos (2 ^ j)) ≡ Some (pos (2 ^ j))
held_power j h =
    let l : 2 ^ j ≤ 2 ^ 249 = power_more 249 j h in
    let e : nat_lt (2 ^ j) (2 ^ 255) ≡ true = grind (arith, nat_tests) in
    ap (λ (b : Bool). cond b (Some (pos (2 ^ j))) None) e

one_times : (n : ℕ) → pos 1 *ℤ pos n ≡ pos n
one_times n = let e : 1 * n ≡ n = omega arith in ap pos e

-- half of 2^k is there
pub half_held : (r : Option ℤ) (k : ℕ) → k ≤ 250 → r ≡ held_wide 255 (pos 1 *ℤ pos (2 ^ (k - 1))) → r ≡ Some (pos (2 ^ (k - 1)))
half_held r k h e = e ∙ ap (held_wide 255) (one_times (2 ^ (k - 1))) ∙ held_power (k - 1) (omega (arith, h))
