-- The cost of a policy from above, in whole numbers at scale 2^24.
use Rattle.std.specs.Prelude.{ℕ, ℤ, pos, ◌*ℤ◌, neg_ℤ, ◌≤ℤ◌}
use Rattle.base_num.specs.Sums.{floor_over}
use Rattle.theory.specs.Fraction.{Fraction, ◌≤ᶠ◌}
use Rattle.theory.specs.Problem.{S, Problem}
use Rattle.theory.specs.Tree.{Forest}
use Rattle.theory.specs.Cost.{policy_cost}

-- a / d, rounded up
abbrev pub ceiling_over : ℤ → ℕ → ℤ
ceiling_over a d = neg_ℤ (floor_over (neg_ℤ a) d)

-- a fraction times 2^24, rounded up
abbrev pub scaled_up : Fraction → ℤ
scaled_up f = ceiling_over (f.up *ℤ pos S) f.under

-- Upper: the cost of the policy at scale 2^24, rounded up once
unfoldable pub upper_of : Problem → Forest → ℤ
upper_of p f = scaled_up (policy_cost p S f)

-- the least whole number u with cost ≤ u / S
pub record IsLeastUpper (p : Problem) (f : Forest) (u : ℤ) : Type 0 where
  pub above : policy_cost p S f ≤ᶠ record { up = u; under = S }
  pub least : (v : ℤ) → policy_cost p S f ≤ᶠ record { up = v; under = S } → u ≤ℤ v
