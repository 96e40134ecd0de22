-- Cuts whose values over the states that leave a stage stay small.
use Rattle.std.specs.Prelude.{◌≡◌, ℕ, ◌<◌, ◌≤◌, ◌^◌, ℤ, List, nat_abs, length}
use Rattle.base_num.specs.Sums.{entry}
use Rattle.problem.specs.declared.parts.Subproblem.{Subproblem}
use Rattle.theory.specs.declared.cut.Cut.{Cut}
use Rattle.lp_program.specs.declared.packed.Out.{Out}
use Rattle.plan_stage.specs.Stage.{at_low, at_high}

-- one slope per state, and no number nor product with an end of the box above 2^104
pub record Spans (s : Subproblem) (c : Cut) : Type 0 where
  pub slopes : length c.beta ≡ length s.outs
  pub alpha : nat_abs c.alpha ≤ 2 ^ 104
  pub each : (k : ℕ) → k < length s.outs → nat_abs (entry c.beta k) ≤ 2 ^ 104
  pub lows : (k : ℕ) → k < length s.outs → nat_abs (at_low s c k) ≤ 2 ^ 104
  pub highs : (k : ℕ) → k < length s.outs → nat_abs (at_high s c k) ≤ 2 ^ 104

-- there is a slope for the state, of at most 2^104
pub record IsSlopeWithin (slopes : List ℤ) (o : Out) : Type 0 where
  pub there : o.state < length slopes
  pub small : nat_abs (entry slopes o.state) ≤ 2 ^ 104
