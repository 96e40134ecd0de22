-- Rows that were worked out by hand, by computing.
use Rattle.std.proofs.Common.{◌≡◌, ◌^◌, pos, [], ◌∷◌, map, refl}
use Rattle.lp_program.specs.Numbers.{number}
use Rattle.theory.specs.Problem.{S}
use Rattle.theory.specs.Examples.{reservoir}
use Rattle.plan_forward.specs.Costing.{residual_of, residuals_of, stage_cost_of}
use Rattle.plan_forward.specs.Deciding.{decisions_from_point}

pub both_met : residuals_of (reservoir 1) (pos 0 ∷ pos 83886080 ∷ pos 67108864 ∷ []) (pos 67108864 ∷ []) (pos 1 ∷ []) ≡ pos 0 ∷ pos 0 ∷ []
unfolding S residual_of
both_met = refl

pub four_of_power : stage_cost_of (reservoir 1) (pos 0 ∷ pos 83886080 ∷ pos 67108864 ∷ []) (pos 67108864 ∷ []) (pos 1 ∷ []) ≡ pos 335544320
unfolding S stage_cost_of
four_of_power = refl

pub both_missed : residuals_of (reservoir 1) (pos 0 ∷ pos 67108864 ∷ pos 67108864 ∷ []) (pos 67108864 ∷ []) (pos 1 ∷ []) ≡ pos 16777216 ∷ pos 16777216 ∷ []
unfolding S residual_of
both_missed = refl

pub three_decided : decisions_from_point (reservoir 1) (map number (pos 511 ∷ pos (2 ^ 40) ∷ [])) ≡ pos 1 ∷ pos 134217728 ∷ pos 0 ∷ []
unfolding S
three_decided = refl
