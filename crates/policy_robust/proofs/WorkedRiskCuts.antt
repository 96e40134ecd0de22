-- Risk cuts of a reservoir, by computing.
use Rattle.std.proofs.Common.{◌≡◌, pos, negsuc, [], ◌∷◌, Some, refl}
use Rattle.theory.specs.Problem.{S}
use Rattle.theory.specs.Base.{base_list}
use Rattle.theory.specs.Bound.{bound}
use Rattle.theory.specs.Examples.{reservoir, reservoir_problem, reservoir_certificate, best_tree, policy_of}
use Rattle.cut_make.specs.Acceptance.{fault_of}
use Rattle.policy_robust.specs.Listed.{own_weights}
use Rattle.cut_make.specs.Reweighting.{cut_with}
use Rattle.policy_robust.specs.RiskCuts.{risk_cut_of}
use Rattle.policy_robust.specs.RiskCost.{risk_policy_cost}

pub base_risk_cut : risk_cut_of [] (reservoir 1) (base_list (reservoir 1)) (own_weights (reservoir 1) ∷ (3 ∷ 1 ∷ []) ∷ []) ≡ Some (record { alpha = pos 0; beta = pos 0 ∷ [] })
unfolding S risk_cut_of cut_with fault_of
base_risk_cut = refl

-- (3*40 + 30)/4 - 5v is greater at 0 than 35 - 5v
pub risk_cut : risk_cut_of [] (reservoir 1) (reservoir_certificate ∷ reservoir_certificate ∷ []) (own_weights (reservoir 1) ∷ (3 ∷ 1 ∷ []) ∷ []) ≡ Some (record { alpha = pos 629145600; beta = negsuc 83886079 ∷ [] })
unfolding S risk_cut_of cut_with fault_of
risk_cut = refl

pub own_risk_cut : risk_cut_of [] (reservoir 1) (reservoir_certificate ∷ reservoir_certificate ∷ []) (own_weights (reservoir 1) ∷ []) ≡ Some (record { alpha = pos 587202560; beta = negsuc 83886079 ∷ [] })
unfolding S risk_cut_of cut_with fault_of
own_risk_cut = refl

-- 37.5 - 5*4 at the volume 4
pub worst : bound (reservoir_problem 1) ((record { alpha = pos 0; beta = pos 0 ∷ [] } ∷ record { alpha = pos 629145600; beta = negsuc 83886079 ∷ [] } ∷ []) ∷ []) ≡ pos 293601280
worst = refl

-- the greater of (20 + 10)/2 and (3*20 + 10)/4
pub risk : risk_policy_cost (reservoir_problem 1) ((own_weights (reservoir 1) ∷ (3 ∷ 1 ∷ []) ∷ []) ∷ []) 1 (policy_of best_tree) ≡ record { up = pos 70; under = 4 }
risk = refl
