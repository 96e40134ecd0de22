use Rattle.std.proofs.Common.{◌≡◌, ℕ, ◌*◌, [], ◌∷◌, map, take}
use Rattle.theory.specs.Problem.{S}
use Rattle.cut_check.proofs.base_pools.first_cuts.Given as goal

abbrev pub invariant-loop-weight : goal.invariant-loop-weight
invariant-loop-weight l = l.found ≡ map (λ (w : ℕ). (0, S * w) ∷ []) (take l.weight-index l.weights)
