-- Sharing out a target over the duals of cuts that are not 0, each with its place.
use Rattle.std.specs.Prelude.{ℕ, ◌-◌, min, List, [], ◌∷◌, ◌++◌}
use Rattle.lp_program.specs.declared.fixed.Fx.{Fx}
use Rattle.plan_answer.specs.Settling.{cut_multiplier, pairs_from}

-- the pairs of the multipliers, of which in order each is at most the rest of the target
abbrev pub kept_pairs : ℕ → List (ℕ × Fx) → List (ℕ × ℕ)
kept_pairs left [] = []
kept_pairs left (p ∷ ps) = pairs_from p.0 (min (cut_multiplier p.1.0) left ∷ []) ++ kept_pairs (left - cut_multiplier p.1.0) ps

-- the amount of it that is left then
abbrev pub left_over : ℕ → List (ℕ × Fx) → ℕ
left_over left [] = left
left_over left (p ∷ ps) = left_over (left - cut_multiplier p.1.0) ps
