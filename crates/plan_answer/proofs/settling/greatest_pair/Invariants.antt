use Rattle.std.proofs.Common.{◌≡◌, ℕ, map, drop}
use Rattle.plan_answer.specs.Settling.{greatest_place_from, place_of_greatest}
use Rattle.plan_answer.proofs.settling.greatest_pair.Given as goal

abbrev pub invariant-loop-i : goal.invariant-loop-i
invariant-loop-i l = greatest_place_from l.best l.most l.i (map (λ (s : ℕ × ℕ). s.1) (drop l.i l.pairs)) ≡ place_of_greatest (map (λ (s : ℕ × ℕ). s.1) l.pairs)
