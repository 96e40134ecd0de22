use Rattle.std.proofs.Common.{ℕ, ◌-◌, ◌^◌, ◌<◌, ℤ, pos, ◌*ℤ◌, ◌≤ℤ◌, map, length}
use Rattle.std.specs.Int.{int_min}
use Rattle.base_num.specs.Sums.{sum_to, entry}
use Rattle.problem.specs.declared.parts.Decision.{Decision}
use Rattle.theory.specs.Size.{magnitude, reach}
use Rattle.cut_make.specs.Congruent.{Congruent}
use Rattle.cut_make.specs.Tabled.{Tabled}
use Rattle.cut_make.proofs.constants.boxes_least.Given as goal

abbrev pub invariant-loop-j : goal.invariant-loop-j
invariant-loop-j l =
    (d : ℕ → ℤ) → Tabled d l.reduced → ((j : ℕ) → j < length l.decisions → (reach (map (λ (e : Decision). e.low) l.decisions) (map (λ (e : Decision). e.high) l.decisions) j *ℤ magnitude (d j)) ≤ℤ pos (2 ^ 127 - 1))
    → Congruent l.sum (sum_to l.j (λ j. int_min (d j *ℤ entry (map (λ (e : Decision). e.low) l.decisions) j) (d j *ℤ entry (map (λ (e : Decision). e.high) l.decisions) j)))
