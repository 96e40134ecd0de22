use Rattle.std.proofs.Common.{◌≡◌, ℕ, ℤ, ◌+ℤ◌, ◌*ℤ◌, map, take, length}
use Rattle.base_num.specs.Sums.{entry}
use Rattle.problem.specs.declared.parts.Decision.{Decision}
use Rattle.cut_make.specs.Tabled.{Tabled}
use Rattle.cut_make.proofs.reduced_costs.add_costs.Given as goal

abbrev pub invariant-loop-j : goal.invariant-loop-j
invariant-loop-j l = record {
  count : length l.sums ≡ length l.initial.sums;
  value : (f : ℕ → ℤ) → Tabled f l.initial.sums → Tabled (λ j. f j +ℤ l.scale *ℤ entry (take l.j (map (λ (d : Decision). d.cost) l.decisions)) j) l.sums;
}
