use Rattle.std.proofs.Common.{◌≡◌, ℕ, ℤ, ◌+ℤ◌, ◌*ℤ◌, take, length}
use Rattle.base_num.specs.Sums.{coefficient}
use Rattle.cut_make.specs.Tabled.{Tabled}
use Rattle.cut_make.proofs.reduced_costs.add_narrow_terms.Given as goal

abbrev pub invariant-loop-variable : goal.invariant-loop-variable
invariant-loop-variable l = record {
  count : length l.sums ≡ length l.initial.sums;
  value : (f : ℕ → ℤ) → Tabled f l.initial.sums → Tabled (λ j. f j +ℤ l.multiplier *ℤ coefficient (take l.variable-index l.terms) j) l.sums;
}
