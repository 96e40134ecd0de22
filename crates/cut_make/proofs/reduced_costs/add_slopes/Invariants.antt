use Rattle.std.proofs.Common.{◌≡◌, ℕ, ℤ, ◌+ℤ◌, ◌*ℤ◌, take, length}
use Rattle.base_num.specs.Sums.{coefficient, placed}
use Rattle.cut_make.specs.Tabled.{Tabled}
use Rattle.cut_make.proofs.reduced_costs.add_slopes.Given as goal

abbrev pub invariant-loop-s : goal.invariant-loop-s
invariant-loop-s l = record {
  count : length l.sums ≡ length l.initial.sums;
  value : (f : ℕ → ℤ) → Tabled f l.initial.sums → Tabled (λ j. f j +ℤ l.multiplier *ℤ coefficient (take l.s (placed l.outs l.slopes)) j) l.sums;
}
