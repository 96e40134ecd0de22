use Rattle.std.proofs.Common.{◌≡◌, ℕ, ℤ, ◌+ℤ◌, ◌*ℤ◌, take, length}
use Rattle.base_num.specs.Sums.{entry}
use Rattle.cut_make.specs.Tabled.{Tabled}
use Rattle.cut_make.proofs.slopes.add_numbers.Given as goal

abbrev pub invariant-loop-k : goal.invariant-loop-k
invariant-loop-k l = record {
  count : length l.sums ≡ length l.initial.sums;
  value : (f : ℕ → ℤ) → Tabled f l.initial.sums → Tabled (λ j. f j +ℤ l.factor *ℤ entry (take l.k l.numbers) j) l.sums;
}
