use Rattle.std.proofs.Common.{◌≡◌, ℕ, ℤ, ◌+ℤ◌, ◌*ℤ◌, zip, take, length}
use Rattle.base_num.specs.Sums.{total, coefficient}
use Rattle.problem.specs.declared.parts.Row.{Row}
use Rattle.cut_make.specs.Tabled.{Tabled}
use Rattle.cut_make.proofs.slopes.add_rows.Given as goal

abbrev pub invariant-loop-i : goal.invariant-loop-i
invariant-loop-i l = record {
  count : length l.sums ≡ length l.initial.sums;
  value : (f : ℕ → ℤ) → Tabled f l.initial.sums → Tabled (λ j. f j +ℤ l.factor *ℤ total (λ (q : Row × ℤ). q.1 *ℤ coefficient q.0.states j) (take l.i (zip l.rows l.multipliers))) l.sums;
}
