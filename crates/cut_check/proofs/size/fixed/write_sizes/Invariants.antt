use Rattle.std.proofs.Common.{◌≡◌, ◌<◌, ◌^◌, ℕ, length, get_or, min}
use Rattle.problem.specs.declared.parts.Row.{Row}
use Rattle.cut_make.specs.SizeByTerms.{fixed_row}
use Rattle.cut_check.proofs.size.fixed.write_sizes.Given as goal

abbrev pub invariant-loop-i : goal.invariant-loop-i
invariant-loop-i l = record {
  count : length l.amounts ≡ length l.initial.amounts;
  rows : (i : ℕ) (row : Row) (amount : ℕ) → i < l.i → get_or l.amounts i amount ≡ min (fixed_row l.boxes.decisions.decisions.now l.boxes.states.low.now l.boxes.states.high.now (get_or l.rows i row)) (2 ^ 127);
}
