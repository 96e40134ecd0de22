use Rattle.std.proofs.Common.{ℕ, ◌<◌, ◌≤◌, get_or}
use Rattle.problem.specs.declared.parts.Row.{Row}
use Rattle.cut_check.specs.Bounds.{row_bound}
use Rattle.cut_check.proofs.size.bound.rows_most.Given as goal

abbrev pub invariant-loop-i : goal.invariant-loop-i
invariant-loop-i l = (i : ℕ) (d : Row) → i < l.i → row_bound l.values.bound l.boxes.decisions.decisions.now l.boxes.states.low.now l.boxes.states.high.now (get_or l.rows i d) ≤ l.most
