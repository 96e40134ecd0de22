use Rattle.std.proofs.Common.{◌≤ℤ◌, take, All}
use Rattle.lp_program.specs.declared.programs.Column.{Column}
use Rattle.test_golden.proofs.proper.have_boxes.Given as goal

abbrev pub invariant-loop-column : goal.invariant-loop-column
invariant-loop-column l = All (λ (c : Column). c.low.0 ≤ℤ c.high.0) (take l.column-index l.columns)
