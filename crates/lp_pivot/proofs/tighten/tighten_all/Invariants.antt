use Rattle.std.proofs.Common.{◌≡◌, ◌-◌, length}
use Rattle.lp_table.specs.Shape.{IsTable, variables}
use Rattle.lp_table.specs.SameParts.{with_basis}
use Rattle.lp_pivot.specs.Tighten.{tightened}
use Rattle.lp_pivot.proofs.tighten.tighten_all.Given as goal

abbrev pub invariant-loop-slack : goal.invariant-loop-slack
invariant-loop-slack l = record {
  sized : IsTable l.table;
  width : length l.line ≡ length l.fn.line;
  steps : length l.steps ≡ length l.fn.steps;
  kept : l.table ≡ with_basis l.fn.table l.table.basis l.table.reduced l.table.lines;
  left : tightened l.was l.fn.table (length l.fn.table.costs) (length l.fn.table.rows) ≡ tightened l.was l.table l.slack (variables l.fn.table - l.slack);
}
