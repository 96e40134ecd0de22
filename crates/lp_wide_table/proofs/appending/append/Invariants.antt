use Rattle.std.proofs.Common.{◌≡◌, ◌+◌, drop, length}
use Rattle.lp_program.specs.declared.programs.LpRow.{LpRow}
use Rattle.lp_wide_table.specs.Shape.{IsWideTable}
use Rattle.lp_scale.specs.Walks.{run}
use Rattle.lp_wide_table.specs.Appending.{wide_appended, wide_appended_row}
use Rattle.lp_wide_table.proofs.appending.append.Given as goal

abbrev pub invariant-loop-i : goal.invariant-loop-i
invariant-loop-i l = record {
  whole : IsWideTable l.table;
  count : length l.table.costs ≡ length l.fn.table.costs;
  rows : length l.table.rows ≡ length l.fn.table.rows + l.i;
  value : wide_appended l.rows l.fn.table ≡ run (λ i (r : LpRow) s. wide_appended_row r s) l.i (drop l.i l.rows) l.table;
}
