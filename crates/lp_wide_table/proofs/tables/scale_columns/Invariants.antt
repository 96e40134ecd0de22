use Rattle.std.proofs.Common.{◌≡◌, drop, length}
use Rattle.lp_wide_table.specs.Shape.{IsWideTable}
use Rattle.lp_scale.specs.Walks.{run}
use Rattle.lp_wide_table.specs.Scaling.{wide_column_step}
use Rattle.lp_wide_table.proofs.tables.scale_columns.Given as goal

abbrev pub invariant-loop-j : goal.invariant-loop-j
invariant-loop-j l = record {
  whole : IsWideTable l.table;
  count : length l.table.costs ≡ length l.fn.table.costs;
  rows : l.table.rows ≡ l.fn.table.rows;
  value : run wide_column_step 0 l.columns l.fn.table ≡ run wide_column_step l.j (drop l.j l.columns) l.table;
}
