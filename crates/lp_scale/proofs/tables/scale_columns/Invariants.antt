use Rattle.std.proofs.Common.{◌≡◌, ◌+◌, drop, length}
use Rattle.lp_table.specs.Shape.{IsTable}
use Rattle.lp_scale.specs.Walks.{run}
use Rattle.lp_scale.specs.Scaling.{column_step}
use Rattle.lp_scale.proofs.tables.scale_columns.Given as goal

abbrev pub invariant-loop-j : goal.invariant-loop-j
invariant-loop-j l = record {
  whole : IsTable l.table;
  scales : l.table.scales ≡ l.fn.table.scales;
  count : length l.table.costs ≡ length l.fn.table.costs;
  value : run column_step l.first l.columns l.fn.table ≡ run column_step (l.first + l.j) (drop l.j l.columns) l.table;
}
