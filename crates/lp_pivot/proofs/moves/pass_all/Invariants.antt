use Rattle.std.proofs.Common.{◌≡◌, drop}
use Rattle.lp_table.specs.Shape.{IsTable}
use Rattle.lp_table.specs.SameParts.{with_values}
use Rattle.lp_pivot.specs.Move.{passed}
use Rattle.lp_pivot.proofs.moves.pass_all.Given as goal

abbrev pub invariant-loop-k : goal.invariant-loop-k
invariant-loop-k l = record {
  sized : IsTable l.table;
  kept : l.table ≡ with_values l.fn.table l.table.values;
  passed : passed l.fn.table l.flips l.fn.table.values ≡ passed l.fn.table (drop l.k l.flips) l.table.values;
}
