use Rattle.std.proofs.Common.{◌≡◌, length, take, drop}
use Rattle.base_num.specs.Each.{each_from}
use Rattle.base_num.specs.Sums.{entry}
use Rattle.lp_table.specs.Updates.{moved_cell, added_row}
use Rattle.base_num.proofs.Each.{behind}
use Rattle.lp_table.proofs.updates.add_row_wide.Given as goal

abbrev pub invariant-loop-j : goal.invariant-loop-j
invariant-loop-j l = record {
  count : length l.row ≡ length l.fn.row;
  results : added_row l.factor l.addend l.fn.row ≡ behind (take l.j l.row) (each_from (λ j t. moved_cell l.factor (entry l.addend j) t) l.j (drop l.j l.row));
}
