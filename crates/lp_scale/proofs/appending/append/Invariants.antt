use Rattle.std.proofs.Common.{◌≡◌, ℕ, drop, length}
use Rattle.lp_program.specs.declared.programs.LpRow.{LpRow}
use Rattle.lp_table.specs.Shape.{IsTable}
use Rattle.lp_scale.specs.Walks.{run}
use Rattle.lp_scale.specs.Scaling.{AreSmall}
use Rattle.lp_scale.specs.Appending.{appended, appended_row}
use Rattle.lp_scale.proofs.appending.append.Given as goal

abbrev pub invariant-loop-i : goal.invariant-loop-i
invariant-loop-i l = record {
  whole : IsTable l.table;
  small : (most : ℕ) → AreSmall most l.fn.table.scales → AreSmall most l.table.scales;
  count : length l.table.costs ≡ length l.fn.table.costs;
  value : appended l.rows l.fn.table ≡ run (λ i (r : LpRow) s. appended_row r s) l.i (drop l.i l.rows) l.table;
}
