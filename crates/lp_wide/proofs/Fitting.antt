-- A program that fits a table fits it on.
use Rattle.std.proofs.Common.{length, ap, sym, ◌∙◌}
use Rattle.lp_program.specs.declared.programs.Program.{Program}
use Rattle.lp_wide_table.specs.declared.table.WideTable.{WideTable}
use Rattle.lp_wide_table.specs.Shape.{IsWideTable, WideFits}
use Rattle.lp_wide_table.specs.SameParts.{WideKeepsProgram}

pub still_fits : (old new : WideTable) (lp : Program) → WideFits old lp → IsWideTable new → WideKeepsProgram old new → WideFits new lp
still_fits old new lp f s w = record {
  table = s;
  columns = f.columns ∙ sym (ap (λ (t : WideTable). length t.costs) w);
  rows = f.rows ∙ sym (ap (λ (t : WideTable). length t.rows) w);
}
