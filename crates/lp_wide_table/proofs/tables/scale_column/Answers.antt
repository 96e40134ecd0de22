use Rattle.std.proofs.Common.{sym, subst}
use Rattle.lp_wide_table.specs.Shape.{IsWideTable}
use Rattle.lp_wide_table.proofs.Shaping.{column_table}
use Rattle.lp_wide_table.proofs.tables.scale_column.Goals as goal

pub returns-in-Some-clause-whole : goal.returns-in-Some-clause-whole
returns-in-Some-clause-whole c = subst IsWideTable (sym c.write_column.ensures) (column_table c.args.j _ c.args.table.now c.requires.whole)
