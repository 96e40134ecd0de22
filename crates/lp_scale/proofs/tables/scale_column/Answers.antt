use Rattle.std.proofs.Common.{sym, subst}
use Rattle.lp_table.specs.Shape.{IsTable}
use Rattle.lp_scale.proofs.Shapes.{column_table}
use Rattle.lp_scale.proofs.tables.scale_column.Goals as goal

pub returns-in-Some-clause-whole : goal.returns-in-Some-clause-whole
returns-in-Some-clause-whole c = subst IsTable (sym c.write_column.ensures) (column_table c.args.j _ c.args.table.now c.requires.whole)
