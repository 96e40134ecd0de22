use Rattle.std.proofs.Common.{arith}
use Rattle.lp_scale.proofs.Shapes.{small_more}
use Rattle.lp_scale.proofs.tables.columns_table.Goals as goal

pub scale_columns-requires-clause-small : goal.scale_columns-requires-clause-small
scale_columns-requires-clause-small c = small_more 512 1000 _ (omega arith) c.in_ok-table.ensures.small
