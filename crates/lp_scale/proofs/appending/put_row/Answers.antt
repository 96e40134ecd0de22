use Rattle.std.proofs.Common.{ℕ, pos, negsuc, length, ap, sym, subst}
use Rattle.lp_table.specs.declared.table.WarmTable.{WarmTable}
use Rattle.lp_table.specs.Shape.{IsTable}
use Rattle.lp_scale.specs.Scaling.{AreSmall}
use Rattle.lp_scale.proofs.Shapes.{on_ok, row_table}
use Rattle.lp_scale.proofs.Weights.{row_small, read_least, read_greatest}
use Rattle.lp_scale.proofs.appending.put_row.Goals as goal

pub returns-clause-whole : goal.returns-clause-whole
returns-clause-whole c = on_ok c.push_row.result c.push_row.ensures (λ e. subst IsTable (sym e) (row_table _ c.args.terms.now c.args.sides c.args.table.now c.requires.rising c.requires.whole))

pub returns-clause-small : goal.returns-clause-small
returns-clause-small c = on_ok c.push_row.result c.push_row.ensures (λ e. λ (most : ℕ) w. subst (λ (t : WarmTable). AreSmall most t.scales) (sym e) (row_small most _ c.args.terms.now c.args.sides c.args.table.now (read_least (negsuc 1299) _ c.ranges.exponent c.requires.least) (read_greatest (pos 1300) _ c.ranges.exponent c.requires.greatest) w))

pub returns-clause-count : goal.returns-clause-count
returns-clause-count c = on_ok c.push_row.result c.push_row.ensures (λ e. ap (λ (t : WarmTable). length t.costs) e)
