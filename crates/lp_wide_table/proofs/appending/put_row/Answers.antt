use Rattle.std.proofs.Common.{pos, negsuc, [], ◌∷◌, length, length-append, ap, sym, subst, ◌∙◌}
use Rattle.lp_scale.proofs.Shapes.{on_ok}
use Rattle.lp_scale.proofs.Weights.{read_least, read_greatest}
use Rattle.lp_wide_table.specs.declared.table.WideTable.{WideTable}
use Rattle.lp_wide_table.specs.Shape.{IsWideTable}
use Rattle.lp_wide_table.proofs.Shaping.{row_table, row_small}
use Rattle.lp_wide_table.proofs.appending.put_row.Goals as goal

pub returns-clause-whole : goal.returns-clause-whole
returns-clause-whole c =
    on_ok c.push_row.result c.push_row.ensures
    (λ e. subst IsWideTable (sym e) (row_table _ c.args.terms.now c.args.sides c.args.table.now c.requires.rising (row_small _ c.args.terms.now c.args.sides c.args.table.now (read_least (negsuc 1299) _ c.ranges.exponent c.requires.least) (read_greatest (pos 1300) _ c.ranges.exponent c.requires.greatest) c.requires.whole.small) c.requires.whole))

pub returns-clause-count : goal.returns-clause-count
returns-clause-count c = on_ok c.push_row.result c.push_row.ensures (λ e. ap (λ (t : WideTable). length t.costs) e)

pub returns-clause-rows : goal.returns-clause-rows
returns-clause-rows c = on_ok c.push_row.result c.push_row.ensures (λ e. ap (λ (t : WideTable). length t.rows) e ∙ length-append c.args.table.now.rows (c.args.terms.now ∷ []))
