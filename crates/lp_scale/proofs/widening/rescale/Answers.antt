use Rattle.std.proofs.Common.{length, ap, sym, subst, ◌∙◌}
use Rattle.lp_table.specs.declared.table.WarmTable.{WarmTable}
use Rattle.lp_table.specs.Shape.{IsTable}
use Rattle.lp_scale.specs.Exponents.{AreUpTo}
use Rattle.lp_scale.specs.Scaling.{AreSmall}
use Rattle.lp_scale.specs.Widening.{rescaled}
use Rattle.lp_scale.proofs.Shapes.{on_ok, on_both, scales_table, scales_small}
use Rattle.lp_scale.proofs.widening.rescale.Goals as goal

pub returns-clause-whole : goal.returns-clause-whole
unfolding rescaled
returns-clause-whole c =
    on_both c.write_successors.result c.write_successors.ensures.value c.write_successors.ensures.count
    (λ e n. subst IsTable (sym e) (scales_table _ c.args.table.now (sym (ap (λ (u : WarmTable). length u.scales.columns) e) ∙ n) c.requires.whole))

pub returns-clause-small : goal.returns-clause-small
unfolding rescaled
returns-clause-small c =
    on_both c.write_successors.result c.write_successors.ensures.value c.write_successors.ensures.columns
    (λ e f. subst (λ (u : WarmTable). AreSmall 1000 u.scales) (sym e) (scales_small 512 1000 _ c.args.table.now (subst (AreUpTo 1000) (ap (λ (u : WarmTable). u.scales.columns) e) f) c.requires.small))

pub returns-clause-count : goal.returns-clause-count
unfolding rescaled
returns-clause-count c = on_ok c.write_successors.result c.write_successors.ensures.value (λ e. ap (λ (u : WarmTable). length u.costs) e)
