use Rattle.std.proofs.Common.{◌≡◌, pos, negsuc, SFits, length}
use mir.Syntax.{w32}
use Rattle.std.proofs.lemmas.List.{length-replicate}
use Rattle.lp_table.specs.declared.table.WarmTable.{WarmTable}
use Rattle.lp_table.specs.Shape.{IsTable}
use Rattle.lp_scale.specs.Scaling.{AreSmall}
use Rattle.lp_scale.proofs.Shapes.{if_ok, blank_table, blank_small}
use Rattle.lp_scale.proofs.Weights.{read_least, read_greatest}
use Rattle.lp_scale.proofs.tables.blank.Goals as goal

pub returns-clause-whole : goal.returns-clause-whole
returns-clause-whole c = if_ok IsTable c.blank_with.result _ c.blank_with.ensures (blank_table c.args.count c.in_ok-columns.columns _ _ c.requires.few c.in_ok-columns.ensures.count)

pub returns-clause-small : goal.returns-clause-small
returns-clause-small c =
    let g : SFits w32 c.costs_scale-costs.result = record { sfits = c.costs_scale-costs.type_inv } in
    let h : SFits w32 c.values_scale-values.result = record { sfits = c.values_scale-values.type_inv } in
    if_ok (λ (t : WarmTable). AreSmall 512 t.scales) c.blank_with.result _ c.blank_with.ensures (blank_small 512 c.args.count c.in_ok-columns.columns _ _ c.in_ok-columns.ensures.range (read_least (negsuc 1299) _ g c.costs_scale-costs.ensures.least) (read_greatest (pos 1300) _ g c.costs_scale-costs.ensures.greatest) (read_least (negsuc 1299) _ h c.values_scale-values.ensures.least) (read_greatest (pos 0) _ h c.values_scale-values.ensures.greatest))

pub returns-clause-count : goal.returns-clause-count
returns-clause-count c = if_ok (λ (t : WarmTable). length t.costs ≡ c.args.count) c.blank_with.result _ c.blank_with.ensures (length-replicate c.args.count _)
