use Rattle.std.proofs.Common.{◌≡◌, length}
use Rattle.std.proofs.lemmas.List.{length-replicate}
use Rattle.lp_scale.proofs.Shapes.{if_ok}
use Rattle.lp_wide_table.specs.declared.table.WideTable.{WideTable}
use Rattle.lp_wide_table.specs.Shape.{IsWideTable}
use Rattle.lp_wide_table.proofs.Shaping.{blank_table}
use Rattle.lp_wide_table.proofs.tables.blank_table.Goals as goal

pub returns-clause-whole : goal.returns-clause-whole
returns-clause-whole c = if_ok IsWideTable c.blank.result _ c.blank.ensures (blank_table c.args.count c.args.scales c.requires.few c.requires.small c.requires.columns c.requires.rows)

pub returns-clause-count : goal.returns-clause-count
returns-clause-count c = if_ok (λ (t : WideTable). length t.costs ≡ c.args.count) c.blank.result _ c.blank.ensures (length-replicate c.args.count _)
