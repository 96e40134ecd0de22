use Rattle.std.proofs.Common.{◌∙◌}
use Rattle.std.proofs.lemmas.Int.{to_z-of_z}
use mir.Syntax.{w32}
use Rattle.lp_scale.proofs.Passes.{row_is}
use Rattle.lp_scale.proofs.exponents.add_row.Goals as goal

pub returns-clause-value : goal.returns-clause-value
returns-clause-value c = row_is c.args.decisions _ c.args.reaches.now c.args.exponents.now _ c.args.spans.now _ c.args.terms.now c.border-border.ensures (to_z-of_z w32 _ (record { sfits = c.row_lift-exponent.type_inv }) ∙ c.row_lift-exponent.ensures.value) c.add_terms.ensures.value
