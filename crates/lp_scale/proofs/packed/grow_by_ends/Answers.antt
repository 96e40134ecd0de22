use Rattle.std.proofs.Common.{◌∙◌, ap₂}
use Rattle.std.proofs.lemmas.Int.{to_z-of_z}
use mir.Syntax.{w32}
use Rattle.lp_scale.specs.Packed.{grown_above_zero}
use Rattle.lp_scale.proofs.SlopeEnds.{by_ends}
use Rattle.lp_scale.proofs.packed.grow_by_ends.Goals as goal

pub returns-clause-value : goal.returns-clause-value
returns-clause-value c = λ is_so.
    let top = to_z-of_z w32 c.most_digits-top.result (record { sfits = c.most_digits-top.type_inv }) ∙ c.most_digits-top.ensures.value in
    c.grow_above_zero.ensures ∙ ap₂ grown_above_zero c.grow_by_places-grown.ensures.value top
    ∙ by_ends c.args.lifts.now c.args.cuts.now c.args.ends.now c.args.span c.requires.ends c.requires.small (c.grow_by_places-grown.ensures.above is_so)
