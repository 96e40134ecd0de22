use Rattle.std.proofs.Common.{SFits, rules, ap, ap₂, ◌∙◌, nat_abs}
use Rattle.std.specs.Int.{int_rem_euclid}
use Rattle.std.proofs.lemmas.Int.{to_z-of_z}
use mir.Syntax.{w128}
use Rattle.cut_check.proofs.SizeRange.{rest_is}
use Rattle.cut_check.proofs.size.range.tail.Goals as goal

pub returns : goal.returns
returns c =
    let a : SFits w128 c.args.a = search rules in
    let d : SFits w128 c.args.d = search rules in
    c.unsigned_abs.ensures.value ∙ ap nat_abs (to_z-of_z w128 c.rem_euclid.result (record { sfits = c.rem_euclid.type_inv }) ∙ c.rem_euclid.ensures.value ∙ ap₂ int_rem_euclid (to_z-of_z w128 c.args.a a) (to_z-of_z w128 c.args.d d) ∙ rest_is c.args.a c.args.d c.requires)
