use Rattle.std.proofs.Common.{◌∙◌}
use Rattle.std.proofs.lemmas.Int.{to_z-of_z}
use mir.Syntax.{w128}
use Rattle.lp_scan.proofs.Passed.{takes}
use Rattle.lp_scan.proofs.first.take.Goals as goal

pub returns : goal.returns
returns c =
    let all = c.args.all.now in
    let value = to_z-of_z w128 c.value_at.result (record { sfits = c.value_at.type_inv }) ∙ c.value_at.ensures in
    takes all.cuts.now all.leaving.now c.args.number _ c.args.best c.former.result c.requires.there value c.former.ensures.one c.former.ensures.best c.former.ensures.other c.requires.first
