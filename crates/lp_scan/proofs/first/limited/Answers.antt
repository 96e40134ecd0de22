use Rattle.std.proofs.Common.{SFits, rules}
use Rattle.std.proofs.lemmas.Int.{to_z-of_z}
use mir.Syntax.{w64, w128}
use Rattle.lp_scan.proofs.Passed.{same_limit}
use Rattle.lp_scan.proofs.first.limited.Goals as goal

pub returns-clause-limit : goal.returns-clause-limit
returns-clause-limit c =
    let all = c.args.all.now in
    let base : SFits w64 all.base = search rules in
    let value : SFits w128 c.args.first.1 = search rules in
    same_limit all.shift c.limit_of.result _ all.base _ c.args.first.1 (to_z-of_z w64 all.base base) (to_z-of_z w128 c.args.first.1 value) c.limit_of.ensures
