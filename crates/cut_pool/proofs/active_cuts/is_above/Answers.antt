use Rattle.std.proofs.Common.{SFits, rules}
use mir.Syntax.{w128}
use Rattle.std.proofs.lemmas.Int.{to_z-of_z}
use Rattle.cut_pool.proofs.Leads.{leads}
use Rattle.cut_pool.proofs.active_cuts.is_above.Goals as goal

pub returns-in-Some : goal.returns-in-Some
returns-in-Some c = λ more.
    let fits : SFits w128 c.in-Some.least = search rules in
    leads c.args.all.now.cuts.now c.args.all.now.lows.now c.args.all.now.highs.now c.args.first c.args.second c.in-Some.least _ (to_z-of_z w128 c.in-Some.least fits) more c.in-Some.ensures
