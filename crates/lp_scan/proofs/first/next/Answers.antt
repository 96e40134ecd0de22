use Rattle.std.proofs.Common.{SFits, arith, rules}
use Rattle.std.proofs.lemmas.Int.{to_z-of_z}
use mir.Syntax.{w64, w128}
use Rattle.lp_scan.proofs.Passed.{same_limit, bounded_below}
use Rattle.lp_scan.proofs.first.next.Goals as goal

pub returns-clause-passed : goal.returns-clause-passed
returns-clause-passed c = λ k from to.
    let all = c.args.all.now in
    let fits : SFits w64 all.base = search rules in
    let limit = same_limit all.shift c.limit_of.result _ all.base _ c.args.value (to_z-of_z w64 all.base fits) (to_z-of_z w128 c.args.value c.ranges.value) c.limit_of.ensures in
    bounded_below all.cuts.now all.leaving.now all.bounds.now all.base c.args.value all.shift c.limit_of.result k c.requires.bounded.bounds (omega (arith, to, c.next_from.ensures.there, c.requires.to, c.requires.bounded.same)) limit (c.next_from.ensures.passed k from to)
