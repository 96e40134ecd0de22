use Rattle.std.proofs.Common.{◌+◌, SFits, rules}
use Rattle.std.proofs.lemmas.Int.{to_z-of_z}
use mir.Syntax.{w128}
use Rattle.lp_scan.proofs.Passed.{passes}
use Rattle.lp_scan.proofs.first.take_between.Goals as goal

pub loop-k-init : goal.loop-k-init
loop-k-init c =
    let all = c.args.all.now in
    let best = c.args.best in
    let fits : SFits w128 best.1 = search rules in
    record {
      there = c.next-k.ensures.there;
      first = passes all.cuts.now all.leaving.now c.args.from c.next-k.result best _ (to_z-of_z w128 best.1 fits) c.requires.first c.next-k.ensures.passed;
    }

pub loop-k-preserved : goal.loop-k-preserved
loop-k-preserved c =
    let all = c.args.all.now in
    let next = c.next-k-in-loop-k in
    let best = c.take-best.result in
    let fits : SFits w128 best.1 = search rules in
    record {
      there = next.ensures.there;
      first = passes all.cuts.now all.leaving.now (c.loop-k.k + 1) next.result best _ (to_z-of_z w128 best.1 fits) c.take-best.ensures next.ensures.passed;
    }
