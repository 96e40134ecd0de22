use Rattle.std.proofs.Common.{arith}
use Rattle.lp_scan.proofs.Passed.{bounded_below, part_below}
use Rattle.lp_scan.proofs.first.are_below.Goals as goal

pub returns : goal.returns
returns c = λ less value is k from to.
    let all = c.args.all.now in
    bounded_below all.cuts.now all.leaving.now all.bounds.now all.base value all.shift c.args.limit k c.requires.bounded.bounds (omega (arith, to, c.requires.to, c.requires.bounded.same)) is
    (part_below all.bounds.now c.args.from c.args.to k c.greatest.result c.args.limit from to (omega (arith, c.requires.to, c.requires.bounded.same)) c.greatest.ensures less)
