use Rattle.std.proofs.Common.{◌+◌, refl}
use Rattle.lp_scan.proofs.Passed.{passes}
use Rattle.lp_scan.proofs.first.take_part.Goals as goal

pub returns-then-are_below-clause-first : goal.returns-then-are_below-clause-first
returns-then-are_below-clause-first c =
    let all = c.args.all.now in
    let best = c.args.best.first in
    passes all.cuts.now all.leaving.now c.args.from (c.args.from + 8) best best.1 refl c.requires.first (c.are_below.ensures c.if-are_below.true best.1 c.requires.limit)
