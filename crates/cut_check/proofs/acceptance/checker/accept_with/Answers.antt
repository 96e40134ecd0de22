use Rattle.std.proofs.Common.{refl}
use Rattle.cut_check.proofs.acceptance.checker.accept_with.Goals as goal

pub of-here-requires : goal.of-here-requires
of-here-requires c = record { known = c.requires.known; fit = c.requires.fit; weighs = record { count = c.requires.count; positive = c.requires.positive; total = c.requires.total } }

pub check-requires : goal.check-requires
check-requires c = (refl, c.of-here.ensures.parts.sized)

pub returns : goal.returns
returns c =
    let o = c.of-here.ensures in
    rw (o.parts.is, ← o.weights, ← o.pools) c.check.ensures
