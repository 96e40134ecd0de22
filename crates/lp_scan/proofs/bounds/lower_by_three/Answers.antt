use Rattle.std.proofs.Common.{◌+◌}
use Rattle.lp_scan.proofs.Below.{bounds_more}
use Rattle.lp_scan.proofs.bounds.lower_by_three.Goals as goal

pub returns-clause-bounds : goal.returns-clause-bounds
returns-clause-bounds c = λ _.
    let coarse = c.args.coarse.now in
    bounds_more c.args.cuts.now c.args.states.now c.args.bounds.now c.lower.new.bounds coarse.base (coarse.slope_shift + coarse.state_shift) c.args.j c.in-Some.first c.in-Some-falls_with.second c.in-Some-falls_with-2.third c.requires.same c.lower.ensures.count c.requires.counts c.in-Some.ensures c.in-Some-falls_with.ensures c.in-Some-falls_with-2.ensures c.lower.ensures.lower c.requires.bounds
