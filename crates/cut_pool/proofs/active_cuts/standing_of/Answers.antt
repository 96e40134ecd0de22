use Rattle.std.proofs.Common.{arith}
use Rattle.cut_pool.proofs.Covered.{place_below}
use Rattle.cut_pool.proofs.active_cuts.standing_of.Goals as goal

pub is_over-requires-clause-before : goal.is_over-requires-clause-before
is_over-requires-clause-before c = place_below 0 c.args.place c.loop-k.k c.args.places.now c.requires.rising c.loop-k-test.true

pub is_above-requires-clause-second : goal.is_above-requires-clause-second
is_above-requires-clause-second c = omega (arith, place_below 0 c.args.place c.loop-k.k c.args.places.now c.requires.rising c.loop-k-test.true, c.requires.there)
