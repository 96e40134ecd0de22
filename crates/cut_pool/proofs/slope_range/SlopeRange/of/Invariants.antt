use Rattle.cut_pool.specs.SlopeRanges.{AreEndsOfFirst}
use Rattle.cut_pool.proofs.slope_range.SlopeRange.of.Given as goal

abbrev pub invariant-loop-place : goal.invariant-loop-place
invariant-loop-place l = AreEndsOfFirst l.cuts l.place l.found
