use Rattle.std.proofs.Common.{take}
use Rattle.cut_pool.specs.FlatCuts.{IsFlat}
use Rattle.cut_pool.proofs.flat_cuts.FlatCuts.of.Given as goal

abbrev pub invariant-loop-cut : goal.invariant-loop-cut
invariant-loop-cut l = IsFlat (take l.cut-index l.cuts) l.found
