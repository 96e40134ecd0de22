use Rattle.std.proofs.Common.{take}
use Rattle.cut_pool.specs.BoxMaxima.{IsBoxMaximum}
use Rattle.cut_pool.proofs.box_maxima.BoxMaximum.of.Given as goal

abbrev pub invariant-loop-cut : goal.invariant-loop-cut
invariant-loop-cut l = IsBoxMaximum (take l.cut-index l.cuts) l.found
