use Rattle.cut_pool.specs.Active.{AreFirst}
use Rattle.cut_pool.proofs.active_cuts.Active.of.Given as goal

abbrev pub invariant-loop-place : goal.invariant-loop-place
invariant-loop-place l = AreFirst l.cuts l.place l.found
