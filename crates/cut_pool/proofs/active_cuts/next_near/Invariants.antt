use Rattle.std.specs.Bool.{⊤}
use Rattle.cut_pool.proofs.active_cuts.next_near.Given as goal

abbrev pub invariant-loop-k : goal.invariant-loop-k
invariant-loop-k l = ⊤
