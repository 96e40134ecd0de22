use Rattle.std.proofs.Common.{◌≡◌, take}
use Rattle.cut_pool.proofs.box_maxima.are_same.Given as goal

abbrev pub invariant-loop-state : goal.invariant-loop-state
invariant-loop-state l = take l.state l.a ≡ take l.state l.b
