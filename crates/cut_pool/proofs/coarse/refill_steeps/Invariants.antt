use Rattle.std.proofs.Common.{take}
use Rattle.lp_program.specs.Coarse.{AreSteeps}
use Rattle.cut_pool.proofs.coarse.refill_steeps.Given as goal

abbrev pub invariant-loop-k : goal.invariant-loop-k
invariant-loop-k l = AreSteeps l.shift (take l.kept l.cuts) l.state (take l.kept l.initial.steeps.items) → AreSteeps l.shift (take l.k l.cuts) l.state l.steeps.items
