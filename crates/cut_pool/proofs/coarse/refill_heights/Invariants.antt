use Rattle.std.proofs.Common.{take}
use Rattle.lp_program.specs.Coarse.{AreHeights}
use Rattle.cut_pool.proofs.coarse.refill_heights.Given as goal

abbrev pub invariant-loop-k : goal.invariant-loop-k
invariant-loop-k l = AreHeights l.shift l.fn.base (take l.kept l.cuts) (take l.kept l.initial.heights.items) → AreHeights l.shift l.fn.base (take l.k l.cuts) l.heights.items
