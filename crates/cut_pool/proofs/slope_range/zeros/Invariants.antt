use Rattle.std.proofs.Common.{◌≡◌, pos, replicate}
use Rattle.cut_pool.proofs.slope_range.zeros.Given as goal

abbrev pub invariant-loop : goal.invariant-loop
invariant-loop l = l.found.items ≡ replicate l.counter (pos 0)
