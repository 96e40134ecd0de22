use Rattle.std.proofs.Common.{◌≡◌, length}
use Rattle.cut_check.proofs.base_pools.no_slopes.Given as goal

abbrev pub invariant-loop : goal.invariant-loop
invariant-loop l = length l.beta ≡ l.counter
