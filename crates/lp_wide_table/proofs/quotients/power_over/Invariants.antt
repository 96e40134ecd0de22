use Rattle.std.proofs.Common.{◌≡◌, ◌<◌, ◌+◌, ◌*◌, ◌^◌}
use Rattle.lp_wide_table.proofs.quotients.power_over.Given as goal

abbrev pub invariant-loop : goal.invariant-loop
invariant-loop l = (l.quotient * l.divisor + l.tail ≡ 2 ^ (l.digits + l.counter)) × (l.tail < l.divisor)
