use Rattle.std.proofs.Common.{◌≡◌, ◌+◌, ◌*◌, take, nat_abs}
use Rattle.std.specs.List.{sum_by}
use Rattle.cut_check.proofs.size.tally.plus_multipliers.Given as goal

abbrev pub invariant-loop-multiplier : goal.invariant-loop-multiplier
invariant-loop-multiplier l = l.sum ≡ l.fn.before + l.weight * sum_by nat_abs (take l.multiplier-index l.multipliers)
