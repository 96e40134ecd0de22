use Rattle.std.proofs.Common.{◌≡◌, ℕ, ◌<◌, pos}
use Rattle.base_num.specs.Sums.{entry}
use Rattle.cut_pool.proofs.slope_range.is_level.Given as goal

abbrev pub invariant-loop-j : goal.invariant-loop-j
invariant-loop-j l = (i : ℕ) → i < l.j → entry l.slopes i ≡ pos 0
