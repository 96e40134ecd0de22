use Rattle.std.proofs.Common.{◌-◌, ◌≤◌, length}
use Rattle.cut_pool.proofs.active_cuts.standing_of.Given as goal

abbrev pub invariant-loop-k : goal.invariant-loop-k
invariant-loop-k l = l.k ≤ length l.places

abbrev pub decreases-loop-k : goal.decreases-loop-k
decreases-loop-k l = length l.places - l.k
