use Rattle.std.proofs.Common.{ℕ, ◌<◌}
use Rattle.base_num.specs.Sums.{entry}
use Rattle.test_measure.specs.StageMoments.{IsStateBetween}
use Rattle.test_measure.proofs.stage_moments.is_inside.Given as goal

abbrev pub invariant-loop-k : goal.invariant-loop-k
invariant-loop-k l = (i : ℕ) → i < l.k → IsStateBetween (entry l.low i) (entry l.high i) (entry l.state i)
