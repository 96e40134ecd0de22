use Rattle.std.proofs.Common.{◌≡◌, ◌+ℤ◌}
use Rattle.base_num.specs.Sums.{sum_to}
use Rattle.cut_pool.specs.Active.{lesser_over}
use Rattle.cut_pool.proofs.active_cuts.sum_over.Given as goal

abbrev pub invariant-loop-k : goal.invariant-loop-k
invariant-loop-k l = l.least ≡ l.height +ℤ sum_to l.k (lesser_over l.lows l.highs l.slopes l.others)
