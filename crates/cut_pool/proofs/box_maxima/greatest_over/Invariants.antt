use Rattle.std.proofs.Common.{◌≡◌, ◌+ℤ◌}
use Rattle.base_num.specs.Sums.{sum_to}
use Rattle.cut_pool.specs.BoxMaxima.{product_over}
use Rattle.cut_pool.proofs.box_maxima.greatest_over.Given as goal

abbrev pub invariant-loop-state : goal.invariant-loop-state
invariant-loop-state l = l.value ≡ l.cut.alpha +ℤ sum_to l.state (product_over l.boxes l.cut)
