use Rattle.std.proofs.Common.{◌≡◌, ◌+◌, take, zip}
use Rattle.std.specs.List.{sum_by}
use Rattle.cut_make.specs.Parts.{repeated}
use Rattle.cut_make.specs.SizeByTerms.{weighted_amount}
use Rattle.cut_check.proofs.size.repeated.realizations_size_by.Given as goal

abbrev pub invariant-loop-r : goal.invariant-loop-r
invariant-loop-r l = l.size.total ≡ 0 + sum_by (weighted_amount l.here.node.now l.here.subproblem.now l.here.low.now l.here.high.now l.here.pools.now.lists) (take l.r (zip l.here.weights.now (zip l.here.node.now.values (repeated l.certificate l.here.weights.now))))
