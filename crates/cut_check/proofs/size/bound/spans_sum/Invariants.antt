use Rattle.std.proofs.Common.{◌≡◌, ◌+◌, take}
use Rattle.std.specs.List.{sum_by}
use Rattle.cut_make.specs.SizeByTerms.{over_decisions}
use Rattle.cut_check.proofs.size.bound.spans_sum.Given as goal

abbrev pub invariant-loop-out : goal.invariant-loop-out
invariant-loop-out l = l.sum.total ≡ 0 + sum_by (over_decisions l.decisions) (take l.out-index l.outs)
