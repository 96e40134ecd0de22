use Rattle.std.proofs.Common.{◌≡◌, ◌+◌, take, zip}
use Rattle.std.specs.List.{sum_by}
use Rattle.cut_make.specs.SizeByTerms.{successor_amount}
use Rattle.cut_check.proofs.size.cuts.successors_size.Given as goal

abbrev pub invariant-loop-i : goal.invariant-loop-i
invariant-loop-i l = l.sum.total ≡ 0 + sum_by (successor_amount l.decisions l.outs l.pools.lists) (take l.i (zip l.successors l.pairs))
