use Rattle.std.proofs.Common.{◌≡◌, ◌+◌, take}
use Rattle.std.specs.List.{sum_by}
use Rattle.cut_make.specs.SizeByTerms.{pair_amount}
use Rattle.cut_check.proofs.size.cuts.plus_pairs.Given as goal

abbrev pub invariant-loop-pair : goal.invariant-loop-pair
invariant-loop-pair l = l.sum.total ≡ l.fn.size.total + sum_by (pair_amount l.decisions l.outs l.cuts) (take l.pair-index l.pairs)
