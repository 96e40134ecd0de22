use Rattle.std.proofs.Common.{◌≡◌, ◌+◌, ◌*◌, nat_abs}
use Rattle.base_num.specs.Sums.{entry}
use Rattle.cut_make.specs.SizeByTerms.{count_by}
use Rattle.cut_check.proofs.size.terms.plus_numbers.Given as goal

abbrev pub invariant-loop-k : goal.invariant-loop-k
invariant-loop-k g l = l.sum.total ≡ l.fn.size.total + count_by l.k (λ k. nat_abs (entry l.numbers k) * g.M.Multiples.at l.multiples k)
