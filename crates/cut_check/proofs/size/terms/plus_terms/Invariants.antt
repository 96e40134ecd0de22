use Rattle.std.proofs.Common.{◌≡◌, ◌+◌, take}
use Rattle.cut_make.specs.SizeByTerms.{terms_by}
use Rattle.cut_check.proofs.size.terms.plus_terms.Given as goal

abbrev pub invariant-loop-term : goal.invariant-loop-term
invariant-loop-term g l = l.sum.total ≡ l.fn.size.total + terms_by (g.M.Multiples.at l.multiples) (take l.term-index l.terms)
