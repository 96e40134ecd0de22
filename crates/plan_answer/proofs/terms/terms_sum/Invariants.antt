use Rattle.std.proofs.Common.{◌≡◌, ◌+◌, nat_abs, take}
use Rattle.base_num.specs.Sums.{at_terms}
use Rattle.cut_make.specs.SizeByTerms.{terms_by}
use Rattle.plan_answer.proofs.terms.terms_sum.Given as goal

abbrev pub invariant-loop-term : goal.invariant-loop-term
invariant-loop-term g l = record {
  value : l.sum.value ≡ at_terms (take l.term-index l.terms) (g.N.TermNumbers.at l.numbers);
  size : l.sum.size.total ≡ 0 + terms_by (λ i. nat_abs (g.N.TermNumbers.at l.numbers i)) (take l.term-index l.terms);
}
