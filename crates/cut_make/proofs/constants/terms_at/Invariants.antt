use Rattle.std.proofs.Common.{take}
use Rattle.base_num.specs.Sums.{entry, at_terms}
use Rattle.cut_make.specs.Congruent.{Congruent}
use Rattle.cut_make.proofs.constants.terms_at.Given as goal

abbrev pub invariant-loop-variable : goal.invariant-loop-variable
invariant-loop-variable l = Congruent l.sum (at_terms (take l.variable-index l.terms) (entry l.values))
