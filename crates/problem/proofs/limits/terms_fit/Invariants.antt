use Rattle.std.proofs.Common.{◌≡◌, drop}
use Rattle.problem.specs.Limits.{terms_fit}
use Rattle.problem.proofs.limits.terms_fit.Given as goal

abbrev pub invariant-loop-term : goal.invariant-loop-term
invariant-loop-term l = terms_fit l.count l.least (drop l.term-index l.terms) ≡ terms_fit l.count 0 l.terms
