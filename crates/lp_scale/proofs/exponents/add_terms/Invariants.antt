use Rattle.std.proofs.Common.{◌≡◌, pos, negsuc, drop, length}
use Rattle.lp_scale.specs.Walks.{walk}
use Rattle.lp_scale.specs.Exponents.{with_term, with_terms, SpansBetween}
use Rattle.lp_scale.proofs.exponents.add_terms.Given as goal

abbrev pub invariant-loop-k : goal.invariant-loop-k
invariant-loop-k l = record {
  count : length l.spans ≡ length l.fn.spans;
  between : SpansBetween (negsuc 478) (pos 161) l.spans;
  value : with_terms l.decisions l.border l.reaches l.exponent l.fn.spans l.terms ≡ walk (λ j ss t. with_term l.decisions l.border l.reaches l.exponent ss t) l.k l.spans (drop l.k l.terms);
}
