use Rattle.std.proofs.Common.{◌≡◌, drop}
use Rattle.lp_scale.specs.Walks.{walk}
use Rattle.lp_scale.specs.Spans.{span_of, joined_span}
use Rattle.lp_scale.specs.Exponents.{counted_weight}
use Rattle.lp_scale.proofs.exponents.row_span.Given as goal

abbrev pub invariant-loop-k : goal.invariant-loop-k
invariant-loop-k l = span_of (λ j t. counted_weight l.border l.reaches l.exponents t) l.terms ≡ walk (λ j s t. joined_span s (counted_weight l.border l.reaches l.exponents t)) l.k l.span (drop l.k l.terms)
