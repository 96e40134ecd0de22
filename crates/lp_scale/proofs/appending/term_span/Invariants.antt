use Rattle.std.proofs.Common.{◌≡◌, drop, Some}
use Rattle.lp_scale.specs.Walks.{walk}
use Rattle.lp_scale.specs.Spans.{span_of, joined_span}
use Rattle.lp_scale.specs.Exponents.{weight_of}
use Rattle.lp_scale.proofs.appending.term_span.Given as goal

abbrev pub invariant-loop-k : goal.invariant-loop-k
invariant-loop-k l = span_of (λ k t. Some (weight_of l.exponents t)) l.terms ≡ walk (λ j s t. joined_span s (Some (weight_of l.exponents t))) l.k l.span (drop l.k l.terms)
