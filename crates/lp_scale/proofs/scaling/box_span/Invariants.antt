use Rattle.std.proofs.Common.{◌≡◌, drop}
use Rattle.lp_scale.specs.Walks.{walk}
use Rattle.lp_scale.specs.Spans.{span_of, joined_span}
use Rattle.lp_scale.specs.Scaling.{box_weight}
use Rattle.lp_scale.proofs.scaling.box_span.Given as goal

abbrev pub invariant-loop-j : goal.invariant-loop-j
invariant-loop-j l = span_of (box_weight l.exponents) l.decisions ≡ walk (λ j s c. joined_span s (box_weight l.exponents j c)) l.j l.span (drop l.j l.decisions)
