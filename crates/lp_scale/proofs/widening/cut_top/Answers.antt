use Rattle.std.proofs.Common.{ℤ, pos, ◌≤ℤ◌, Option, IfSome, ap, sym, subst, ◌∙◌}
use Rattle.lp_scale.specs.Widening.{top}
use Rattle.lp_scale.proofs.Weights.{top_between, term_span_between}
use Rattle.lp_scale.proofs.widening.cut_top.Goals as goal

pub returns-clause-range : goal.returns-clause-range
returns-clause-range c =
    subst (λ (o : Option ℤ). IfSome o (λ x. (pos 0 ≤ℤ x) × (x ≤ℤ pos 640))) (sym (c.top.ensures ∙ ap top c.term_span.ensures))
    (top_between (pos 0) (pos 640) _ (term_span_between 512 c.args.exponents.now c.slopes.result.now c.requires))
