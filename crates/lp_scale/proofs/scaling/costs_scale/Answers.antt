use Rattle.std.proofs.Common.{pos, negsuc, sym, subst}
use Rattle.lp_scale.specs.Spans.{AreBetween}
use Rattle.lp_scale.proofs.Weights.{cost_span_between}
use Rattle.lp_scale.proofs.scaling.costs_scale.Goals as goal

pub room-requires-clause-span : goal.room-requires-clause-span
room-requires-clause-span c =
    subst (AreBetween (negsuc 511) (pos 1128)) (sym c.cost_span.ensures) (cost_span_between c.args.exponents.now c.args.decisions.now c.requires)
