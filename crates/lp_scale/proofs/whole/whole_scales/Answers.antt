use Rattle.std.proofs.Common.{pos, negsuc, SFits}
use mir.Syntax.{w32}
use Rattle.lp_scale.proofs.Shapes.{whole_small}
use Rattle.lp_scale.proofs.Weights.{read_least, read_greatest}
use Rattle.lp_scale.proofs.whole.whole_scales.Goals as goal

pub returns-clause-small : goal.returns-clause-small
returns-clause-small c =
    let g : SFits w32 c.costs_scale-costs.result = record { sfits = c.costs_scale-costs.type_inv } in
    let h : SFits w32 c.own_values-values.result = record { sfits = c.own_values-values.type_inv } in
    whole_small 1000 c.new.result c.write_all.new.exponents _ _ c.new.ensures c.in_ok-write_all.ensures.range (read_least (negsuc 1299) _ g c.costs_scale-costs.ensures.least) (read_greatest (pos 1300) _ g c.costs_scale-costs.ensures.greatest) (read_least (negsuc 1299) _ h c.own_values-values.ensures.least) (read_greatest (pos 0) _ h c.own_values-values.ensures.greatest)
