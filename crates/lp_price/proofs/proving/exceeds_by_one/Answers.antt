use Rattle.std.proofs.Common.{sym, ◌∙◌}
use Rattle.lp_price.proofs.Scales.{scale_next}
use Rattle.lp_price.proofs.proving.exceeds_by_one.Goals as goal

pub loop-scale-preserved : goal.loop-scale-preserved
loop-scale-preserved c = scale_next c.args.lp.now c.args.multipliers.now _ c.args.scales c.loop-scale.scale c.loop-scale-test.true (sym c.in_ok-exceeds.ensures ∙ c.if-branch.false) c.loop-scale.invariant
