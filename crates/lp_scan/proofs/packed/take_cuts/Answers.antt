use Rattle.std.proofs.Common.{◌∙◌, ◌+◌, ℤ, ap, arith}
use Rattle.std.proofs.lemmas.Int.{to_z-of_z}
use mir.Syntax.{w128}
use Rattle.lp_scan.specs.Values.{greater_valued}
use Rattle.lp_scan.proofs.PackedWalks.{cut_more}
use Rattle.lp_scan.proofs.packed.take_cuts.Goals as goal

pub loop-place-preserved : goal.loop-place-preserved
loop-place-preserved c =
    let value = to_z-of_z w128 c.value_at.result (record { sfits = c.value_at.type_inv }) ∙ c.value_at.ensures in
    cut_more c.args.leaving.now c.args.first c.loop-place.place c.loop-place.best c.greater-best.result _ c.args.cuts.now (omega (arith, c.loop-place-test.true, c.loop-place.auto.place-end, c.len-place-end.ensures.value)) c.loop-place.invariant
    (c.greater-best.ensures ∙ ap (λ (x : ℤ). greater_valued c.loop-place.best (c.args.first + c.loop-place.place, x)) value)
