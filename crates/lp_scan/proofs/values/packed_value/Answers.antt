use Rattle.std.proofs.Common.{◌∙◌, ◌*ℤ◌, rules, SFits, ap₂, arith}
use Rattle.std.proofs.lemmas.Int.{to_z-of_z}
use mir.Syntax.{w64, w128}
use Rattle.base_num.specs.Sums.{entry}
use Rattle.lp_scan.proofs.PackedValues.{dot_more}
use Rattle.lp_scan.proofs.values.packed_value.Goals as goal

pub plus-sum-requires-clause-left : goal.plus-sum-requires-clause-left
plus-sum-requires-clause-left c = omega (arith, c.loop-k.invariant.small, c.loop-k-test.true, c.requires.few)

pub loop-k-preserved : goal.loop-k-preserved
loop-k-preserved c =
    let product = to_z-of_z w128 c.product.result (record { sfits = c.product.type_inv }) in
    let sum = to_z-of_z w128 c.plus-sum.result (record { sfits = c.plus-sum.type_inv }) in
    let slope : SFits w64 (entry c.args.slopes.now c.loop-k.k) = search rules in
    let state : SFits w64 (entry c.args.leaving.now c.loop-k.k) = search rules in
    record {
      value = dot_more c.args.slopes.now c.args.leaving.now c.loop-k.k _ _ _ _ c.loop-k-test.true c.requires.count c.loop-k.invariant.value (product ∙ c.product.ensures.value ∙ ap₂ ◌*ℤ◌ (to_z-of_z w64 (entry c.args.slopes.now c.loop-k.k) slope) (to_z-of_z w64 (entry c.args.leaving.now c.loop-k.k) state)) (sum ∙ c.plus-sum.ensures.value);
      small = rw sum (omega (arith, c.plus-sum.ensures.small, c.loop-k.invariant.small));
    }
