use Rattle.std.proofs.Common.{ℤ, pos, ◌+ℤ◌, get_or, SFits, to_z, w64, rules, ◌∙◌, ap, sym}
use mir.Syntax.{w128}
use Rattle.std.proofs.lemmas.Int.{to_z-of_z}
use lib.IntN.{+ℤ_idr}
use Rattle.cut_pool.proofs.Products.{step, dot_end}
use Rattle.cut_pool.proofs.cut_value.slopes_at.Goals as goal

pub add_product-sum-requires : goal.add_product-sum-requires
add_product-sum-requires c =
    let fx : SFits w128 (get_or c.args.xs.now c.loop-i.i (pos 0)) = search rules in
    let fy : SFits w64 (get_or c.args.ys.now c.loop-i.i (pos 0)) = search rules in
    let more = step c.args.xs.now c.args.ys.now c.loop-i.i (to_z w128 c.loop-i.sum-bits) c.from.result fx fy (record { sfits = c.from.type_inv }) c.from.ensures c.requires.lengths c.loop-i-test.true c.loop-i.invariant.value c.loop-i.invariant.room c.requires.small in
    record { product = more.fits; whole = more.whole }

pub loop-i-preserved : goal.loop-i-preserved
loop-i-preserved c =
    let fx : SFits w128 (get_or c.args.xs.now c.loop-i.i (pos 0)) = search rules in
    let fy : SFits w64 (get_or c.args.ys.now c.loop-i.i (pos 0)) = search rules in
    let more = step c.args.xs.now c.args.ys.now c.loop-i.i (to_z w128 c.loop-i.sum-bits) c.from.result fx fy (record { sfits = c.from.type_inv }) c.from.ensures c.requires.lengths c.loop-i-test.true c.loop-i.invariant.value c.loop-i.invariant.room c.requires.small in
    let sum = to_z-of_z w128 c.add_product-sum.result (record { sfits = c.add_product-sum.type_inv }) ∙ c.add_product-sum.ensures in
    rw sum (record { value = more.value; room = more.room })

pub returns : goal.returns
returns c = sym (c.loop-i.invariant.value ∙ ap (λ (k : ℤ). to_z w128 c.loop-i.sum-bits +ℤ k) (dot_end c.args.xs.now c.args.ys.now c.loop-i.i c.loop-i-test.false) ∙ +ℤ_idr (to_z w128 c.loop-i.sum-bits))
