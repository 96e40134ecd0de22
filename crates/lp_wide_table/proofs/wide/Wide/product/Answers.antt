use Rattle.std.proofs.Common.{ℕ, ◌+◌, ◌*◌, SFits, ℤ, pos, ◌+ℤ◌, ◌*ℤ◌, ◌^◌, ap, refl, ◌∙◌}
use Rattle.std.proofs.lemmas.Int.{to_z-of_z}
use mir.Syntax.{w64, w128}
use Rattle.lp_wide_table.proofs.ByHalves.{product_is, halved, crossed, topped}
use Rattle.lp_wide_table.proofs.wide.Wide.product.Goals as goal

pub returns : goal.returns
returns c =
    let a = c.args.a in
    let b = c.args.b in
    let x = c.upper-above.result in
    let z = c.upper-other_above.result in
    let y = c.lower-below.result in
    let w = c.lower-other_below.result in
    let first = c.cross_product-first.result in
    let second = c.cross_product-second.result in
    let top = c.high_product-top.result in
    let f = c.upper.result in
    let s = c.upper-2.result in
    let high = c.high_total.result in
    let fx : SFits w64 x = record { sfits = c.upper-above.type_inv } in
    let fz : SFits w64 z = record { sfits = c.upper-other_above.type_inv } in
    let ff : SFits w64 f = record { sfits = c.upper.type_inv } in
    let fs : SFits w64 s = record { sfits = c.upper-2.type_inv } in
    let first_fits : SFits w128 first = record { sfits = c.cross_product-first.type_inv } in
    let second_fits : SFits w128 second = record { sfits = c.cross_product-second.type_inv } in
    let top_fits : SFits w128 top = record { sfits = c.high_product-top.type_inv } in
    let high_fits : SFits w128 high = record { sfits = c.high_total.type_inv } in
    let t = c.low_product-bottom.result in
    ap (λ (k : ℤ). pos (2 ^ 128) *ℤ k +ℤ pos c.join.result) (to_z-of_z w128 high high_fits)
    ∙ product_is a b x z first second f s high y w t c.lower.result c.lower-2.result c.join.result
    (halved a x y c.ranges.a c.upper-above.ensures c.lower-below.ensures)
    (halved b z w c.ranges.b c.upper-other_above.ensures c.lower-other_below.ensures)
    c.low_product-bottom.ensures
    (crossed first x w c.high_bits.result _ fx c.cross_product-first.ensures c.high_bits.ensures)
    (crossed second z y c.lower.result _ fz c.cross_product-second.ensures refl)
    (halved first f c.lower.result first_fits c.upper.ensures c.lower.ensures)
    (halved second s c.lower-2.result second_fits c.upper-2.ensures c.lower-2.ensures)
    (topped high top x z f s top_fits fx fz ff fs c.high_product-top.ensures.value c.high_total.ensures)
    (c.join.ensures ∙ ap (λ (n : ℕ). c.lower-2.result * 2 ^ 64 + n) c.low_bits.ensures)
