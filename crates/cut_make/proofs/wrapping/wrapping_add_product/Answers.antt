use Rattle.std.proofs.Common.{◌+ℤ◌, ◌*ℤ◌, ◌<◌, ◌^◌, ◌%◌, ◌*◌, ℕ, of_z, ap, ap₂, ◌∙◌, arith}
use mir.Syntax.{w128}
use Rattle.std.specs.Int.{int_wrap}
use Rattle.std.proofs.lemmas.Int.{to_z-of_z, wrapping_add-bits, wrapping_mul_is, int_wrap-add_right, int_wrap_fits, SFits-int_wrap}
use Rattle.std.proofs.Math.Facts.{Fits-of_z}
use Rattle.cut_make.proofs.wrapping.wrapping_add_product.Goals as goal

pub returns : goal.returns
returns c =
    let n : ℕ = of_z w128 c.args.x * of_z w128 c.args.y % 2 ^ 128 in
    let p : of_z w128 c.args.sum < 2 ^ 128 = (Fits-of_z c.ranges.sum).fits in
    let q : n < 2 ^ 128 = omega arith in
    ap (int_wrap w128)
    (wrapping_add-bits w128 (of_z w128 c.args.sum) n p q
    ∙ ap₂ (λ a b. int_wrap w128 (a +ℤ b)) (to_z-of_z w128 c.args.sum c.ranges.sum) (wrapping_mul_is w128 c.args.x c.args.y c.ranges.x c.ranges.y)
    ∙ int_wrap-add_right w128 c.args.sum (c.args.x *ℤ c.args.y))
    ∙ int_wrap_fits w128 _ (SFits-int_wrap w128 (c.args.sum +ℤ c.args.x *ℤ c.args.y))
