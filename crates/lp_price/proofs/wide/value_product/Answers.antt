use Rattle.std.proofs.Common.{ℤ, ◌^◌, ◌≤◌, nat_abs, subst, sym}
use Rattle.std.proofs.lemmas.Int.{to_z-of_z}
use mir.Syntax.{w64, w128}
use Rattle.lp_price.proofs.Small.{product_within}
use Rattle.lp_price.proofs.wide.value_product.Goals as goal

pub returns-clause-small : goal.returns-clause-small
returns-clause-small c =
    let e = rw (to_z-of_z w64 c.args.x c.ranges.x, to_z-of_z w64 c.args.y c.ranges.y) at c.product.ensures.value in
    rw (to_z-of_z w128 c.product.result (record { sfits = c.product.type_inv })) (subst (λ (z : ℤ). nat_abs z ≤ 2 ^ 115) (sym e) (product_within c.args.x c.args.y (2 ^ 60) (2 ^ 55) c.requires.x c.requires.y))
