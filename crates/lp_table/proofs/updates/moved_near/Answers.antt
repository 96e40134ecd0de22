use Rattle.std.proofs.Common.{◌^◌, ◌<◌, ℤ, nat_abs, subst}
use Rattle.lp_table.proofs.Near.{near_read}
use Rattle.lp_table.proofs.updates.moved_near.Goals as goal

pub returns : goal.returns
returns c = λ q e.
    let range : nat_abs c.args.t < 2 ^ 60 = subst (λ (z : ℤ). nat_abs z < 2 ^ 60) c.number-number.ensures.value c.number-number.ensures.small in
    near_read c.near_cell.result q c.eightfold.result c.args.n c.args.t c.args.scaled c.high_product.result range c.ranges.scaled (record { sfits = c.eightfold.type_inv }) (record { sfits = c.high_product.type_inv }) c.eightfold.ensures e c.high_product.ensures.value c.near_cell.ensures
