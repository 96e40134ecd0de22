use Rattle.std.proofs.Common.{arith}
use Rattle.std.proofs.lemmas.Int.{to_z-of_z}
use mir.Syntax.{w64, w128}
use Rattle.lp_price.proofs.Tops.{there_by}
use Rattle.lp_price.proofs.ray.unscaled.Goals as goal

pub returns-clause-there : goal.returns-clause-there
returns-clause-there c =
    let x = rw (to_z-of_z w64 c.factor_at.result (record { sfits = c.factor_at.type_inv })) at c.from-factor.ensures in
    let k = rw (to_z-of_z w64 c.args.top c.ranges.top) at c.ray_exponent.ensures in
    let r = rw (to_z-of_z w128 c.from-factor.result (record { sfits = c.from-factor.type_inv }), to_z-of_z w64 c.ray_exponent.result (record { sfits = c.ray_exponent.type_inv }), x) at c.shift_by.ensures in
    there_by c.args.stuck.now.table.now c.args.stuck.now.line.now c.args.stuck.now.variable c.args.stuck.now.above c.args.own c.args.row c.shift_by.result c.factor_at.result c.ray_exponent.result c.args.top c.requires.row (omega (arith, c.requires.own, c.requires.sized.row_scales)) c.factor_at.ensures.small c.factor_at.ensures.value k c.requires.top r
