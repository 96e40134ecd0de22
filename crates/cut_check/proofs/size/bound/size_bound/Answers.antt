use Rattle.std.proofs.Common.{◌≡◌, ◌≤◌, ◌*◌, ◌+◌, ap₂, arith, mul-le-mul_left}
use Rattle.theory.specs.Problem.{S}
use Rattle.cut_make.specs.SizeByTerms.{total_successor_weight}
use Rattle.cut_check.specs.Bounds.{weighted_rows, weighted_costs}
use Rattle.cut_check.proofs.Bounding.{some_above, parts_within}
use Rattle.cut_check.proofs.size.bound.size_bound.Goals as goal

pub returns : goal.returns
returns c =
    let h = c.args.here.now in
    let s = h.subproblem.now in
    let parts = parts_within h.node.now s h.low.now h.high.now h.pools.now.lists h.weights.now h.node.now.values c.args.list.now in
    let stages : S * (weighted_rows s h.low.now h.high.now h.weights.now h.node.now.values c.args.list.now + S * total_successor_weight h.node.now * weighted_costs s h.low.now h.high.now h.weights.now h.node.now.values) ≤ S * c.in_ok-stages.stages.total = mul-le-mul_left S c.in_ok-stages.ensures in
    let pairs = c.in_ok-pairs.ensures in
    let product : c.scale.result * c.total.result ≡ S * c.in_ok-stages.stages.total = ap₂ ◌*◌ c.scale.ensures.value c.total.ensures in
    some_above c.plus_product.result (c.in_ok-pairs.pairs.total + c.scale.result * c.total.result) _ c.plus_product.ensures (omega (arith, product, parts, stages, pairs))
