use Rattle.std.proofs.Common.{◌≡◌, ◌+◌, ◌*◌, ◌∙◌, ap, ap₂, nat_abs, sum, arith}
use Rattle.std.proofs.lemmas.Int.{to_z-of_z}
use mir.Syntax.{w128}
use Rattle.theory.specs.Problem.{S}
use Rattle.cut_make.specs.SizeByTerms.{total_successor_weight}
use Rattle.cut_check.specs.Bounds.{costs_bound}
use Rattle.cut_check.proofs.Bounding.{some_above, all_costs_within}
use Rattle.cut_check.proofs.size.bound.costs_bound.Goals as goal

pub returns : goal.returns
returns c =
    let h = c.args.here.now in
    let s = h.subproblem.now in
    let v = c.args.values.now.bound in
    let factor : c.unsigned_abs-factor.result ≡ S * total_successor_weight h.node.now * sum h.weights.now =
    c.unsigned_abs-factor.ensures.value ∙ ap nat_abs (to_z-of_z w128 c.divisor.result (record { sfits = c.divisor.type_inv }) ∙ c.divisor.ensures) in
    let most : c.total.result ≡ costs_bound v s h.low.now h.high.now = c.total.ensures ∙ c.in_ok-most.ensures in
    let product = ap₂ ◌*◌ factor most in
    let all = all_costs_within v (S * total_successor_weight h.node.now) s h.low.now h.high.now h.weights.now h.node.now.values c.requires.values in
    some_above c.plus_product.result (c.zero.result.total + c.unsigned_abs-factor.result * c.total.result) _ c.plus_product.ensures (omega (arith, c.zero.ensures, product, all))
