use Rattle.std.proofs.Common.{◌≡◌, ◌+◌, ◌*◌, ℕ, ◌+ℤ◌, ◌*ℤ◌, nat_abs, SFits, to_z, of_z, rules, ap, ap₂, ◌∙◌}
use mir.Syntax.{w128}
use Rattle.std.proofs.lemmas.Int.{to_z-of_z}
use Rattle.plan_answer.proofs.InRange.{product_fits, sum_fits, sum_at_most}
use Rattle.plan_answer.proofs.sized_sum.SizedSum.plus_multiple.Goals as goal

pub add_product-requires-clause-product : goal.add_product-requires-clause-product
add_product-requires-clause-product c =
    let fv : SFits w128 c.in_ok-inner.inner.value = search rules in
    let ef : to_z w128 (of_z w128 c.args.factor) ≡ c.args.factor = to_z-of_z w128 c.args.factor c.ranges.factor in
    let ev = to_z-of_z w128 c.in_ok-inner.inner.value fv in
    let size = c.in_ok-size.ensures ∙ ap₂ (λ (k m : ℕ). c.args.self.size.total + k * m) (c.unsigned_abs.ensures.value ∙ ap nat_abs ef) c.total.ensures in
    rw (ef, ev) (product_fits c.args.self.value c.args.factor c.in_ok-inner.inner.value c.args.self.size.total c.in_ok-inner.inner.size.total c.in_ok-size.size.total c.args.self.bounded c.in_ok-inner.inner.bounded size c.in_ok-size.size.in_range)

pub add_product-requires-clause-whole : goal.add_product-requires-clause-whole
add_product-requires-clause-whole c =
    let fa : SFits w128 c.args.self.value = search rules in
    let fv : SFits w128 c.in_ok-inner.inner.value = search rules in
    let ea = to_z-of_z w128 c.args.self.value fa in
    let ef : to_z w128 (of_z w128 c.args.factor) ≡ c.args.factor = to_z-of_z w128 c.args.factor c.ranges.factor in
    let ev = to_z-of_z w128 c.in_ok-inner.inner.value fv in
    let size = c.in_ok-size.ensures ∙ ap₂ (λ (k m : ℕ). c.args.self.size.total + k * m) (c.unsigned_abs.ensures.value ∙ ap nat_abs ef) c.total.ensures in
    rw (ea, ef, ev) (sum_fits c.args.self.value c.args.factor c.in_ok-inner.inner.value c.args.self.size.total c.in_ok-inner.inner.size.total c.in_ok-size.size.total c.args.self.bounded c.in_ok-inner.inner.bounded size c.in_ok-size.size.in_range)

pub invariant_of-result : goal.invariant_of-result
invariant_of-result c =
    let fa : SFits w128 c.args.self.value = search rules in
    let fv : SFits w128 c.in_ok-inner.inner.value = search rules in
    let ea = to_z-of_z w128 c.args.self.value fa in
    let ef : to_z w128 (of_z w128 c.args.factor) ≡ c.args.factor = to_z-of_z w128 c.args.factor c.ranges.factor in
    let ev = to_z-of_z w128 c.in_ok-inner.inner.value fv in
    let size = c.in_ok-size.ensures ∙ ap₂ (λ (k m : ℕ). c.args.self.size.total + k * m) (c.unsigned_abs.ensures.value ∙ ap nat_abs ef) c.total.ensures in
    let e : to_z w128 (of_z w128 c.add_product.result) ≡ c.args.self.value +ℤ c.args.factor *ℤ c.in_ok-inner.inner.value =
    to_z-of_z w128 c.add_product.result (record { sfits = c.add_product.type_inv }) ∙ c.add_product.ensures ∙ ap₂ ◌+ℤ◌ ea (ap₂ ◌*ℤ◌ ef ev) in
    record { bounded = rw e (sum_at_most c.args.self.value c.args.factor c.in_ok-inner.inner.value c.args.self.size.total c.in_ok-inner.inner.size.total c.in_ok-size.size.total c.args.self.bounded c.in_ok-inner.inner.bounded size) }
