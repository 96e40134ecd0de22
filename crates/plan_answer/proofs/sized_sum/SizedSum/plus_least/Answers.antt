use Rattle.std.proofs.Common.{◌≡◌, ◌+◌, ◌*◌, ℕ, ℤ, pos, neg_ℤ, ◌+ℤ◌, ◌*ℤ◌, Option, SFits, to_z, of_z, w64, rules, arith, ap, ap₂, subst, ◌∙◌}
use mir.Syntax.{w128}
use Rattle.std.specs.Int.{int_min}
use Rattle.std.proofs.lemmas.Int.{to_z-of_z}
use Rattle.base_num.proofs.Ring.{one_mul}
use Rattle.cut_make.specs.SizeByTerms.{span}
use Rattle.plan_answer.specs.declared.sized_sum.SizedSum.{SizedSum}
use Rattle.plan_answer.specs.SizedSums.{Sums}
use Rattle.plan_answer.proofs.InRange.{low_fits, high_fits, least_fits, least_at_most}
use Rattle.plan_answer.proofs.sized_sum.SizedSum.plus_least.Goals as goal

pub negative-requires : goal.negative-requires
negative-requires c =
    let fv : SFits w128 c.in_ok-inner.inner.value = search rules in
    rw (to_z-of_z w128 c.in_ok-inner.inner.value fv) (omega (arith, c.in_ok-inner.inner.bounded, c.in_ok-inner.inner.size.in_range))

pub least-requires-clause-low : goal.least-requires-clause-low
least-requires-clause-low c =
    let v : ℤ = c.in_ok-inner.inner.value in
    let fv : SFits w128 v = search rules in
    let el : to_z w64 (of_z w64 c.args.low) ≡ c.args.low = to_z-of_z w64 c.args.low c.ranges.low in
    let eh : to_z w64 (of_z w64 c.args.high) ≡ c.args.high = to_z-of_z w64 c.args.high c.ranges.high in
    let r : to_z w128 (of_z w128 c.negative.result) ≡ neg_ℤ v = to_z-of_z w128 c.negative.result (record { sfits = c.negative.type_inv }) ∙ c.negative.ensures ∙ ap neg_ℤ (to_z-of_z w128 v fv) in
    let size = c.in_ok-size.ensures ∙ ap₂ (λ (k m : ℕ). c.args.self.size.total + k * m) (c.reach.ensures ∙ ap₂ span el eh) c.total.ensures in
    rw (r, el) (low_fits c.args.self.value v c.args.low c.args.high c.args.self.size.total c.in_ok-inner.inner.size.total c.in_ok-size.size.total c.args.self.bounded c.in_ok-inner.inner.bounded size c.in_ok-size.size.in_range)

pub least-requires-clause-high : goal.least-requires-clause-high
least-requires-clause-high c =
    let v : ℤ = c.in_ok-inner.inner.value in
    let fv : SFits w128 v = search rules in
    let el : to_z w64 (of_z w64 c.args.low) ≡ c.args.low = to_z-of_z w64 c.args.low c.ranges.low in
    let eh : to_z w64 (of_z w64 c.args.high) ≡ c.args.high = to_z-of_z w64 c.args.high c.ranges.high in
    let r : to_z w128 (of_z w128 c.negative.result) ≡ neg_ℤ v = to_z-of_z w128 c.negative.result (record { sfits = c.negative.type_inv }) ∙ c.negative.ensures ∙ ap neg_ℤ (to_z-of_z w128 v fv) in
    let size = c.in_ok-size.ensures ∙ ap₂ (λ (k m : ℕ). c.args.self.size.total + k * m) (c.reach.ensures ∙ ap₂ span el eh) c.total.ensures in
    rw (r, eh) (high_fits c.args.self.value v c.args.low c.args.high c.args.self.size.total c.in_ok-inner.inner.size.total c.in_ok-size.size.total c.args.self.bounded c.in_ok-inner.inner.bounded size c.in_ok-size.size.in_range)

pub add_product-requires-clause-whole : goal.add_product-requires-clause-whole
add_product-requires-clause-whole c =
    let v : ℤ = c.in_ok-inner.inner.value in
    let fv : SFits w128 v = search rules in
    let fa : SFits w128 c.args.self.value = search rules in
    let ea = to_z-of_z w128 c.args.self.value fa in
    let el : to_z w64 (of_z w64 c.args.low) ≡ c.args.low = to_z-of_z w64 c.args.low c.ranges.low in
    let eh : to_z w64 (of_z w64 c.args.high) ≡ c.args.high = to_z-of_z w64 c.args.high c.ranges.high in
    let r : to_z w128 (of_z w128 c.negative.result) ≡ neg_ℤ v = to_z-of_z w128 c.negative.result (record { sfits = c.negative.type_inv }) ∙ c.negative.ensures ∙ ap neg_ℤ (to_z-of_z w128 v fv) in
    let size = c.in_ok-size.ensures ∙ ap₂ (λ (k m : ℕ). c.args.self.size.total + k * m) (c.reach.ensures ∙ ap₂ span el eh) c.total.ensures in
    let m : to_z w128 (of_z w128 c.least.result) ≡ int_min (neg_ℤ v *ℤ c.args.low) (neg_ℤ v *ℤ c.args.high) =
    to_z-of_z w128 c.least.result (record { sfits = c.least.type_inv }) ∙ c.least.ensures ∙ ap₂ int_min (ap₂ ◌*ℤ◌ r el) (ap₂ ◌*ℤ◌ r eh) in
    rw (ea, m) (least_fits c.args.self.value v c.args.low c.args.high c.args.self.size.total c.in_ok-inner.inner.size.total c.in_ok-size.size.total c.args.self.bounded c.in_ok-inner.inner.bounded size c.in_ok-size.size.in_range)

pub invariant_of-result : goal.invariant_of-result
invariant_of-result c =
    let v : ℤ = c.in_ok-inner.inner.value in
    let fv : SFits w128 v = search rules in
    let fa : SFits w128 c.args.self.value = search rules in
    let ea = to_z-of_z w128 c.args.self.value fa in
    let el : to_z w64 (of_z w64 c.args.low) ≡ c.args.low = to_z-of_z w64 c.args.low c.ranges.low in
    let eh : to_z w64 (of_z w64 c.args.high) ≡ c.args.high = to_z-of_z w64 c.args.high c.ranges.high in
    let r : to_z w128 (of_z w128 c.negative.result) ≡ neg_ℤ v = to_z-of_z w128 c.negative.result (record { sfits = c.negative.type_inv }) ∙ c.negative.ensures ∙ ap neg_ℤ (to_z-of_z w128 v fv) in
    let size = c.in_ok-size.ensures ∙ ap₂ (λ (k m : ℕ). c.args.self.size.total + k * m) (c.reach.ensures ∙ ap₂ span el eh) c.total.ensures in
    let m : to_z w128 (of_z w128 c.least.result) ≡ int_min (neg_ℤ v *ℤ c.args.low) (neg_ℤ v *ℤ c.args.high) =
    to_z-of_z w128 c.least.result (record { sfits = c.least.type_inv }) ∙ c.least.ensures ∙ ap₂ int_min (ap₂ ◌*ℤ◌ r el) (ap₂ ◌*ℤ◌ r eh) in
    let e : to_z w128 (of_z w128 c.add_product.result) ≡ c.args.self.value +ℤ pos 1 *ℤ int_min (neg_ℤ v *ℤ c.args.low) (neg_ℤ v *ℤ c.args.high) =
    to_z-of_z w128 c.add_product.result (record { sfits = c.add_product.type_inv }) ∙ c.add_product.ensures ∙ ap₂ (λ (x y : ℤ). x +ℤ pos 1 *ℤ y) ea m in
    record { bounded = rw e (least_at_most c.args.self.value v c.args.low c.args.high c.args.self.size.total c.in_ok-inner.inner.size.total c.in_ok-size.size.total c.args.self.bounded c.in_ok-inner.inner.bounded size) }

pub returns : goal.returns
returns c = λ value total h.
    let v : ℤ = c.in_ok-inner.inner.value in
    let fv : SFits w128 v = search rules in
    let fa : SFits w128 c.args.self.value = search rules in
    let ea = to_z-of_z w128 c.args.self.value fa in
    let el : to_z w64 (of_z w64 c.args.low) ≡ c.args.low = to_z-of_z w64 c.args.low c.ranges.low in
    let eh : to_z w64 (of_z w64 c.args.high) ≡ c.args.high = to_z-of_z w64 c.args.high c.ranges.high in
    let k : (v ≡ value) × (c.in_ok-inner.inner.size.total ≡ total) = subst (λ (o : Option SizedSum). Sums o value total) c.in_ok-inner.was h in
    let r : to_z w128 (of_z w128 c.negative.result) ≡ neg_ℤ value = to_z-of_z w128 c.negative.result (record { sfits = c.negative.type_inv }) ∙ c.negative.ensures ∙ ap neg_ℤ (to_z-of_z w128 v fv ∙ k.0) in
    let size = c.in_ok-size.ensures ∙ ap₂ (λ (k m : ℕ). c.args.self.size.total + k * m) (c.reach.ensures ∙ ap₂ span el eh) (c.total.ensures ∙ k.1) in
    let m : to_z w128 (of_z w128 c.least.result) ≡ int_min (neg_ℤ value *ℤ c.args.low) (neg_ℤ value *ℤ c.args.high) =
    to_z-of_z w128 c.least.result (record { sfits = c.least.type_inv }) ∙ c.least.ensures ∙ ap₂ int_min (ap₂ ◌*ℤ◌ r el) (ap₂ ◌*ℤ◌ r eh) in
    (to_z-of_z w128 c.add_product.result (record { sfits = c.add_product.type_inv }) ∙ c.add_product.ensures ∙ ap₂ (λ (x y : ℤ). x +ℤ y) ea (one_mul _ ∙ m), size)
