use Rattle.std.proofs.Common.{◌≡◌, ◌≤◌, ◌^◌, ◌*ℤ◌, ◌∙◌, ℕ, ℤ, List, length, nat_abs, w64, sym, subst, ap, ap₂, arith}
use mir.Syntax.{w128}
use Rattle.std.proofs.lemmas.Int.{to_z-of_z}
use Rattle.base_num.specs.Sums.{entry, sum_to}
use Rattle.base_num.proofs.Sums.{dot_sum}
use Rattle.plan_forward.proofs.Products.{one_product}
use Rattle.plan_forward.proofs.amounts.products_sum.Goals as goal

pub loop-i-preserved : goal.loop-i-preserved
loop-i-preserved g c =
    let factors : List ℤ = g.F.Factors.factors c.args.factors.now in
    let numbers : List ℤ = g.N.Amounts.numbers c.args.numbers.now in
    let product = to_z-of_z w128 c.product.result (record { sfits = c.product.type_inv }) in
    let sum = to_z-of_z w128 c.more-total.result (record { sfits = c.more-total.type_inv }) ∙ c.more-total.ensures in
    let more = one_product (λ j. entry factors j *ℤ entry numbers j) c.loop-i.i (2 ^ 104) _ _ _ c.loop-i.invariant.value c.loop-i.invariant.small
    (product ∙ c.product.ensures.value ∙ ap₂ (λ (a b : ℤ). a *ℤ b) (to_z-of_z w64 c.factor.result (record { sfits = c.factor.type_inv }) ∙ c.factor.ensures) (to_z-of_z w128 c.at.result (record { sfits = c.at.type_inv }) ∙ c.at.ensures)) (subst (λ (z : ℤ). nat_abs z ≤ 2 ^ 104) (sym product) c.product.ensures.small) sum in
    record { value = more.0; small = more.1 }

pub returns-clause-value : goal.returns-clause-value
returns-clause-value g c =
    let factors : List ℤ = g.F.Factors.factors c.args.factors.now in
    let numbers : List ℤ = g.N.Amounts.numbers c.args.numbers.now in
    let end : c.loop-i.i ≡ length factors = omega (arith, c.loop-i-test.false, c.requires.count, c.loop-i.auto.i-end) in
    c.loop-i.invariant.value ∙ ap (λ (n : ℕ). sum_to n (λ j. entry factors j *ℤ entry numbers j)) end ∙ sym (dot_sum factors numbers)
