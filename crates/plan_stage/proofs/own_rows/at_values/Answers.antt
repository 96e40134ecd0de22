use Rattle.std.proofs.Common.{◌≤◌, ◌^◌, ◌*ℤ◌, ◌∙◌, ℤ, pos, length, get_or, nat_abs, SFits, w64, rules, sym, subst, ap₂, arith}
use mir.Syntax.{w128}
use Rattle.std.proofs.lemmas.Int.{to_z-of_z}
use Rattle.base_num.specs.Sums.{Term, entry}
use Rattle.plan_stage.proofs.Growing.{totalled}
use Rattle.plan_stage.proofs.Terms.{term_at, terms_few}
use Rattle.plan_stage.proofs.own_rows.at_values.Goals as goal

pub bounds-values-variable : goal.bounds-values-variable
bounds-values-variable c = (term_at (length c.args.values.now) 0 c.args.terms.now c.loop-variable.variable-index (0, pos 0) c.requires.fit c.loop-variable-test.true).below

pub value_product-requires-clause-factor : goal.value_product-requires-clause-factor
value_product-requires-clause-factor c =
    let term : Term = get_or c.args.terms.now c.loop-variable.variable-index (0, pos 0) in
    let fits : SFits w64 term.1 = search rules in
    subst (λ (z : ℤ). nat_abs z ≤ 2 ^ 40) (sym (to_z-of_z w64 term.1 fits)) (term_at (length c.args.values.now) 0 c.args.terms.now c.loop-variable.variable-index (0, pos 0) c.requires.fit c.loop-variable-test.true).small

pub sum-total-requires-clause-a_small : goal.sum-total-requires-clause-a_small
sum-total-requires-clause-a_small c = omega (arith, c.loop-variable.invariant.small, c.loop-variable-test.true, terms_few (length c.args.values.now) c.args.terms.now c.requires.fit, c.requires.few)

pub loop-variable-preserved : goal.loop-variable-preserved
loop-variable-preserved c =
    let term : Term = get_or c.args.terms.now c.loop-variable.variable-index (0, pos 0) in
    let factor : SFits w64 term.1 = search rules in
    let number : SFits w64 (entry c.args.values.now term.0) = search rules in
    let product = to_z-of_z w128 c.value_product.result (record { sfits = c.value_product.type_inv }) in
    let sum = to_z-of_z w128 c.sum-total.result (record { sfits = c.sum-total.type_inv }) ∙ c.sum-total.ensures.value in
    let more = totalled (λ (t : Term). t.1 *ℤ entry c.args.values.now t.0) c.args.terms.now c.loop-variable.variable-index (2 ^ 80) (0, pos 0) _ _ _ c.loop-variable-test.true c.loop-variable.invariant.value c.loop-variable.invariant.small
    (product ∙ c.value_product.ensures.value ∙ ap₂ (λ (a b : ℤ). a *ℤ b) (to_z-of_z w64 term.1 factor) (to_z-of_z w64 (entry c.args.values.now term.0) number)) (subst (λ (z : ℤ). nat_abs z ≤ 2 ^ 80) (sym product) c.value_product.ensures.small) sum in
    record { value = more.0; small = more.1 }

pub returns-clause-small : goal.returns-clause-small
returns-clause-small c = omega (arith, c.loop-variable.invariant.small, c.loop-variable.auto.variable-index-end, terms_few (length c.args.values.now) c.args.terms.now c.requires.fit, c.requires.few)
