use Rattle.std.proofs.Common.{◌≤◌, ◌^◌, ◌*ℤ◌, ◌∙◌, ℤ, List, pos, length, get_or, nat_abs, SFits, w64, rules, sym, subst, ap₂, arith}
use mir.Syntax.{w128}
use Rattle.std.proofs.lemmas.Int.{to_z-of_z}
use Rattle.base_num.specs.Sums.{Term, entry}
use Rattle.plan_stage.proofs.Growing.{totalled}
use Rattle.plan_stage.proofs.Terms.{term_at, terms_few}
use Rattle.plan_forward.proofs.amounts.terms_sum.Goals as goal

pub at-requires : goal.at-requires
at-requires g c = (term_at (length (g.N.Amounts.numbers c.args.numbers.now)) 0 c.args.terms.now c.loop-variable.variable-index (0, pos 0) c.requires.fit c.loop-variable-test.true).below

pub product-requires-clause-factor : goal.product-requires-clause-factor
product-requires-clause-factor g c =
    let term : Term = get_or c.args.terms.now c.loop-variable.variable-index (0, pos 0) in
    let fits : SFits w64 term.1 = search rules in
    subst (λ (z : ℤ). nat_abs z ≤ 2 ^ 40) (sym (to_z-of_z w64 term.1 fits)) (term_at (length (g.N.Amounts.numbers c.args.numbers.now)) 0 c.args.terms.now c.loop-variable.variable-index (0, pos 0) c.requires.fit c.loop-variable-test.true).small

pub more-total-requires-clause-sum : goal.more-total-requires-clause-sum
more-total-requires-clause-sum g c = omega (arith, c.loop-variable.invariant.small, c.loop-variable-test.true, terms_few (length (g.N.Amounts.numbers c.args.numbers.now)) c.args.terms.now c.requires.fit, c.requires.amounts.few)

pub loop-variable-preserved : goal.loop-variable-preserved
loop-variable-preserved g c =
    let numbers : List ℤ = g.N.Amounts.numbers c.args.numbers.now in
    let term : Term = get_or c.args.terms.now c.loop-variable.variable-index (0, pos 0) in
    let factor : SFits w64 term.1 = search rules in
    let product = to_z-of_z w128 c.product.result (record { sfits = c.product.type_inv }) in
    let sum = to_z-of_z w128 c.more-total.result (record { sfits = c.more-total.type_inv }) ∙ c.more-total.ensures in
    let more = totalled (λ (t : Term). t.1 *ℤ entry numbers t.0) c.args.terms.now c.loop-variable.variable-index (2 ^ 104) (0, pos 0) _ _ _ c.loop-variable-test.true c.loop-variable.invariant.value c.loop-variable.invariant.small
    (product ∙ c.product.ensures.value ∙ ap₂ (λ (a b : ℤ). a *ℤ b) (to_z-of_z w64 term.1 factor) (to_z-of_z w128 c.at.result (record { sfits = c.at.type_inv }) ∙ c.at.ensures)) (subst (λ (z : ℤ). nat_abs z ≤ 2 ^ 104) (sym product) c.product.ensures.small) sum in
    record { value = more.0; small = more.1 }

pub returns-clause-small : goal.returns-clause-small
returns-clause-small g c = omega (arith, c.loop-variable.invariant.small, c.loop-variable.auto.variable-index-end, terms_few (length (g.N.Amounts.numbers c.args.numbers.now)) c.args.terms.now c.requires.fit, c.requires.amounts.few)
