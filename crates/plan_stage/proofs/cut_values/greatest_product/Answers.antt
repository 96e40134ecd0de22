use Rattle.std.proofs.Common.{◌≡◌, ◌∙◌, ℤ, pos, ◌*ℤ◌, SFits, w64, true, false, rules, ap, ap₂, subst}
use mir.Syntax.{w128}
use Rattle.std.specs.Int.{int_max}
use Rattle.std.specs.Int.Signed.{lt_z}
use Rattle.std.proofs.lemmas.Int.{to_z-of_z}
use Rattle.base_num.specs.Sums.{entry}
use Rattle.problem.specs.Validated.{out_lows, out_highs}
use Rattle.cut_pool.specs.declared.box_maxima.OutBox.{OutBox}
use Rattle.plan_stage.proofs.OutBoxes.{at_least, at_greatest}
use Rattle.plan_stage.proofs.cut_values.greatest_product.Goals as goal

pub returns-then-slope-lt0-clause-value : goal.returns-then-slope-lt0-clause-value
returns-then-slope-lt0-clause-value c =
    let d : ℤ = c.args.slope in
    let l : ℤ = entry (out_lows c.args.subproblem.now) c.args.state in
    let u : ℤ = entry (out_highs c.args.subproblem.now) c.args.state in
    let least : SFits w64 c.args.ends.now.least = search rules in
    to_z-of_z w128 c.product.result (record { sfits = c.product.type_inv }) ∙ c.product.ensures.value
    ∙ ap₂ (λ (a b : ℤ). a *ℤ b) (to_z-of_z w128 d c.ranges.slope) (to_z-of_z w64 c.args.ends.now.least least ∙ ap (λ (b : OutBox). b.least) c.requires.ends)
    ∙ at_least d l u (subst (λ (z : ℤ). lt_z z (pos 0) ≡ true) (to_z-of_z w128 d c.ranges.slope) c.if-slope-lt0.true)
    ∙ ap (λ (z : ℤ). int_max (z *ℤ l) (z *ℤ u)) c.requires.slope

pub returns-else-slope-lt0-clause-value : goal.returns-else-slope-lt0-clause-value
returns-else-slope-lt0-clause-value c =
    let d : ℤ = c.args.slope in
    let l : ℤ = entry (out_lows c.args.subproblem.now) c.args.state in
    let u : ℤ = entry (out_highs c.args.subproblem.now) c.args.state in
    let greatest : SFits w64 c.args.ends.now.greatest = search rules in
    to_z-of_z w128 c.product-else-slope-lt0.result (record { sfits = c.product-else-slope-lt0.type_inv }) ∙ c.product-else-slope-lt0.ensures.value
    ∙ ap₂ (λ (a b : ℤ). a *ℤ b) (to_z-of_z w128 d c.ranges.slope) (to_z-of_z w64 c.args.ends.now.greatest greatest ∙ ap (λ (b : OutBox). b.greatest) c.requires.ends)
    ∙ at_greatest d l u (subst (λ (z : ℤ). lt_z z (pos 0) ≡ false) (to_z-of_z w128 d c.ranges.slope) c.if-slope-lt0.false)
    ∙ ap (λ (z : ℤ). int_max (z *ℤ l) (z *ℤ u)) c.requires.slope
