use Rattle.std.proofs.Common.{◌≡◌, Bool, true, false, ℤ, List, length, zip, rules, ap, sym, ◌∙◌}
use Rattle.std.specs.List.{list_all}
use Rattle.problem.specs.declared.parts.Row.{Row}
use Rattle.cut_make.specs.Acceptance.{is_sign}
use Rattle.plan_answer.proofs.Viewed.{other_count, wrong_sign, by_value}
use Rattle.plan_answer.proofs.farkas.is_refuted.Goals as goal

abbrev signs : List ℤ → List Row → Bool
signs ys rows = list_all (λ (q : Row × ℤ). is_sign q.0 q.1) (zip rows ys)

pub returns-then-multipliers-rows : goal.returns-then-multipliers-rows
returns-then-multipliers-rows c = λ n low high.
    other_count n c.args.sub.now low high c.args.values.now c.args.state.now c.args.multipliers.now (λ e. c.if-multipliers-rows.true (e ∙ sym (ap length c.as_slice-rows.ensures)))

pub returns-then-not-are_signs : goal.returns-then-not-are_signs
returns-then-not-are_signs c = λ n low high.
    let wrong : c.are_signs.result ≡ false = search rules in
    wrong_sign n c.args.sub.now low high c.args.values.now c.args.state.now c.args.multipliers.now (sym (c.are_signs.ensures ∙ ap (signs c.args.multipliers.now) c.as_slice-rows.ensures) ∙ wrong)

pub returns : goal.returns
returns c = λ n low high.
    let right : c.are_signs.result ≡ true = search rules in
    by_value n c.args.sub.now low high c.args.values.now c.args.state.now c.args.multipliers.now c.is_positive.result (c.if-multipliers-rows.false ∙ ap length c.as_slice-rows.ensures)
    (sym (c.are_signs.ensures ∙ ap (signs c.args.multipliers.now) c.as_slice-rows.ensures) ∙ right)
    (c.is_positive.ensures _ _ (c.refuting_sum.ensures n low high))
