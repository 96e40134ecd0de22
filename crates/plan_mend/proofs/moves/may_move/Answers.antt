use Rattle.std.proofs.Common.{◌≡◌, ◌∙◌, ◌≤◌, ◌^◌, ◌+ℤ◌, nat_abs, true, false, get_or, sym, ap, ap₂, subst, rules}
use mir.Syntax.{w128}
use Rattle.std.proofs.lemmas.Int.{to_z-of_z}
use Rattle.base_num.specs.Sums.{entry}
use Rattle.plan_mend.specs.Stages.{frame_at}
use Rattle.plan_mend.proofs.Allowed.{allowed, may_is, number_small, amount_small, stays_inside}
use Rattle.plan_mend.proofs.Framed.{bounds_counted}
use Rattle.plan_mend.proofs.moves.may_move.Goals as goal

pub moved_to-requires-clause-number : goal.moved_to-requires-clause-number
moved_to-requires-clause-number c =
    let s = c.args.stage.now in
    let u = c.args.search.now.numbers in
    let same = bounds_counted s.problem.now s.node c.sub.result.now c.requires.stage.known c.sub.ensures in
    let there = to_z-of_z w128 c.number_at.result (record { sfits = c.number_at.type_inv }) ∙ c.number_at.ensures ∙ ap (λ xs. entry xs c.args.at) c.as_slice-then-not-is_held.ensures in
    subst (λ z. nat_abs z ≤ 2 ^ 64) (sym there) (number_small s.problem.now c.parts.ensures.validated s.node c.requires.stage.known same u c.requires.inside c.args.at)

pub returns-then-not-is_held-clause-value : goal.returns-then-not-is_held-clause-value
returns-then-not-is_held-clause-value c =
    let held : get_or c.args.search.now.held c.args.at true ≡ false = search rules in
    let number : c.moved_to.result ≡ entry c.args.search.now.numbers c.args.at +ℤ c.args.amount =
    c.moved_to.ensures ∙ ap₂ (λ z w. z +ℤ w) (to_z-of_z w128 c.number_at.result (record { sfits = c.number_at.type_inv }) ∙ c.number_at.ensures ∙ ap (λ xs. entry xs c.args.at) c.as_slice-then-not-is_held.ensures) (to_z-of_z w128 c.args.amount c.ranges.amount) in
    c.is_inside.ensures ∙ may_is (frame_at c.args.stage.now) c.args.search.now c.args.at c.args.amount c.box_at.result.0 c.box_at.result.1 _ c.box_at.ensures.low c.box_at.ensures.high (to_z-of_z w128 c.moved_to.result (record { sfits = c.moved_to.type_inv }) ∙ number) held

pub returns-then-not-is_held-clause-small : goal.returns-then-not-is_held-clause-small
returns-then-not-is_held-clause-small c = λ e.
    let s = c.args.stage.now in
    let same = bounds_counted s.problem.now s.node c.sub.result.now c.requires.stage.known c.sub.ensures in
    amount_small s.problem.now c.parts.ensures.validated s.node c.requires.stage.known same c.args.search.now.numbers c.requires.inside c.args.at c.args.amount
    (allowed (frame_at s) c.args.search.now c.args.at c.args.amount (sym (returns-then-not-is_held-clause-value c) ∙ e))

pub returns-then-not-is_held-clause-inside : goal.returns-then-not-is_held-clause-inside
returns-then-not-is_held-clause-inside c = λ e.
    let s = c.args.stage.now in
    let same = bounds_counted s.problem.now s.node c.sub.result.now c.requires.stage.known c.sub.ensures in
    stays_inside s.problem.now c.parts.ensures.validated s.node c.requires.stage.known same c.args.search.now.numbers c.requires.inside c.args.at c.args.amount
    (allowed (frame_at s) c.args.search.now c.args.at c.args.amount (sym (returns-then-not-is_held-clause-value c) ∙ e))

pub returns-then-not-is_held-clause-number : goal.returns-then-not-is_held-clause-number
returns-then-not-is_held-clause-number c = λ e.
    let s = c.args.stage.now in
    let same = bounds_counted s.problem.now s.node c.sub.result.now c.requires.stage.known c.sub.ensures in
    number_small s.problem.now c.parts.ensures.validated s.node c.requires.stage.known same c.args.search.now.numbers c.requires.inside c.args.at
