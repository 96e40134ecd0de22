use Rattle.std.proofs.Common.{◌∙◌, ◌≤◌, ◌^◌, nat_abs, sym, ap, subst}
use Rattle.base_num.specs.Sums.{entry}
use Rattle.plan_mend.proofs.Allowed.{number_small}
use Rattle.plan_mend.proofs.Framed.{bounds_counted}
use Rattle.plan_mend.proofs.Untouched.{moved_same}
use Rattle.plan_mend.proofs.moves.move_of.Goals as goal

pub moved-requires-clause-number : goal.moved-requires-clause-number
moved-requires-clause-number c =
    let s = c.args.stage.now in
    let same = bounds_counted s.problem.now s.node c.sub.result.now c.requires.stage.known c.sub.ensures in
    subst (λ z. nat_abs z ≤ 2 ^ 64) (sym (ap (λ xs. entry xs c.args.at) c.as_slice-numbers.ensures))
    (number_small s.problem.now c.parts.ensures.validated s.node c.requires.stage.known same c.args.search.now.numbers c.requires.inside c.args.at)

pub harm-requires-clause-moved : goal.harm-requires-clause-moved
harm-requires-clause-moved c = moved_same c.as_slice-numbers.result.now c.as_slice.result.now c.args.at _ (c.as_slice.ensures ∙ c.in_ok-after.ensures)
