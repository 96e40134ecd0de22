use Rattle.std.proofs.Common.{◌≡◌, ◌∙◌, ℕ, ℤ, List, map, IfOk, ap, subst}
use Rattle.base_num.specs.Sums.{entry}
use Rattle.plan_mend.proofs.MendedDecisions.{next_at}
use Rattle.plan_mend.proofs.deciding.state_after.Goals as goal

pub returns : goal.returns
returns c =
    subst (λ (xs : List ℤ). IfOk c.next_state.result (λ (found : List ℤ). found ≡ xs))
    (ap (λ (outs : List ℕ). map (λ o. entry c.args.decisions.now o) outs) c.as_slice.ensures ∙ next_at c.args.problem.now c.args.node c.sub.result.now c.args.decisions.now c.requires c.sub.ensures)
    c.next_state.ensures
