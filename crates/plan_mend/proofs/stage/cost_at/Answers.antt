use Rattle.std.proofs.Common.{◌∙◌, ◌≤◌, ◌^◌, nat_abs, sym, subst}
use mir.Syntax.{w64}
use Rattle.std.proofs.lemmas.Int.{to_z-of_z}
use Rattle.plan_mend.proofs.Framed.{cost_is, cost_small}
use Rattle.plan_mend.proofs.stage.cost_at.Goals as goal

pub returns-clause-value : goal.returns-clause-value
returns-clause-value c =
    let s = c.args.stage.now in
    to_z-of_z w64 c.cost_in.result (record { sfits = c.cost_in.type_inv }) ∙ c.cost_in.ensures ∙ cost_is s.problem.now s.node c.sub.result.now c.requires.known c.sub.ensures c.as_slice.result.now c.args.at c.as_slice.ensures

pub returns-clause-small : goal.returns-clause-small
returns-clause-small c =
    let s = c.args.stage.now in
    subst (λ z. nat_abs z ≤ 2 ^ 40) (sym (to_z-of_z w64 c.cost_in.result (record { sfits = c.cost_in.type_inv }) ∙ c.cost_in.ensures))
    (cost_small s.problem.now s.node c.sub.result.now c.requires.known c.sub.ensures c.as_slice.result.now c.args.at c.as_slice.ensures c.parts.ensures.validated)
