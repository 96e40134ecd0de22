use Rattle.std.proofs.Common.{List, ℕ, length, true, false, Result, ap, ap₂, sym, subst, ◌∙◌}
use Rattle.base_num.specs.Steps.{GivesOr}
use Rattle.plan_backward.specs.declared.certified.Certified.{Certified}
use Rattle.plan_answer.specs.declared.plan_fault.PlanFault.{PlanFault}
use Rattle.plan_backward.specs.Certifying.{in_chain, in_turn, values_of}
use Rattle.plan_answer.specs.Faults.{Stops}
use Rattle.plan_backward.proofs.Certificates.{in_their_chains}
use Rattle.plan_backward.proofs.in_chains.in_chains.Goals as goal

pub returns-then-not-in_two_chains-clause-value : goal.returns-then-not-in_two_chains-clause-value
returns-then-not-in_two_chains-clause-value g c =
    let here = c.args.here.now in
    let p = here.planner.now.problem.now in
    let v = g.V.Solver.does here.planner.now.solver.now in
    let order = c.order-order.result.now in
    let said = ap (λ solver. (g.V.Solver.does solver).in_two c.args.lp.now (length order)) (sym c.solver.ensures) ∙ sym c.in_two_chains.ensures ∙ c.if-not-in_two_chains.true in
    subst (λ (r : Result Certified PlanFault). GivesOr Stops (λ found. found) c.certify_over.result r)
    (in_their_chains v p here.pools.now.lists here.iteration here.node here.state.now c.args.lp.now order false c.requires.stage c.order-order.ensures.value said)
    c.certify_over.ensures.value

pub returns-clause-value : goal.returns-clause-value
returns-clause-value g c =
    let here = c.args.here.now in
    let p = here.planner.now.problem.now in
    let v = g.V.Solver.does here.planner.now.solver.now in
    let order = c.order-order.result.now in
    let half : List ℕ → Result Certified PlanFault = λ some. in_chain v p here.pools.now.lists here.iteration here.node here.state.now (values_of p.parts here.node some) in
    let said = ap (λ solver. (g.V.Solver.does solver).in_two c.args.lp.now (length order)) (sym c.solver.ensures) ∙ sym c.in_two_chains.ensures ∙ c.if-not-in_two_chains.false in
    subst (λ (r : Result Certified PlanFault). GivesOr Stops (λ found. found) c.beside_each_other.result r)
    (ap₂ (λ (one other : List ℕ). in_turn (half one) (half other)) c.halves.ensures.first c.halves.ensures.second
    ∙ in_their_chains v p here.pools.now.lists here.iteration here.node here.state.now c.args.lp.now order true c.requires.stage c.order-order.ensures.value said)
    c.beside_each_other.ensures.value
