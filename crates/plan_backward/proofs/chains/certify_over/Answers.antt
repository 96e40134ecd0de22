use Rattle.std.proofs.Common.{List, [], get_or, subst}
use Rattle.base_num.specs.Steps.{GivesOr}
use Rattle.theory.specs.Problem.{node_at}
use Rattle.theory.specs.View.{problem_of}
use Rattle.lp_program.specs.declared.programs.Answer.{Answer}
use Rattle.plan_backward.specs.Certifying.{certify, certify_all, nothing_certified, values_of}
use Rattle.plan_answer.specs.Faults.{Stops}
use Rattle.plan_backward.proofs.Begun.{begins}
use Rattle.plan_backward.proofs.Placed.{first-values_of}
use Rattle.plan_backward.proofs.chains.certify_over.Goals as goal

pub returns-clause-value : goal.returns-clause-value
returns-clause-value g c =
    let here = c.args.here.now in
    let p = here.planner.now.problem.now in
    let pools = here.pools.now.lists in
    let values = values_of p.parts here.node c.args.order.now in
    subst (λ (found : List Answer). GivesOr Stops (λ found. found) c.certify_in_chain.result (certify_all (certify pools (node_at (problem_of p) here.node) here.iteration here.node here.state.now) nothing_certified values found))
    (begins (g.V.Solver.does here.planner.now.solver.now) p pools here.node here.state.now values (get_or values 0 []) c.args.lp.now c.in_ok-chain.chain
    (first-values_of p.parts here.node c.args.order.now c.requires.some) c.requires.stage c.in_ok-chain.ensures.made)
    c.certify_in_chain.ensures.value
