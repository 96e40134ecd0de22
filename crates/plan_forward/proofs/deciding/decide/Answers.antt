use Rattle.std.proofs.Common.{◌≡◌, ◌∙◌, ℕ, true, Contains, Result, ap, subst}
use Rattle.problem.specs.Parts.{successors_at}
use Rattle.problem.specs.Validated.{Validated, is_validated}
use Rattle.theory.specs.Problem.{S, node_at}
use Rattle.theory.specs.Tree.{InBox}
use Rattle.theory.specs.View.{problem_of}
use Rattle.lp_program.specs.declared.programs.Answer.{Answer}
use Rattle.plan_answer.specs.declared.classifying.Classified.{Classified}
use Rattle.plan_answer.specs.declared.classifying.Infeasibility.{Infeasibility}
use Rattle.plan_answer.specs.Classifying.{classify_of}
use Rattle.plan_forward.specs.declared.deciding.Decided.{Decided}
use Rattle.plan_forward.specs.Deciding.{decide_by}
use Rattle.cut_pool.specs.AtNodes.{IsStateAt}
use Rattle.plan_answer.specs.Faults.{GivesOrRefutes, Refutes}
use Rattle.plan_forward.proofs.ByAnswers.{if_given, on_no_stage, inside_by, next_by, refutes_classified}
use Rattle.plan_forward.proofs.deciding.decide.Goals as goal

pub returns-clause-inside : goal.returns-clause-inside
returns-clause-inside g c =
    let p = c.args.planner.now.problem.now in
    let i = c.args.input.now in
    let n = node_at (problem_of p) i.node in
    let validated = subst (λ (q : Validated). is_validated q ≡ true) c.problem-problem.ensures c.parts.ensures.validated in
    let given = subst (λ (q : Validated). GivesOrRefutes c.decide_by.result (decide_by q i.run i.node i.values.now i.state.now c.in_ok-answer.answer c.in_ok-classified.classified)) c.problem-problem.ensures c.decide_by.ensures in
    if_given c.decide_by.result (decide_by p i.run i.node i.values.now i.state.now c.in_ok-answer.answer c.in_ok-classified.classified) (λ (d : Decided). InBox S n.decision_low n.decision_high d.decisions)
    (inside_by p validated i.run i.node c.requires.known i.values.now i.state.now c.in_ok-answer.answer c.in_ok-classified.classified) given

pub returns-clause-next : goal.returns-clause-next
returns-clause-next g c =
    let p = c.args.planner.now.problem.now in
    let i = c.args.input.now in
    let validated = subst (λ (q : Validated). is_validated q ≡ true) c.problem-problem.ensures c.parts.ensures.validated in
    let given = subst (λ (q : Validated). GivesOrRefutes c.decide_by.result (decide_by q i.run i.node i.values.now i.state.now c.in_ok-answer.answer c.in_ok-classified.classified)) c.problem-problem.ensures c.decide_by.ensures in
    if_given c.decide_by.result (decide_by p i.run i.node i.values.now i.state.now c.in_ok-answer.answer c.in_ok-classified.classified) (λ (d : Decided). (m : ℕ) → Contains (successors_at p.parts i.node) m → IsStateAt p m d.next)
    (next_by p validated i.run i.node c.requires.known i.values.now i.state.now c.in_ok-answer.answer c.in_ok-classified.classified) given

pub returns-clause-infeasible : goal.returns-clause-infeasible
returns-clause-infeasible g c =
    let p = c.args.planner.now.problem.now in
    let i = c.args.input.now in
    let a : Answer = c.in_ok-answer.answer in
    let by : Classified → Result Decided Infeasibility = decide_by p i.run i.node i.values.now i.state.now a in
    let validated = subst (λ (q : Validated). is_validated q ≡ true) c.problem-problem.ensures c.parts.ensures.validated in
    let given = subst (λ (q : Validated). GivesOrRefutes c.decide_by.result (decide_by q i.run i.node i.values.now i.state.now a c.in_ok-classified.classified)) c.problem-problem.ensures c.decide_by.ensures in
    let classified = c.in_ok-classified.ensures ∙ ap (λ (q : Validated). classify_of (node_at (problem_of q) i.node) i.values.now i.state.now a) c.problem-problem.ensures in
    on_no_stage c.decide_by.result (by (classify_of (node_at (problem_of p) i.node) i.values.now i.state.now a)) (Refutes p)
    (refutes_classified p validated i.run i.node c.requires.known i.values.now i.state.now a)
    (subst (λ (j : Classified). GivesOrRefutes c.decide_by.result (by j)) classified given)
