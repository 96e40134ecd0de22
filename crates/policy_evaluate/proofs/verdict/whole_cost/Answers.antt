use Rattle.std.proofs.Common.{◌≡◌, ◌∙◌, ℕ, ◌*◌, ◌<◌, ◌≤◌, ◌^◌, nat_abs, true, nat_lt, List, length, sum, Contains, Result, Ok, sym, ap, subst, rules}
use Rattle.std.specs.List.{list_all}
use Rattle.std.proofs.lemmas.Result.{err_from_is_err_and}
use Rattle.problem.specs.declared.parts.ProblemParts.{ProblemParts}
use Rattle.plan_draw.proofs.Draws.{root_weighty}
use Rattle.theory.specs.Problem.{successor_weights}
use Rattle.theory.specs.View.{successors_of, problem_of}
use Rattle.cut_pool.specs.AtNodes.{IsStateAt}
use Rattle.plan_answer.specs.Faults.{Refutes}
use Rattle.policy_evaluate.specs.declared.costs.Walked.{Walked}
use Rattle.policy_evaluate.specs.PolicyTree.{Stop, decide_branch}
use Rattle.policy_evaluate.specs.Costs.{root_cost, share}
use Rattle.policy_evaluate.specs.Small.{IsSmall, successor_branches, successor_denominator}
use Rattle.policy_evaluate.specs.Verdicts.{VerdictStops}
use Rattle.policy_evaluate.proofs.Faults.{infeasible_on, stops_on}
use Rattle.policy_evaluate.proofs.Planned.{longest_there, parts_there, validated_there, start_there}
use Rattle.policy_evaluate.proofs.Rooted.{found, read_cost, read_counted, read_found, read_known, read_small, read_state, read_total, roots_fit, roots_inside, roots_under, whole_err, whole_ok}
use Rattle.policy_evaluate.proofs.verdict.whole_cost.Goals as goal

pub successor_costs-requires : goal.successor_costs-requires
successor_costs-requires g c =
    let p = c.args.planner.now.problem.now in
    let validated = validated_there c.problem-problem.ensures c.parts-parts.ensures.validated in
    let k = c.longest-stages.result in
    let ls = successors_of c.as_slice.result.now c.as_slice-2.result.now in
    let known : list_all (λ m. nat_lt m (length p.parts.nodes)) c.as_slice.result.now ≡ true = read_known p validated c.parts-parts.result.now (parts_there c.problem-problem.ensures c.parts-parts.ensures.value) c.longest-stages.result (longest_there c.problem-problem.ensures c.longest-stages.ensures) c.as_slice.result.now c.as_slice-2.result.now c.as_slice.ensures c.as_slice-2.ensures in
    let counted : length c.as_slice-2.result.now ≡ length c.as_slice.result.now = read_counted p validated c.parts-parts.result.now (parts_there c.problem-problem.ensures c.parts-parts.ensures.value) c.longest-stages.result (longest_there c.problem-problem.ensures c.longest-stages.ensures) c.as_slice.result.now c.as_slice-2.result.now c.as_slice.ensures c.as_slice-2.ensures in
    let state : (m : ℕ) → Contains c.as_slice.result.now m → IsStateAt p m c.as_slice-3.result.now = read_state p validated c.parts-parts.result.now (parts_there c.problem-problem.ensures c.parts-parts.ensures.value) c.longest-stages.result (longest_there c.problem-problem.ensures c.longest-stages.ensures) c.as_slice.result.now c.as_slice-2.result.now c.as_slice.ensures c.as_slice-2.ensures c.as_slice-3.result.now (c.as_slice-3.ensures ∙ start_there c.problem-problem.ensures c.in_ok-state.ensures) in
    let small : IsSmall p k (successor_denominator p k ls) (sum (successor_weights ls)) 0 (successor_branches p k ls) = read_small p validated c.parts-parts.result.now (parts_there c.problem-problem.ensures c.parts-parts.ensures.value) c.longest-stages.result (longest_there c.problem-problem.ensures c.longest-stages.ensures) c.as_slice.result.now c.as_slice-2.result.now c.as_slice.ensures c.as_slice-2.ensures c.requires.small in
    search rules

pub returns-in_err-sum-clause-value : goal.returns-in_err-sum-clause-value
returns-in_err-sum-clause-value g c =
    let p = c.args.planner.now.problem.now in
    let validated = validated_there c.problem-problem.ensures c.parts-parts.ensures.validated in
    let dec = decide_branch (g.V.Solver.does c.args.planner.now.solver.now) p c.args.pools.now.lists in
    let same = read_found p validated c.parts-parts.result.now (parts_there c.problem-problem.ensures c.parts-parts.ensures.value) c.longest-stages.result (longest_there c.problem-problem.ensures c.longest-stages.ensures) c.as_slice.result.now c.as_slice-2.result.now c.as_slice.ensures c.as_slice-2.ensures dec c.as_slice-3.result.now (c.as_slice-3.ensures ∙ start_there c.problem-problem.ensures c.in_ok-state.ensures) in
    let e = err_from_is_err_and c.from_residual-in_err-sum.result c.from_residual-in_err-sum.ensures.1 in
    let f = c.in_err-sum.field-0.0 in
    rw (e.1, e.2) (stops_on f (found p validated dec) (root_cost dec (problem_of p) p.longest) (λ s h. whole_err p validated dec s h) (subst (λ (r : Result Walked Stop). VerdictStops f r) same c.in_err-sum.ensures.value))

pub returns-in_err-sum-clause-some : goal.returns-in_err-sum-clause-some
returns-in_err-sum-clause-some g c =
    let e = err_from_is_err_and c.from_residual-in_err-sum.result c.from_residual-in_err-sum.ensures.1 in
    rw e.1 tt

pub returns-in_err-sum-clause-small : goal.returns-in_err-sum-clause-small
returns-in_err-sum-clause-small g c =
    let e = err_from_is_err_and c.from_residual-in_err-sum.result c.from_residual-in_err-sum.ensures.1 in
    rw e.1 tt

pub returns-in_err-sum-clause-infeasible : goal.returns-in_err-sum-clause-infeasible
returns-in_err-sum-clause-infeasible g c =
    let p = c.args.planner.now.problem.now in
    let e = err_from_is_err_and c.from_residual-in_err-sum.result c.from_residual-in_err-sum.ensures.1 in
    let f = c.in_err-sum.field-0.0 in
    rw (e.1, e.2) (infeasible_on Walked Walked f (Refutes p) c.in_err-sum.ensures.infeasible)

pub total-requires : goal.total-requires
total-requires g c =
    let own : c.as_slice-2.result.now ≡ c.args.planner.now.problem.now.parts.root_weights = c.as_slice-2.ensures ∙ ap (λ (r : ProblemParts). r.root_weights) (parts_there c.problem-problem.ensures c.parts-parts.ensures.value) in
    subst (λ (ks : List ℕ). sum ks ≤ 65535) (sym own) (root_weighty c.args.planner.now.problem.now (validated_there c.problem-problem.ensures c.parts-parts.ensures.validated)).total

pub share-requires : goal.share-requires
share-requires g c =
    let p = c.args.planner.now.problem.now in
    let validated = validated_there c.problem-problem.ensures c.parts-parts.ensures.validated in
    let w = c.in_ok-sum.sum in
    let whole = read_total p validated c.parts-parts.result.now (parts_there c.problem-problem.ensures c.parts-parts.ensures.value) c.longest-stages.result (longest_there c.problem-problem.ensures c.longest-stages.ensures) c.as_slice.result.now c.as_slice-2.result.now c.as_slice.ensures c.as_slice-2.ensures c.as_slice-2.result.now c.total.result c.as_slice-2.ensures c.total.ensures in
    let is = read_cost p validated c.parts-parts.result.now (parts_there c.problem-problem.ensures c.parts-parts.ensures.value) c.longest-stages.result (longest_there c.problem-problem.ensures c.longest-stages.ensures) c.as_slice.result.now c.as_slice-2.result.now c.as_slice.ensures c.as_slice-2.ensures w c.in_ok-sum.ensures.cost in
    subst (λ (a : ℕ). a * w.under < 2 ^ 64) (sym whole) (roots_fit p validated c.requires.small w is)

pub returns-clause-value : goal.returns-clause-value
returns-clause-value g c =
    let p = c.args.planner.now.problem.now in
    let validated = validated_there c.problem-problem.ensures c.parts-parts.ensures.validated in
    let dec = decide_branch (g.V.Solver.does c.args.planner.now.solver.now) p c.args.pools.now.lists in
    let w = c.in_ok-sum.sum in
    let same = read_found p validated c.parts-parts.result.now (parts_there c.problem-problem.ensures c.parts-parts.ensures.value) c.longest-stages.result (longest_there c.problem-problem.ensures c.longest-stages.ensures) c.as_slice.result.now c.as_slice-2.result.now c.as_slice.ensures c.as_slice-2.ensures dec c.as_slice-3.result.now (c.as_slice-3.ensures ∙ start_there c.problem-problem.ensures c.in_ok-state.ensures) in
    let whole = read_total p validated c.parts-parts.result.now (parts_there c.problem-problem.ensures c.parts-parts.ensures.value) c.longest-stages.result (longest_there c.problem-problem.ensures c.longest-stages.ensures) c.as_slice.result.now c.as_slice-2.result.now c.as_slice.ensures c.as_slice-2.ensures c.as_slice-2.result.now c.total.result c.as_slice-2.ensures c.total.ensures in
    whole_ok p validated dec w (sym same ∙ c.in_ok-sum.ensures.value) ∙ ap (λ (a : Walked). Ok a) (sym (c.share.ensures ∙ ap (λ (a : ℕ). share a w) whole))

pub returns-clause-some : goal.returns-clause-some
returns-clause-some g c =
    let p = c.args.planner.now.problem.now in
    let validated = validated_there c.problem-problem.ensures c.parts-parts.ensures.validated in
    let w = c.in_ok-sum.sum in
    let whole = read_total p validated c.parts-parts.result.now (parts_there c.problem-problem.ensures c.parts-parts.ensures.value) c.longest-stages.result (longest_there c.problem-problem.ensures c.longest-stages.ensures) c.as_slice.result.now c.as_slice-2.result.now c.as_slice.ensures c.as_slice-2.ensures c.as_slice-2.result.now c.total.result c.as_slice-2.ensures c.total.ensures in
    let is = read_cost p validated c.parts-parts.result.now (parts_there c.problem-problem.ensures c.parts-parts.ensures.value) c.longest-stages.result (longest_there c.problem-problem.ensures c.longest-stages.ensures) c.as_slice.result.now c.as_slice-2.result.now c.as_slice.ensures c.as_slice-2.ensures w c.in_ok-sum.ensures.cost in
    subst (λ (a : Walked). 0 < a.under) (sym (c.share.ensures ∙ ap (λ (a : ℕ). share a w) whole)) (roots_under p validated c.requires.small w is)

pub returns-clause-small : goal.returns-clause-small
returns-clause-small g c =
    let p = c.args.planner.now.problem.now in
    let validated = validated_there c.problem-problem.ensures c.parts-parts.ensures.validated in
    let w = c.in_ok-sum.sum in
    let whole = read_total p validated c.parts-parts.result.now (parts_there c.problem-problem.ensures c.parts-parts.ensures.value) c.longest-stages.result (longest_there c.problem-problem.ensures c.longest-stages.ensures) c.as_slice.result.now c.as_slice-2.result.now c.as_slice.ensures c.as_slice-2.ensures c.as_slice-2.result.now c.total.result c.as_slice-2.ensures c.total.ensures in
    let is = read_cost p validated c.parts-parts.result.now (parts_there c.problem-problem.ensures c.parts-parts.ensures.value) c.longest-stages.result (longest_there c.problem-problem.ensures c.longest-stages.ensures) c.as_slice.result.now c.as_slice-2.result.now c.as_slice.ensures c.as_slice-2.ensures w c.in_ok-sum.ensures.cost in
    subst (λ (a : Walked). nat_abs a.up ≤ 2 ^ 126) (sym (c.share.ensures ∙ ap (λ (a : ℕ). share a w) whole)) (roots_inside p validated c.requires.small w is)
