use Rattle.std.proofs.Common.{◌≡◌, ◌∙◌, ℕ, suc, ◌+◌, ◌-◌, ◌*◌, ◌<◌, ◌≤◌, ℤ, nat_abs, true, nat_lt, List, length, get_or, sum, Contains, Result, Ok, Err, refl, sym, ap, ap₂, subst, arith, rules}
use mir.Syntax.{w128}
use Rattle.std.specs.List.{list_all}
use Rattle.std.proofs.lemmas.Int.{to_z-of_z}
use Rattle.std.proofs.lemmas.List.Elements.{Contains-get_or}
use Rattle.std.proofs.lemmas.Result.{err_from_is_err_and}
use Rattle.problem.specs.declared.parts.Node as nodes
use Rattle.problem.specs.Limits.{are_values}
use Rattle.problem.specs.Validated.{Validated, subproblem_of}
use Rattle.theory.specs.Problem.{S, node_at, successor_weights, successor_weight}
use Rattle.theory.specs.Tree.{InBox}
use Rattle.theory.specs.View.{successors_of, problem_of}
use Rattle.cut_pool.specs.AtNodes.{IsStateAt}
use Rattle.plan_answer.specs.Faults.{Refutes}
use Rattle.plan_draw.specs.declared.steps.PathStep.{PathStep}
use Rattle.plan_forward.specs.declared.deciding.Decided.{Decided}
use Rattle.plan_forward.specs.Costing.{stage_cost_of}
use Rattle.policy_evaluate.specs.declared.costs.Walked.{Walked}
use Rattle.policy_evaluate.specs.PolicyTree.{Stop, decide_branch}
use Rattle.policy_evaluate.specs.Costs.{add_stage, tree_cost}
use Rattle.policy_evaluate.specs.Small.{IsSmall, successor_branches, successor_denominator, most_cost}
use Rattle.policy_evaluate.specs.TooBig.{branches, denominator}
use Rattle.policy_evaluate.proofs.Adding.{successors_first}
use Rattle.policy_evaluate.proofs.Behind.{behind_cost, behind_counted, behind_fits, behind_gives, behind_known, behind_less, behind_state, behind_weight, successors}
use Rattle.policy_evaluate.proofs.Branching.{branches_first}
use Rattle.policy_evaluate.proofs.Faults.{behind_fault, branch_done, infeasible_behind, infeasible_on, none_cost, tree_done, tree_fault, tree_none, undecided_fault}
use Rattle.policy_evaluate.proofs.Planned.{node_there, validated_there, stage_there, weight_there}
use Rattle.policy_evaluate.proofs.Seen.{Seen, length-realizations_of, no_realization, node_same, read_at, realization_values, seen, values_here}
use Rattle.policy_evaluate.proofs.StageSizes.{branch_within}
use Rattle.policy_evaluate.proofs.Steps.{adds_fault, adds_next, adds_weighted, adds_whole, branch_small, branches_ended, step_adds, step_fault, step_known, step_next, step_small, steps_last}
use Rattle.policy_evaluate.proofs.Trees.{tree_cost_is, tree_fits, tree_less, tree_light, tree_share}
use Rattle.policy_evaluate.proofs.tree.+walk.Goals as goal

pub successor_costs-loop-i-init : goal.successor_costs-loop-i-init
successor_costs-loop-i-init g t c = rw c.no_cost-sum.ensures (successors_first _ _ _ _ _)

pub successor_costs-bounds-successors-i : goal.successor_costs-bounds-successors-i
successor_costs-bounds-successors-i g t c =
    omega (arith, c.loop-i-test.true, c.requires.counted)

pub successor_costs-bounds-successors-i-in-loop-i : goal.successor_costs-bounds-successors-i-in-loop-i
successor_costs-bounds-successors-i-in-loop-i g t c =
    omega (arith, c.loop-i-test.true, c.requires.counted)

pub successor_costs-tree_cost-requires : goal.successor_costs-tree_cost-requires
successor_costs-tree_cost-requires g t c =
    let p = c.args.course.now.planner.now.problem.now in
    let inside : c.loop-i.i < length c.args.successors.now.nodes.now = omega (arith, c.loop-i-test.true) in
    let m = get_or c.args.successors.now.nodes.now c.loop-i.i 0 in
    let known : m < length p.parts.nodes = step_known p (validated_there c.problem.ensures c.parts.ensures.validated) c.args.stages c.args.decided _ c.args.successors.now.nodes.now c.args.successors.now.weights.now c.requires.known c.requires.counted c.requires.small c.loop-i.i inside c.loop-i.sum c.loop-i.invariant in
    let state : IsStateAt p m c.args.state.now = c.requires.state m (Contains-get_or c.args.successors.now.nodes.now c.loop-i.i 0 inside) in
    let small : IsSmall p c.args.stages (denominator (problem_of p) c.args.stages m) 1 c.loop-i.sum.decided (branches (problem_of p) c.args.stages m) = step_small p (validated_there c.problem.ensures c.parts.ensures.validated) c.args.stages c.args.decided _ c.args.successors.now.nodes.now c.args.successors.now.weights.now c.requires.known c.requires.counted c.requires.small c.loop-i.i inside c.loop-i.sum c.loop-i.invariant in
    search rules

pub successor_costs-returns-in_err-cost-clause-value : goal.successor_costs-returns-in_err-cost-clause-value
successor_costs-returns-in_err-cost-clause-value g t c =
    let p = c.args.course.now.planner.now.problem.now in
    let inside : c.loop-i.i < length c.args.successors.now.nodes.now = omega (arith, c.loop-i-test.true) in
    let e = err_from_is_err_and c.from_residual.result c.from_residual.ensures.1 in
    rw (e.1, e.2) (step_fault p (validated_there c.problem.ensures c.parts.ensures.validated) c.args.stages c.args.decided _ c.args.successors.now.nodes.now c.args.successors.now.weights.now c.requires.known c.requires.counted c.requires.small c.loop-i.i inside c.loop-i.sum c.loop-i.invariant c.in_err-cost.field-0.0 c.in_err-cost.ensures.value)

pub successor_costs-returns-in_err-cost-clause-cost : goal.successor_costs-returns-in_err-cost-clause-cost
successor_costs-returns-in_err-cost-clause-cost g t c =
    let e = err_from_is_err_and c.from_residual.result c.from_residual.ensures.1 in
    rw e.1 tt

pub successor_costs-returns-in_err-cost-clause-infeasible : goal.successor_costs-returns-in_err-cost-clause-infeasible
successor_costs-returns-in_err-cost-clause-infeasible g t c =
    let e = err_from_is_err_and c.from_residual.result c.from_residual.ensures.1 in
    rw (e.1, e.2) (infeasible_on Walked Walked c.in_err-cost.field-0.0 (Refutes c.args.course.now.planner.now.problem.now) c.in_err-cost.ensures.infeasible)

pub successor_costs-add_cost-sum-requires : goal.successor_costs-add_cost-sum-requires
successor_costs-add_cost-sum-requires g t c =
    let p = c.args.course.now.planner.now.problem.now in
    let inside : c.loop-i.i < length c.args.successors.now.nodes.now = omega (arith, c.loop-i-test.true) in
    step_adds p (validated_there c.problem.ensures c.parts.ensures.validated) c.args.stages c.args.decided _ c.args.successors.now.nodes.now c.args.successors.now.weights.now c.requires.known c.requires.counted c.requires.small c.loop-i.i inside c.loop-i.sum c.loop-i.invariant c.in_ok-cost.cost c.in_ok-cost.ensures.cost

pub successor_costs-loop-i-preserved : goal.successor_costs-loop-i-preserved
successor_costs-loop-i-preserved g t c =
    let p = c.args.course.now.planner.now.problem.now in
    let inside : c.loop-i.i < length c.args.successors.now.nodes.now = omega (arith, c.loop-i-test.true) in
    step_next p (validated_there c.problem.ensures c.parts.ensures.validated) c.args.stages c.args.decided _ c.args.successors.now.nodes.now c.args.successors.now.weights.now c.requires.known c.requires.counted c.requires.small c.loop-i.i inside c.loop-i.sum c.loop-i.invariant c.in_ok-cost.cost c.add_cost-sum.result c.in_ok-cost.ensures.cost c.in_ok-cost.ensures.value c.add_cost-sum.ensures

pub successor_costs-returns-clause-value : goal.successor_costs-returns-clause-value
successor_costs-returns-clause-value g t c =
    (steps_last c.args.course.now.planner.now.problem.now c.args.stages c.args.decided _ c.args.successors.now.nodes.now c.args.successors.now.weights.now c.loop-i.i c.loop-i.sum c.requires.counted (omega (arith, c.loop-i-test.false)) c.loop-i.invariant).0

pub successor_costs-returns-clause-cost : goal.successor_costs-returns-clause-cost
successor_costs-returns-clause-cost g t c =
    (steps_last c.args.course.now.planner.now.problem.now c.args.stages c.args.decided _ c.args.successors.now.nodes.now c.args.successors.now.weights.now c.loop-i.i c.loop-i.sum c.requires.counted (omega (arith, c.loop-i-test.false)) c.loop-i.invariant).1

pub branch_cost-returns-in_err-found-clause-value : goal.branch_cost-returns-in_err-found-clause-value
branch_cost-returns-in_err-found-clause-value g t c =
    let s : PathStep = record { node = c.args.input.now.node; realization = c.args.realization } in
    let p = c.args.course.now.planner.now.problem.now in
    let dec = decide_branch (g.V.Solver.does c.args.course.now.planner.now.solver.now) p c.args.course.now.pools.now.lists in
    let go : List ℤ → ℕ → ℕ → Result Walked Stop = tree_cost dec (problem_of p) c.args.stages in
    let e = err_from_is_err_and c.from_residual.result c.from_residual.ensures.1 in
    rw (e.1, e.2) (undecided_fault dec go (node_at (problem_of p) c.args.input.now.node) c.args.input.now.run s c.args.input.now.values.now c.args.input.now.state.now c.in_err-found.field-0.0 c.in_err-found.ensures.value)

pub branch_cost-returns-in_err-found-clause-cost : goal.branch_cost-returns-in_err-found-clause-cost
branch_cost-returns-in_err-found-clause-cost g t c =
    let e = err_from_is_err_and c.from_residual.result c.from_residual.ensures.1 in
    rw e.1 tt

pub branch_cost-returns-in_err-found-clause-infeasible : goal.branch_cost-returns-in_err-found-clause-infeasible
branch_cost-returns-in_err-found-clause-infeasible g t c =
    let e = err_from_is_err_and c.from_residual.result c.from_residual.ensures.1 in
    rw (e.1, e.2) (infeasible_on Decided Walked c.in_err-found.field-0.0 (Refutes c.args.course.now.planner.now.problem.now) c.in_err-found.ensures.infeasible)

pub branch_cost-overflow_add-input : goal.branch_cost-overflow_add-input
branch_cost-overflow_add-input g t c =
    omega (arith, c.requires.small.branches)

pub branch_cost-successor_costs-costs-requires : goal.branch_cost-successor_costs-costs-requires
branch_cost-successor_costs-costs-requires g t c =
    let b = successors (validated_there c.problem-problem.ensures c.parts.ensures.validated) c.requires.known (node_there c.args.input.now.node c.node-own.result.now c.problem-problem.ensures c.node-own.ensures) c.as_slice.ensures c.as_slice-2.ensures in
    let p = c.args.course.now.planner.now.problem.now in
    let ms = c.as_slice.result.now in
    let ls = successors_of ms c.as_slice-2.result.now in
    let known : list_all (λ m. nat_lt m (length p.parts.nodes)) ms ≡ true = behind_known b in
    let counted : length c.as_slice-2.result.now ≡ length ms = behind_counted b in
    let state : (m : ℕ) → Contains ms m → IsStateAt p m c.as_slice-next.result.now = behind_state b _ _ c.as_slice-next.ensures c.in_ok-found.ensures.next in
    let small : IsSmall p c.args.stages (successor_denominator p c.args.stages ls) (sum (successor_weights ls)) (c.args.input.now.run + 1) (successor_branches p c.args.stages ls) = behind_less b c.args.stages c.args.input.now.run c.requires.small in
    search rules

pub branch_cost-returns-in_err-costs-clause-value : goal.branch_cost-returns-in_err-costs-clause-value
branch_cost-returns-in_err-costs-clause-value g t c =
    let b = successors (validated_there c.problem-problem.ensures c.parts.ensures.validated) c.requires.known (node_there c.args.input.now.node c.node-own.result.now c.problem-problem.ensures c.node-own.ensures) c.as_slice.ensures c.as_slice-2.ensures in
    let s : PathStep = record { node = c.args.input.now.node; realization = c.args.realization } in
    let p = c.args.course.now.planner.now.problem.now in
    let dec = decide_branch (g.V.Solver.does c.args.course.now.planner.now.solver.now) p c.args.course.now.pools.now.lists in
    let go : List ℤ → ℕ → ℕ → Result Walked Stop = tree_cost dec (problem_of p) c.args.stages in
    let e = err_from_is_err_and c.from_residual-in_err-costs.result c.from_residual-in_err-costs.ensures.1 in
    rw (e.1, e.2) (behind_fault dec go (node_at (problem_of p) c.args.input.now.node) c.args.input.now.run s c.args.input.now.values.now c.args.input.now.state.now c.in_ok-found.found c.in_err-costs.field-0.0 c.in_ok-found.ensures.value (c.in_err-costs.ensures.value _ (behind_gives b c.args.stages c.args.input.now.run go c.in_ok-found.found.next c.as_slice-next.result.now c.successor_costs-costs.result c.as_slice-next.ensures c.successor_costs-costs.ensures.value)))

pub branch_cost-returns-in_err-costs-clause-cost : goal.branch_cost-returns-in_err-costs-clause-cost
branch_cost-returns-in_err-costs-clause-cost g t c =
    let e = err_from_is_err_and c.from_residual-in_err-costs.result c.from_residual-in_err-costs.ensures.1 in
    rw e.1 tt

pub branch_cost-returns-in_err-costs-clause-infeasible : goal.branch_cost-returns-in_err-costs-clause-infeasible
branch_cost-returns-in_err-costs-clause-infeasible g t c =
    let e = err_from_is_err_and c.from_residual-in_err-costs.result c.from_residual-in_err-costs.ensures.1 in
    rw (e.1, e.2) (infeasible_behind Walked Walked c.in_err-costs.field-0.0 c.successor_costs-costs.result (Refutes c.args.course.now.planner.now.problem.now) (λ a h. c.in_err-costs.ensures.infeasible a (ap Err h)) c.successor_costs-costs.ensures.infeasible)

pub branch_cost-stage_cost-stage-requires : goal.branch_cost-stage_cost-stage-requires
branch_cost-stage_cost-stage-requires g t c =
    let p = c.args.course.now.planner.now.problem.now in
    let m = c.args.input.now.node in
    let n = node_at (problem_of p) m in
    let same = sym c.problem-problem.ensures in
    let inside : InBox S n.decision_low n.decision_high c.as_slice-decisions.result.now = subst (λ (u : List ℤ). InBox S n.decision_low n.decision_high u) (sym c.as_slice-decisions.ensures) c.in_ok-found.ensures.inside in
    record {
      known = subst (λ (r : Validated). m < length r.parts.nodes) same c.requires.known;
      decisions = subst (λ (r : Validated). InBox S (node_at (problem_of r) m).decision_low (node_at (problem_of r) m).decision_high c.as_slice-decisions.result.now) same inside;
      state = subst (λ (r : Validated). IsStateAt r m c.args.input.now.state.now) same c.requires.state;
      values = subst (λ (r : Validated). are_values (subproblem_of r m) c.args.input.now.values.now ≡ true) same c.requires.values;
    }

pub branch_cost-add_stage-requires : goal.branch_cost-add_stage-requires
branch_cost-add_stage-requires g t c =
    let b = successors (validated_there c.problem-problem.ensures c.parts.ensures.validated) c.requires.known (node_there c.args.input.now.node c.node-own.result.now c.problem-problem.ensures c.node-own.ensures) c.as_slice.ensures c.as_slice-2.ensures in
    let w = c.in_ok-costs.costs in
    let fits = behind_fits b c.args.stages c.args.input.now.run c.requires.small w c.successor_costs-costs.result (c.in_ok-costs.ensures.ok w refl) c.successor_costs-costs.ensures.cost _ _ _ _ c.requires.stage c.in_ok-found.ensures.inside c.as_slice-decisions.ensures c.stage_cost-stage.result (stage_there c.args.input.now.node c.stage_cost-stage.result c.as_slice-decisions.result.now c.args.input.now.state.now c.args.input.now.values.now c.problem-problem.ensures c.stage_cost-stage.ensures) in
    rw (to_z-of_z w128 c.stage_cost-stage.result (record { sfits = c.stage_cost-stage.type_inv }), behind_weight b c.q.result (weight_there c.args.input.now.node c.q.result c.problem-problem.ensures c.q.ensures)) (record { under = fits.under; stage = fits.stage; whole = fits.whole })

pub branch_cost-returns-clause-value : goal.branch_cost-returns-clause-value
branch_cost-returns-clause-value g t c =
    let b = successors (validated_there c.problem-problem.ensures c.parts.ensures.validated) c.requires.known (node_there c.args.input.now.node c.node-own.result.now c.problem-problem.ensures c.node-own.ensures) c.as_slice.ensures c.as_slice-2.ensures in
    let s : PathStep = record { node = c.args.input.now.node; realization = c.args.realization } in
    let p = c.args.course.now.planner.now.problem.now in
    let dec = decide_branch (g.V.Solver.does c.args.course.now.planner.now.solver.now) p c.args.course.now.pools.now.lists in
    let go : List ℤ → ℕ → ℕ → Result Walked Stop = tree_cost dec (problem_of p) c.args.stages in
    let w = c.in_ok-costs.costs in
    let z = to_z-of_z w128 c.stage_cost-stage.result (record { sfits = c.stage_cost-stage.type_inv }) ∙ (stage_there c.args.input.now.node c.stage_cost-stage.result c.as_slice-decisions.result.now c.args.input.now.state.now c.args.input.now.values.now c.problem-problem.ensures c.stage_cost-stage.ensures) ∙ ap (λ (u : List ℤ). stage_cost_of (node_at (problem_of p) c.args.input.now.node) u c.args.input.now.state.now c.args.input.now.values.now) c.as_slice-decisions.ensures in
    branch_done dec go (node_at (problem_of p) c.args.input.now.node) c.args.input.now.run s c.args.input.now.values.now c.args.input.now.state.now c.in_ok-found.found w c.in_ok-found.ensures.value (c.in_ok-costs.ensures.value _ (behind_gives b c.args.stages c.args.input.now.run go c.in_ok-found.found.next c.as_slice-next.result.now c.successor_costs-costs.result c.as_slice-next.ensures c.successor_costs-costs.ensures.value))
    ∙ ap (λ (w : Walked). Ok w) (sym (c.add_stage.ensures ∙ ap₂ (λ (a : ℕ) (z : ℤ). add_stage a z w) (behind_weight b c.q.result (weight_there c.args.input.now.node c.q.result c.problem-problem.ensures c.q.ensures)) z))

pub branch_cost-returns-clause-cost : goal.branch_cost-returns-clause-cost
branch_cost-returns-clause-cost g t c =
    let b = successors (validated_there c.problem-problem.ensures c.parts.ensures.validated) c.requires.known (node_there c.args.input.now.node c.node-own.result.now c.problem-problem.ensures c.node-own.ensures) c.as_slice.ensures c.as_slice-2.ensures in
    let w = c.in_ok-costs.costs in
    rw (c.add_stage.ensures ∙ ap₂ (λ (a : ℕ) (z : ℤ). add_stage a z w) (behind_weight b c.q.result (weight_there c.args.input.now.node c.q.result c.problem-problem.ensures c.q.ensures)) (to_z-of_z w128 c.stage_cost-stage.result (record { sfits = c.stage_cost-stage.type_inv })))
    (behind_cost b c.args.stages c.args.input.now.run c.requires.small w c.successor_costs-costs.result (c.in_ok-costs.ensures.ok w refl) c.successor_costs-costs.ensures.cost _ _ _ _ c.requires.stage c.in_ok-found.ensures.inside c.as_slice-decisions.ensures c.stage_cost-stage.result (stage_there c.args.input.now.node c.stage_cost-stage.result c.as_slice-decisions.result.now c.args.input.now.state.now c.args.input.now.values.now c.problem-problem.ensures c.stage_cost-stage.ensures))

pub branch_costs-overflow_cast-realization-end : goal.branch_costs-overflow_cast-realization-end
branch_costs-overflow_cast-realization-end g t c =
    let q = seen c.args.course.now.planner.now.problem.now c.args.node c.node.result.now (validated_there c.problem-problem.ensures c.parts.ensures.validated) c.requires.known (node_there c.args.node c.node.result.now c.problem-problem.ensures c.node.ensures) in
    omega (arith, ap (λ (ks : List ℕ). length ks) c.as_slice-weights.ensures, q.few)

pub branch_costs-loop-realization-init : goal.branch_costs-loop-realization-init
branch_costs-loop-realization-init g t c = rw c.no_cost-sum.ensures (branches_first _ _ _ _ _ _ _ _ _ _ _)

pub branch_costs-bounds-values-realization : goal.branch_costs-bounds-values-realization
branch_costs-bounds-values-realization g t c =
    let q = seen c.args.course.now.planner.now.problem.now c.args.node c.node.result.now (validated_there c.problem-problem.ensures c.parts.ensures.validated) c.requires.known (node_there c.args.node c.node.result.now c.problem-problem.ensures c.node.ensures) in
    let counted = ap (λ (ks : List ℕ). length ks) c.as_slice-weights.ensures in
    let values = c.as_slice-values.ensures ∙ ap (λ (a : nodes.Node). a.values) (node_same _ _ _ (node_there c.args.node c.node-2.result.now c.problem-problem.ensures c.node-2.ensures) (node_there c.args.node c.node.result.now c.problem-problem.ensures c.node.ensures)) in
    omega (arith, c.loop-realization-test.true, counted, ap (λ (ks : List (List ℤ)). length ks) values, q.valued)

pub branch_costs-branch_cost-requires : goal.branch_costs-branch_cost-requires
branch_costs-branch_cost-requires g t c =
    let p = c.args.course.now.planner.now.problem.now in
    let k = c.args.stages in
    let x = c.args.state.now in
    let m = c.args.node in
    let i = c.loop-realization.realization in
    let v = c.as_slice.result.now in
    let n = node_at (problem_of p) m in
    let own = c.node.result.now in
    let q : Seen p c.args.node own = seen p c.args.node own (validated_there c.problem-problem.ensures c.parts.ensures.validated) c.requires.known (node_there c.args.node c.node.result.now c.problem-problem.ensures c.node.ensures) in
    let read = read_at p c.args.node own c.node-2.result.now c.as_slice-weights.result.now c.as_slice-values.result.now c.loop-realization.realization c.index-values-realization.result c.as_slice.result.now c.as_slice-weights.ensures c.as_slice-values.ensures (node_there c.args.node c.node.result.now c.problem-problem.ensures c.node.ensures) (node_there c.args.node c.node-2.result.now c.problem-problem.ensures c.node-2.ensures) (omega (arith, c.loop-realization-test.true)) c.index-values-realization.is c.as_slice.ensures in
    let values : are_values (subproblem_of p m) v ≡ true = values_here p m i own v (validated_there c.problem-problem.ensures c.parts.ensures.validated) c.requires.known (node_there c.args.node c.node.result.now c.problem-problem.ensures c.node.ensures) read.inside read.values in
    let long : i < length n.realizations = omega (arith, read.inside, ap (λ rs. length rs) q.realizations, length-realizations_of own.weights own.values q.valued) in
    let stage : (u : List ℤ) → InBox S n.decision_low n.decision_high u → nat_abs (stage_cost_of n u x v) ≤ most_cost p 1 =
    λ u box. subst (λ (a : List ℤ). nat_abs (stage_cost_of n u x a) ≤ most_cost p 1) (realization_values p m i own v q read.inside read.values) (branch_within p m i no_realization u x (validated_there c.problem-problem.ensures c.parts.ensures.validated) c.requires.known long c.requires.state box) in
    let small : IsSmall p (suc k) (successor_weight n * successor_denominator p k n.successors) 1 c.loop-realization.sum.decided (1 + successor_branches p k n.successors) = branch_small p (suc c.args.stages) _ _ c.args.decided _ _ c.args.node c.args.state.now own q c.requires.small c.loop-realization.realization _ _ read c.loop-realization.sum c.loop-realization.invariant in
    search rules

pub branch_costs-returns-in_err-cost-clause-value : goal.branch_costs-returns-in_err-cost-clause-value
branch_costs-returns-in_err-cost-clause-value g t c =
    let p = c.args.course.now.planner.now.problem.now in
    let q = seen p c.args.node c.node.result.now (validated_there c.problem-problem.ensures c.parts.ensures.validated) c.requires.known (node_there c.args.node c.node.result.now c.problem-problem.ensures c.node.ensures) in
    let read = read_at p c.args.node c.node.result.now c.node-2.result.now c.as_slice-weights.result.now c.as_slice-values.result.now c.loop-realization.realization c.index-values-realization.result c.as_slice.result.now c.as_slice-weights.ensures c.as_slice-values.ensures (node_there c.args.node c.node.result.now c.problem-problem.ensures c.node.ensures) (node_there c.args.node c.node-2.result.now c.problem-problem.ensures c.node-2.ensures) (omega (arith, c.loop-realization-test.true)) c.index-values-realization.is c.as_slice.ensures in
    let e = err_from_is_err_and c.from_residual.result c.from_residual.ensures.1 in
    rw (e.1, e.2) (adds_fault p (suc c.args.stages) _ _ c.args.decided _ _ c.args.node c.args.state.now c.node.result.now q c.requires.small c.loop-realization.realization _ _ read c.loop-realization.sum c.loop-realization.invariant c.in_err-cost.field-0.0 c.in_err-cost.ensures.value)

pub branch_costs-returns-in_err-cost-clause-cost : goal.branch_costs-returns-in_err-cost-clause-cost
branch_costs-returns-in_err-cost-clause-cost g t c =
    let e = err_from_is_err_and c.from_residual.result c.from_residual.ensures.1 in
    rw e.1 tt

pub branch_costs-returns-in_err-cost-clause-infeasible : goal.branch_costs-returns-in_err-cost-clause-infeasible
branch_costs-returns-in_err-cost-clause-infeasible g t c =
    let e = err_from_is_err_and c.from_residual.result c.from_residual.ensures.1 in
    rw (e.1, e.2) (infeasible_on Walked Walked c.in_err-cost.field-0.0 (Refutes c.args.course.now.planner.now.problem.now) c.in_err-cost.ensures.infeasible)

pub branch_costs-add_branch-sum-requires : goal.branch_costs-add_branch-sum-requires
branch_costs-add_branch-sum-requires g t c =
    let p = c.args.course.now.planner.now.problem.now in
    let q = seen p c.args.node c.node.result.now (validated_there c.problem-problem.ensures c.parts.ensures.validated) c.requires.known (node_there c.args.node c.node.result.now c.problem-problem.ensures c.node.ensures) in
    let read = read_at p c.args.node c.node.result.now c.node-2.result.now c.as_slice-weights.result.now c.as_slice-values.result.now c.loop-realization.realization c.index-values-realization.result c.as_slice.result.now c.as_slice-weights.ensures c.as_slice-values.ensures (node_there c.args.node c.node.result.now c.problem-problem.ensures c.node.ensures) (node_there c.args.node c.node-2.result.now c.problem-problem.ensures c.node-2.ensures) (omega (arith, c.loop-realization-test.true)) c.index-values-realization.is c.as_slice.ensures in
    record {
      weighted = adds_weighted p (suc c.args.stages) _ _ c.args.decided _ _ c.args.node c.args.state.now c.node.result.now q c.requires.small c.loop-realization.realization _ _ read c.loop-realization.sum c.loop-realization.invariant c.in_ok-cost.cost c.in_ok-cost.ensures.cost;
      whole = adds_whole p (suc c.args.stages) _ _ c.args.decided _ _ c.args.node c.args.state.now c.node.result.now q c.requires.small c.loop-realization.realization _ _ read c.loop-realization.sum c.loop-realization.invariant c.in_ok-cost.cost c.in_ok-cost.ensures.cost;
    }

pub branch_costs-loop-realization-preserved : goal.branch_costs-loop-realization-preserved
branch_costs-loop-realization-preserved g t c =
    let p = c.args.course.now.planner.now.problem.now in
    let q = seen p c.args.node c.node.result.now (validated_there c.problem-problem.ensures c.parts.ensures.validated) c.requires.known (node_there c.args.node c.node.result.now c.problem-problem.ensures c.node.ensures) in
    let read = read_at p c.args.node c.node.result.now c.node-2.result.now c.as_slice-weights.result.now c.as_slice-values.result.now c.loop-realization.realization c.index-values-realization.result c.as_slice.result.now c.as_slice-weights.ensures c.as_slice-values.ensures (node_there c.args.node c.node.result.now c.problem-problem.ensures c.node.ensures) (node_there c.args.node c.node-2.result.now c.problem-problem.ensures c.node-2.ensures) (omega (arith, c.loop-realization-test.true)) c.index-values-realization.is c.as_slice.ensures in
    adds_next p (suc c.args.stages) _ _ c.args.decided _ _ c.args.node c.args.state.now c.node.result.now q c.requires.small c.loop-realization.realization _ _ read c.loop-realization.sum c.loop-realization.invariant c.in_ok-cost.cost c.in_ok-cost.ensures.cost c.add_branch-sum.result c.in_ok-cost.ensures.value c.add_branch-sum.ensures

pub branch_costs-returns-clause-value : goal.branch_costs-returns-clause-value
branch_costs-returns-clause-value g t c = (branches_ended c.args.course.now.planner.now.problem.now (suc c.args.stages) _ _ c.args.decided _ _ c.args.node c.args.state.now c.node.result.now c.as_slice-weights.result.now c.loop-realization.realization c.loop-realization.sum (seen c.args.course.now.planner.now.problem.now c.args.node c.node.result.now (validated_there c.problem-problem.ensures c.parts.ensures.validated) c.requires.known (node_there c.args.node c.node.result.now c.problem-problem.ensures c.node.ensures)) c.as_slice-weights.ensures (omega (arith, c.loop-realization-test.false)) c.loop-realization.invariant).0

pub branch_costs-returns-clause-cost : goal.branch_costs-returns-clause-cost
branch_costs-returns-clause-cost g t c = (branches_ended c.args.course.now.planner.now.problem.now (suc c.args.stages) _ _ c.args.decided _ _ c.args.node c.args.state.now c.node.result.now c.as_slice-weights.result.now c.loop-realization.realization c.loop-realization.sum (seen c.args.course.now.planner.now.problem.now c.args.node c.node.result.now (validated_there c.problem-problem.ensures c.parts.ensures.validated) c.requires.known (node_there c.args.node c.node.result.now c.problem-problem.ensures c.node.ensures)) c.as_slice-weights.ensures (omega (arith, c.loop-realization-test.false)) c.loop-realization.invariant).1

pub tree_cost-returns-then-stages-eq0-clause-value : goal.tree_cost-returns-then-stages-eq0-clause-value
tree_cost-returns-then-stages-eq0-clause-value g t c =
    let p = c.args.course.now.planner.now.problem.now in
    let dec = decide_branch (g.V.Solver.does c.args.course.now.planner.now.solver.now) p c.args.course.now.pools.now.lists in
    tree_none dec (problem_of p) c.args.stages 0 c.args.state.now c.args.decided c.args.node c.if-stages-eq0.true ∙ ap (λ (a : Walked). Ok a) (sym c.no_cost.ensures)

pub tree_cost-returns-then-stages-eq0-clause-cost : goal.tree_cost-returns-then-stages-eq0-clause-cost
tree_cost-returns-then-stages-eq0-clause-cost g t c = rw c.no_cost.ensures (none_cost c.args.course.now.planner.now.problem.now c.args.stages c.args.node c.args.decided c.if-stages-eq0.true)

pub tree_cost-branch_costs-requires : goal.tree_cost-branch_costs-requires
tree_cost-branch_costs-requires g t c =
    let small = tree_less c.args.course.now.planner.now.problem.now (validated_there c.problem-problem.ensures c.parts.ensures.validated) c.args.node c.requires.known c.args.stages c.args.decided (omega (arith, c.if-stages-eq0.false)) c.requires.small in
    search rules

pub tree_cost-returns-in_err-sum-clause-value : goal.tree_cost-returns-in_err-sum-clause-value
tree_cost-returns-in_err-sum-clause-value g t c =
    let p = c.args.course.now.planner.now.problem.now in
    let dec = decide_branch (g.V.Solver.does c.args.course.now.planner.now.solver.now) p c.args.course.now.pools.now.lists in
    let e = err_from_is_err_and c.from_residual.result c.from_residual.ensures.1 in
    rw (e.1, e.2) (tree_fault dec (problem_of p) c.args.stages (c.args.stages - 1) c.args.state.now c.args.decided c.args.node (omega (arith, c.if-stages-eq0.false)) c.in_err-sum.field-0.0 c.in_err-sum.ensures.value)

pub tree_cost-returns-in_err-sum-clause-cost : goal.tree_cost-returns-in_err-sum-clause-cost
tree_cost-returns-in_err-sum-clause-cost g t c =
    let e = err_from_is_err_and c.from_residual.result c.from_residual.ensures.1 in
    rw e.1 tt

pub tree_cost-returns-in_err-sum-clause-infeasible : goal.tree_cost-returns-in_err-sum-clause-infeasible
tree_cost-returns-in_err-sum-clause-infeasible g t c =
    let e = err_from_is_err_and c.from_residual.result c.from_residual.ensures.1 in
    rw (e.1, e.2) (infeasible_on Walked Walked c.in_err-sum.field-0.0 (Refutes c.args.course.now.planner.now.problem.now) c.in_err-sum.ensures.infeasible)

pub tree_cost-total-requires : goal.tree_cost-total-requires
tree_cost-total-requires g t c = tree_light c.args.course.now.planner.now.problem.now (validated_there c.problem-problem.ensures c.parts.ensures.validated) c.args.node c.requires.known c.args.stages c.args.decided (omega (arith, c.if-stages-eq0.false)) c.node.result.now (node_there c.args.node c.node.result.now c.problem-problem.ensures c.node.ensures) c.as_slice.result.now c.as_slice.ensures

pub tree_cost-share-requires : goal.tree_cost-share-requires
tree_cost-share-requires g t c = tree_fits c.args.course.now.planner.now.problem.now (validated_there c.problem-problem.ensures c.parts.ensures.validated) c.args.node c.requires.known c.args.stages c.args.decided (omega (arith, c.if-stages-eq0.false)) c.node.result.now (node_there c.args.node c.node.result.now c.problem-problem.ensures c.node.ensures) c.as_slice.result.now c.as_slice.ensures c.total.result c.total.ensures c.in_ok-sum.sum c.in_ok-sum.ensures.cost c.requires.small

pub tree_cost-returns-clause-value : goal.tree_cost-returns-clause-value
tree_cost-returns-clause-value g t c =
    let p = c.args.course.now.planner.now.problem.now in
    let dec = decide_branch (g.V.Solver.does c.args.course.now.planner.now.solver.now) p c.args.course.now.pools.now.lists in
    tree_done dec (problem_of p) c.args.stages (c.args.stages - 1) c.args.state.now c.args.decided c.args.node (omega (arith, c.if-stages-eq0.false)) c.in_ok-sum.sum c.in_ok-sum.ensures.value
    ∙ ap (λ (a : Walked). Ok a) (tree_share c.args.course.now.planner.now.problem.now (validated_there c.problem-problem.ensures c.parts.ensures.validated) c.args.node c.requires.known c.args.stages c.args.decided (omega (arith, c.if-stages-eq0.false)) c.node.result.now (node_there c.args.node c.node.result.now c.problem-problem.ensures c.node.ensures) c.as_slice.result.now c.as_slice.ensures c.total.result c.total.ensures c.in_ok-sum.sum c.share.result c.share.ensures)

pub tree_cost-returns-clause-cost : goal.tree_cost-returns-clause-cost
tree_cost-returns-clause-cost g t c = tree_cost_is c.args.course.now.planner.now.problem.now (validated_there c.problem-problem.ensures c.parts.ensures.validated) c.args.node c.requires.known c.args.stages c.args.decided (omega (arith, c.if-stages-eq0.false)) c.node.result.now (node_there c.args.node c.node.result.now c.problem-problem.ensures c.node.ensures) c.as_slice.result.now c.as_slice.ensures c.total.result c.total.ensures c.in_ok-sum.sum c.in_ok-sum.ensures.cost c.share.result c.share.ensures
