use Rattle.std.proofs.Common.{◌≡◌, ℕ, true, List, length, sym, ap, subst, ◌∙◌, Result, arith}
use Rattle.std.proofs.lemmas.List.{length-map}
use Rattle.problem.specs.Validated.{Validated, is_validated}
use Rattle.problem.proofs.ValidatedFacts.{parts-is_validated, few_nodes}
use Rattle.theory.specs.declared.cut.Cut.{Cut}
use Rattle.cut_pool.specs.AtNodes.{PoolsFit}
use Rattle.plan_answer.specs.declared.plan_fault.PlanFault.{PlanFault}
use Rattle.plan_answer.specs.Faults.{Stops}
use Rattle.plan_train.specs.Drawing.{paths_from}
use Rattle.plan_train.specs.Growing.{ExtendsPools}
use Rattle.plan_train.specs.Stepping.{Stepped}
use Rattle.plan_train.proofs.Forwards.{step_is}
use Rattle.plan_train.proofs.Growing.{cut_back-extended, extends_nothing}
use Rattle.plan_train.proofs.iterations.iteration.Goals as goal

pub counts-requires : goal.counts-requires
counts-requires g c =
    let few = few_nodes c.args.planner.now.problem.now.parts (parts-is_validated c.args.planner.now.problem.now (subst (λ (p : Validated). is_validated p ≡ true) c.problem-problem.ensures c.parts.ensures.validated)) in
    omega (arith, few, c.requires.fit.lists)

pub returns-in-Ok-clause-value : goal.returns-in-Ok-clause-value
returns-in-Ok-clause-value g c =
    let v = g.V.Solver.does c.args.planner.now.solver.now in
    let drawn = step_is v c.args.planner.now.problem.now c.args.pools.now.lists c.args.draw.seed c.args.draw.batch c.args.draw.iteration c.first_stream-first.result c.in_ok-paths.paths c.as_slice.result.now c.first_stream-first.ensures.value (c.in_ok-paths.ensures.value ∙ ap (λ (p : Validated). paths_from p c.args.draw.seed c.first_stream-first.result c.args.draw.batch) c.problem-problem.ensures) c.as_slice.ensures in
    sym drawn ∙ c.in-Ok.ensures.value

pub cut_back-requires-clause-nodes : goal.cut_back-requires-clause-nodes
cut_back-requires-clause-nodes g c =
    let few = few_nodes c.args.planner.now.problem.now.parts (parts-is_validated c.args.planner.now.problem.now (subst (λ (p : Validated). is_validated p ≡ true) c.problem-problem.ensures c.parts.ensures.validated)) in
    let counted = ap (λ (ns : List ℕ). length ns) (c.as_slice-in-Err.ensures ∙ c.in_ok-counts.ensures) ∙ length-map c.args.pools.now.lists (λ (cuts : List Cut). length cuts) in
    omega (arith, few, c.requires.fit.lists, counted)

pub returns-clause-value : goal.returns-clause-value
returns-clause-value g c =
    let v = g.V.Solver.does c.args.planner.now.solver.now in
    let drawn = step_is v c.args.planner.now.problem.now c.args.pools.now.lists c.args.draw.seed c.args.draw.batch c.args.draw.iteration c.first_stream-first.result c.in_ok-paths.paths c.as_slice.result.now c.first_stream-first.ensures.value (c.in_ok-paths.ensures.value ∙ ap (λ (p : Validated). paths_from p c.args.draw.seed c.first_stream-first.result c.args.draw.batch) c.problem-problem.ensures) c.as_slice.ensures in
    subst (λ (r : Result Stepped PlanFault). Stops c.in-Err.fault r) drawn c.in-Err.ensures.value

pub returns-clause-kept : goal.returns-clause-kept
returns-clause-kept g c =
    cut_back-extended (length c.as_slice.result.now) c.args.pools.now.lists c.go_along.new.pools.lists c.cut_back.new.pools.lists c.as_slice-in-Err.result.now (c.as_slice-in-Err.ensures ∙ c.in_ok-counts.ensures) c.in-Err.ensures.extends c.cut_back.ensures.count c.cut_back.ensures.cuts

pub returns-clause-extends : goal.returns-clause-extends
returns-clause-extends g c =
    let kept = cut_back-extended (length c.as_slice.result.now) c.args.pools.now.lists c.go_along.new.pools.lists c.cut_back.new.pools.lists c.as_slice-in-Err.result.now (c.as_slice-in-Err.ensures ∙ c.in_ok-counts.ensures) c.in-Err.ensures.extends c.cut_back.ensures.count c.cut_back.ensures.cuts in
    subst (λ (pools : List (List Cut)). ExtendsPools c.args.draw.batch c.args.pools.now.lists pools) (sym kept) (extends_nothing c.args.pools.now.lists c.args.draw.batch)

pub returns-clause-fit : goal.returns-clause-fit
returns-clause-fit g c =
    let kept = cut_back-extended (length c.as_slice.result.now) c.args.pools.now.lists c.go_along.new.pools.lists c.cut_back.new.pools.lists c.as_slice-in-Err.result.now (c.as_slice-in-Err.ensures ∙ c.in_ok-counts.ensures) c.in-Err.ensures.extends c.cut_back.ensures.count c.cut_back.ensures.cuts in
    subst (λ (pools : List (List Cut)). PoolsFit c.args.planner.now.problem.now pools) (sym kept) c.requires.fit
