use Rattle.std.proofs.Common.{◌∙◌, sym, ap, subst, length, get_or, ◌+◌, replicate, [], ◌≤◌, List, ℕ, arith, drop}
use Rattle.std.proofs.lemmas.List.{drop_all}
use Rattle.problem.proofs.ValidatedFacts.{parts-is_validated, few_nodes}
use Rattle.problem.specs.declared.parts.ProblemParts.{ProblemParts}
use Rattle.theory.specs.declared.cut.Cut.{Cut}
use Rattle.theory.proofs.Based.{fit-based}
use Rattle.cut_check.proofs.Standing.{Standing, standing_none, standing_all, standing_at, standing_more}
use Rattle.cut_check.proofs.base_pools.base.Goals as goal

pub overflow_cast-len : goal.overflow_cast-len
overflow_cast-len c =
    let few : length c.args.problem.now.parts.nodes ≤ 1000 = few_nodes c.args.problem.now.parts (parts-is_validated c.args.problem.now c.order-order.ensures.validated) in
    let len = c.len.ensures ∙ ap (λ (r : ProblemParts). length r.nodes) c.parts.ensures.value in
    grind (arith, few, len)

pub loop-node-init : goal.loop-node-init
loop-node-init c =
    let len = c.len.ensures ∙ ap (λ (r : ProblemParts). length r.nodes) c.parts.ensures.value in
    let lists = c.in_ok-pools.ensures ∙ ap (λ (k : ℕ). replicate k []) len in
    subst (λ (pools : List (List Cut)). Standing c.args.problem.now c.order-order.result.now pools) (sym lists)
    (subst (λ (ms : List ℕ). Standing c.args.problem.now ms (replicate (length c.args.problem.now.parts.nodes) [])) (sym c.order-order.ensures.value) (standing_none c.args.problem.now c.order-order.ensures.validated))

pub loop-node-preserved : goal.loop-node-preserved
loop-node-preserved c =
    let p = c.args.problem.now in
    let m = get_or c.order-order.result.now c.loop-node.node-index 0 in
    let ms = drop (c.loop-node.node-index + 1) c.order-order.result.now in
    let s = standing_at p c.order-order.result.now c.loop-node.node-index c.loop-node.pools.lists (omega arith) c.loop-node.invariant in
    let added = c.in_ok-add_base_cut.ensures {u = tt} in
    subst (λ (pools : List (List Cut)). Standing p ms pools) (sym added.1) (standing_more p m ms c.loop-node.pools.lists s c.order-order.ensures.validated added.0)

pub returns-clause-fit : goal.returns-clause-fit
returns-clause-fit c =
    let s = subst (λ (ms : List ℕ). Standing c.args.problem.now ms c.loop-node.pools.lists) (drop_all c.loop-node.node-index c.order-order.result.now (omega arith)) c.loop-node.invariant in
    fit-based c.args.problem.now c.loop-node.pools.lists c.order-order.ensures.validated (standing_all c.args.problem.now c.loop-node.pools.lists s)
