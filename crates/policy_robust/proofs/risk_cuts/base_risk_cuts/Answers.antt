use Rattle.std.proofs.Common.{◌∙◌, sym, ap, subst, length, ◌≤◌, replicate, [], List, ℕ, arith}
use Rattle.std.proofs.lemmas.Result.{err_from_is_err_and}
use Rattle.problem.proofs.ValidatedFacts.{parts-is_validated, few_nodes}
use Rattle.problem.specs.declared.parts.ProblemParts.{ProblemParts}
use Rattle.theory.specs.declared.cut.Cut.{Cut}
use Rattle.policy_robust.proofs.Placed.{BaseLeft, base_left, base_known, base_fit, base_more, base_stops, base_done, base_fits}
use Rattle.policy_robust.proofs.risk_cuts.base_risk_cuts.Goals as goal

pub overflow_cast-len : goal.overflow_cast-len
overflow_cast-len c =
    let few : length c.args.problem.now.parts.nodes ≤ 1000 = few_nodes c.args.problem.now.parts (parts-is_validated c.args.problem.now c.order-order.ensures.validated) in
    let len = c.len.ensures ∙ ap (λ (r : ProblemParts). length r.nodes) c.parts.ensures.value in
    grind (arith, few, len)

pub loop-node-init : goal.loop-node-init
loop-node-init c =
    let len = c.len.ensures ∙ ap (λ (r : ProblemParts). length r.nodes) c.parts.ensures.value in
    let lists = c.in_ok-risk_cuts.ensures ∙ ap (λ (k : ℕ). replicate k []) len in
    subst (λ (risk_cuts : List (List Cut)). BaseLeft c.args.problem.now c.args.alternatives.now c.order-order.result.now 0 risk_cuts) (sym lists) (base_left c.args.problem.now c.args.alternatives.now c.order-order.result.now c.order-order.ensures.validated c.order-order.ensures.value)

pub add_base-requires-clause-known : goal.add_base-requires-clause-known
add_base-requires-clause-known c = base_known c.args.problem.now c.args.alternatives.now c.order-order.result.now c.loop-node.node-index c.loop-node.risk_cuts.lists c.loop-node.invariant c.loop-node-test.true

pub add_base-requires-clause-fit : goal.add_base-requires-clause-fit
add_base-requires-clause-fit c = base_fit c.args.problem.now c.args.alternatives.now c.order-order.result.now c.loop-node.node-index c.loop-node.risk_cuts.lists c.loop-node.invariant c.loop-node-test.true

pub returns-in_err-add_base-clause-value : goal.returns-in_err-add_base-clause-value
returns-in_err-add_base-clause-value c =
    let l = c.loop-node in
    let e = err_from_is_err_and c.from_residual-in_err-add_base.result c.from_residual-in_err-add_base.ensures.1 in
    rw (e.1, e.2) (base_stops c.args.problem.now c.args.alternatives.now c.order-order.result.now l.node-index l.risk_cuts.lists l.invariant c.loop-node-test.true c.in_err-add_base.field-0.0 c.in_err-add_base.ensures)

pub loop-node-preserved : goal.loop-node-preserved
loop-node-preserved c =
    let l = c.loop-node in
    base_more c.args.problem.now c.args.alternatives.now c.order-order.result.now l.node-index l.risk_cuts.lists l.invariant c.loop-node-test.true c.order-order.ensures.validated c.requires.listed c.add_base.new.risk_cuts.lists c.in_ok-add_base.ensures

pub returns-clause-value : goal.returns-clause-value
returns-clause-value c = let l = c.loop-node in base_done c.args.problem.now c.args.alternatives.now c.order-order.result.now l.node-index l.risk_cuts.lists l.invariant (omega (arith, c.loop-node-test.false))

pub returns-clause-fit : goal.returns-clause-fit
returns-clause-fit c = let l = c.loop-node in base_fits c.args.problem.now c.args.alternatives.now c.order-order.result.now l.node-index l.risk_cuts.lists l.invariant (omega (arith, c.loop-node-test.false))
