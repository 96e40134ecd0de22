use Rattle.std.proofs.Common.{◌∙◌, ℕ, ◌+◌, List, get_or, take, sym, ap, subst, arith}
use Rattle.policy_evaluate.proofs.Filling.{IsFilled, filled_all, filled_before, filled_more}
use Rattle.policy_evaluate.proofs.Ordered.{ordered_there}
use Rattle.policy_evaluate.proofs.tree_numbers.tree_table.Goals as goal

pub at_node-value-requires-clause-known : goal.at_node-value-requires-clause-known
at_node-value-requires-clause-known g c = ordered_there c.args.problem.now c.order-order.ensures.validated c.order-order.result.now c.order-order.ensures.value c.loop-node.node-index c.loop-node-test.true

pub at_node-value-requires-clause-behind : goal.at_node-value-requires-clause-behind
at_node-value-requires-clause-behind g c = λ m led n low.
    let p = c.args.problem.now in
    let before = filled_before p c.order-order.ensures.validated c.order-order.result.now c.order-order.ensures.value (g.N.TreeNumber.number_of c.args.number.now p) c.args.cap c.loop-node.node-index c.loop-node.table c.loop-node-test.true c.loop-node.invariant in
    ap (λ (ks : List ℕ). get_or ks m 0) c.as_slice.ensures ∙ before m led n low

pub set-requires : goal.set-requires
set-requires g c =
    let there = ordered_there c.args.problem.now c.order-order.ensures.validated c.order-order.result.now c.order-order.ensures.value c.loop-node.node-index c.loop-node-test.true in
    omega (arith, there, c.loop-node.invariant.count)

pub loop-node-preserved : goal.loop-node-preserved
loop-node-preserved g c =
    let p = c.args.problem.now in
    subst (λ (table : List ℕ). IsFilled p (g.N.TreeNumber.number_of c.args.number.now p) c.args.cap (take (c.loop-node.node-index + 1) c.order-order.result.now) table) (sym c.set.ensures)
    (filled_more p c.order-order.ensures.validated c.order-order.result.now c.order-order.ensures.value (g.N.TreeNumber.number_of c.args.number.now p) c.args.cap c.loop-node.node-index c.at_node-value.result c.loop-node.table c.loop-node-test.true c.loop-node.invariant c.at_node-value.ensures)

pub returns : goal.returns
returns g c =
    let p = c.args.problem.now in
    filled_all p c.order-order.ensures.validated c.order-order.result.now c.order-order.ensures.value (g.N.TreeNumber.number_of c.args.number.now p) c.args.cap c.loop-node.node-index c.loop-node.table c.loop-node-test.false c.loop-node.invariant
