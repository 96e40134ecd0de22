use Rattle.std.proofs.Common.{◌≡◌, ◌<◌, ◌∙◌, ℕ, List, true, length, All, ap, sym, subst, arith}
use Rattle.problem.specs.Validated.{Validated, is_validated}
use Rattle.plan_stage.specs.Orders.{node_values_at}
use Rattle.plan_backward.proofs.NodeValues.{NodeValues, values_here}
use Rattle.plan_backward.proofs.Placed.{length-order_at, order_known}
use Rattle.plan_backward.proofs.certified.Visit.order.Goals as goal

pub returns : goal.returns
returns g c =
    let p : Validated = c.args.self.now.planner.now.problem.now in
    let m : ℕ = c.args.self.now.node in
    let validated = subst (λ (q : Validated). is_validated q ≡ true) c.problem.ensures c.parts.ensures.validated in
    let here : NodeValues p m (node_values_at p.parts m) = values_here p m validated c.requires in
    let is = c.order.ensures in
    let all = ap (λ (o : List ℕ). length o) is ∙ length-order_at p.parts m in
    record {
      value = is;
      known = subst (All (λ i. i < length (node_values_at p.parts m))) (sym is) (order_known p.parts m);
      all = all;
      some = omega (arith, all, here.some);
      few = omega (arith, all, here.few);
    }
