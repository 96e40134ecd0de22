use Rattle.std.proofs.Common.{ℕ, [], List, get_or, ap, ◌∙◌}
use Rattle.plan_stage.proofs.NearBy.{order_at}
use Rattle.plan_stage.proofs.planner.Planner.order.Goals as goal

pub returns : goal.returns
returns g c =
    c.order.ensures
    ∙ ap (λ (orders : List (List ℕ)). get_or orders c.args.node []) c.args.self.now.ready.orders_ready
    ∙ order_at c.args.self.now.problem.now.parts.nodes c.args.node c.requires
