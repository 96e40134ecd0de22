use Rattle.std.proofs.Common.{◌≡◌, ◌<◌, ◌≤◌, ℕ, List, length, sum, true, subst, sym, ap, ◌∙◌}
use Rattle.problem.specs.Limits.{are_weights}
use Rattle.plan_draw.specs.Picked.{picked}
use Rattle.plan_draw.proofs.Draws.{node_weighty, realization_is}
use Rattle.plan_draw.proofs.paths.realization.Goals as goal

pub pick-requires-clause-some : goal.pick-requires-clause-some
pick-requires-clause-some c =
    subst (λ (ws : List ℕ). 0 < length ws) (sym c.as_slice.ensures) (node_weighty c.args.problem.now c.args.node c.node_of.result.now c.node_of.ensures.validated c.node_of.ensures.node).some

pub pick-requires-clause-weights : goal.pick-requires-clause-weights
pick-requires-clause-weights c =
    subst (λ (ws : List ℕ). are_weights ws ≡ true) (sym c.as_slice.ensures) (node_weighty c.args.problem.now c.args.node c.node_of.result.now c.node_of.ensures.validated c.node_of.ensures.node).weights

pub pick-requires-clause-total : goal.pick-requires-clause-total
pick-requires-clause-total c =
    subst (λ (ws : List ℕ). sum ws ≤ 65535) (sym c.as_slice.ensures) (node_weighty c.args.problem.now c.args.node c.node_of.result.now c.node_of.ensures.validated c.node_of.ensures.node).total

pub returns : goal.returns
returns c = c.pick.ensures.value ∙ ap (λ (ws : List ℕ). picked ws c.args.word) c.as_slice.ensures ∙ realization_is c.args.problem.now c.args.node c.node_of.result.now c.args.word c.node_of.ensures.node
