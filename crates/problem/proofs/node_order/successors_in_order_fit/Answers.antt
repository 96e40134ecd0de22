use Rattle.std.proofs.Common.{◌≡◌, true, length, List, ℕ, arith, ap, ◌∙◌, subst, sym}
use Rattle.base_graph.specs.Paths.{are_known}
use Rattle.problem.proofs.Ranked.{length-ranks, below_their_number}
use Rattle.problem.proofs.node_order.successors_in_order_fit.Goals as goal

pub ranked_fits-requires-clause-ranked : goal.ranked_fits-requires-clause-ranked
ranked_fits-requires-clause-ranked c =
    let own : length c.as_slice.result.now ≡ length c.args.graph.now = ap length (c.as_slice.ensures ∙ c.in-Ok.ensures.value.0) ∙ length-ranks c.args.graph.now in
    omega arith

pub ranked_fits-requires-clause-below : goal.ranked_fits-requires-clause-below
ranked_fits-requires-clause-below c =
    let below = below_their_number c.args.graph.now c.in-Ok.ranks c.in-Ok.ensures.value.0 c.in-Ok.ensures.below in
    subst (λ (rs : List ℕ). are_known (length rs) rs ≡ true) (sym c.as_slice.ensures) below
