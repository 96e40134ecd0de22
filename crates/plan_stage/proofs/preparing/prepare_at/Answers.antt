use Rattle.std.proofs.Common.{ℕ, ◌<◌, List, length, get_or, subst, sym}
use Rattle.cut_pool.specs.Pooled.{Pooled}
use Rattle.plan_stage.proofs.ValidatedStages.{within-fit}
use Rattle.plan_stage.proofs.preparing.prepare_at.Goals as goal

pub out_boxes-requires-clause-known : goal.out_boxes-requires-clause-known
out_boxes-requires-clause-known c = (within-fit c.args.pools.now.lists c.of-stage.ensures.stands c.requires.fit).known_outs

pub prepare-requires : goal.prepare-requires
prepare-requires c =
    let successors : List ℕ = c.of-stage.result.node.now.successors in
    let there = (within-fit c.args.pools.now.lists c.of-stage.ensures.stands c.requires.fit).there in
    let at : c.loop-successor.successor-index < length successors = subst (λ (ls : List ℕ). c.loop-successor.successor-index < length ls) c.as_slice-successor-items.ensures c.loop-successor-test.true in
    subst (λ (ls : List ℕ). get_or ls c.loop-successor.successor-index 0 < length c.loop-successor.pools.lists) (sym c.as_slice-successor-items.ensures)
    (subst (λ (p : Pooled). get_or successors c.loop-successor.successor-index 0 < length p.lists) (sym c.loop-successor.invariant) (there c.loop-successor.successor-index 0 at))
