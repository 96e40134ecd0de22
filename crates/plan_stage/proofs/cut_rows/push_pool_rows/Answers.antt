use Rattle.std.proofs.Common.{◌≤◌, ◌<◌, ◌^◌, ℤ, List, nat_abs, get_or, SFits, rules, length, All, subst, sym}
use mir.Syntax.{w128}
use Rattle.std.proofs.lemmas.Int.{to_z-of_z}
use Rattle.theory.specs.Pools.{pool}
use Rattle.theory.specs.declared.cut.Cut.{Cut}
use Rattle.plan_stage.specs.Spans.{IsSlopeWithin}
use Rattle.plan_stage.proofs.cut_rows.push_pool_rows.Goals as goal

pub push-requires : goal.push-requires
push-requires c =
    let cuts : List Cut = pool c.args.pools.now.lists c.args.successor in
    let there : c.loop-place.place < length cuts = subst (λ (cs : List Cut). c.loop-place.place < length cs) c.cuts-cuts.ensures c.loop-place-test.true in
    let slopes : Cut = c.index-cuts-place-in-loop-place.result in
    let within : All (IsSlopeWithin (get_or c.cuts-cuts.result.now c.loop-place.place slopes).beta) c.args.outs.now =
    subst (λ (cs : List Cut). All (IsSlopeWithin (get_or cs c.loop-place.place slopes).beta) c.args.outs.now) (sym c.cuts-cuts.ensures) (c.requires.within c.loop-place.place slopes there)
    in
    let height : Cut = c.index-cuts-place.result in
    let alpha : ℤ = (get_or c.cuts-cuts.result.now c.loop-place.place height).alpha in
    let fits : SFits w128 alpha = search rules in (
      subst (λ (bs : List ℤ). All (IsSlopeWithin bs) c.args.outs.now) (sym c.as_slice.ensures) within,
      subst (λ (z : ℤ). nat_abs z ≤ 2 ^ 104) (sym (to_z-of_z w128 alpha fits)) (subst (λ (cs : List Cut). nat_abs (get_or cs c.loop-place.place height).alpha ≤ 2 ^ 104) (sym c.cuts-cuts.ensures) (c.requires.small c.loop-place.place height there)),
    )
