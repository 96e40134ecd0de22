use Rattle.std.proofs.Common.{◌≡◌, ℕ, ◌<◌, pos, ◌*ℤ◌, List, SFits, length, get_or, to_z, of_z, rules, ap, ◌∙◌}
use mir.Syntax.{w128}
use Rattle.std.specs.Int.{int_wrap}
use Rattle.std.proofs.lemmas.List.{get_or_default}
use Rattle.theory.specs.declared.cut.Cut.{Cut}
use Rattle.theory.specs.Pools.{no_cut}
use Rattle.cut_make.specs.Congruent.{Congruent}
use Rattle.cut_make.proofs.Congruence.{sum_step, same_times, same_read}
use Rattle.cut_make.proofs.constants.pool_constants.Goals as goal

pub loop-place-preserved : goal.loop-place-preserved
loop-place-preserved c =
    let cuts : List Cut = c.args.pool.now in
    let i : ℕ = c.loop-place.place-index in
    let s : ℕ × ℕ = get_or c.args.pairs.now i (0, 0) in
    let inside : s.0 < length cuts = c.requires i (0, 0) c.loop-place-test.true in
    let cut : Cut = get_or cuts s.0 c.index-pool-place.result in
    let fits : SFits w128 cut.alpha = search rules in
    let is : cut ≡ get_or cuts s.0 no_cut = get_or_default cuts s.0 c.index-pool-place.result no_cut inside in
    let x : Congruent (to_z w128 (of_z w128 c.from.result)) (pos s.1) = same_read c.from.result (record { sfits = c.from.type_inv }) ∙ ap (int_wrap w128) c.from.ensures in
    let y : Congruent (to_z w128 (of_z w128 cut.alpha)) (get_or cuts s.0 no_cut).alpha = same_read cut.alpha fits ∙ ap (λ (k : Cut). int_wrap w128 k.alpha) is in
    sum_step (λ (t : ℕ × ℕ). pos t.1 *ℤ (get_or cuts t.0 no_cut).alpha) c.args.pairs.now i (0, 0) (to_z w128 c.loop-place.sum-bits) _ _ c.loop-place-test.true c.loop-place.invariant
    (same_read c.wrapping_add_product-sum.result (record { sfits = c.wrapping_add_product-sum.type_inv }) ∙ c.wrapping_add_product-sum.ensures)
    (same_times _ _ (pos s.1) (get_or cuts s.0 no_cut).alpha x y)
