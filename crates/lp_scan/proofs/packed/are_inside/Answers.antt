use Rattle.std.proofs.Common.{rules, SFits, ◌^◌, ℕ, ℤ, pos, ◌*ℤ◌, ◌≤ℤ◌}
use Rattle.std.proofs.lemmas.Int.{to_z-of_z}
use mir.Syntax.{w64}
use Rattle.base_num.specs.Sums.{entry}
use Rattle.lp_scan.proofs.Covered.{for_more, both}
use Rattle.lp_scan.proofs.packed.are_inside.Goals as goal

pub loop-k-preserved : goal.loop-k-preserved
loop-k-preserved c =
    let lows = c.args.lows.now in
    let highs = c.args.highs.now in
    let states = c.args.states.now in
    let k = c.loop-k.k in
    let low : SFits w64 (entry lows k) = search rules in
    let high : SFits w64 (entry highs k) = search rules in
    let state : SFits w64 (entry states k) = search rules in
    let here = to_z-of_z w64 (entry states k) state in
    record {
      above = for_more (λ (j : ℕ). (entry lows j *ℤ pos (2 ^ 24)) ≤ℤ entry states j) k c.loop-k.invariant.above (both (λ (x y : ℤ). (x *ℤ pos (2 ^ 24)) ≤ℤ y) _ _ _ _ (to_z-of_z w64 (entry lows k) low) here (c.is_between.ensures.above c.if-not-is_between.false));
      below = for_more (λ (j : ℕ). entry states j ≤ℤ (entry highs j *ℤ pos (2 ^ 24))) k c.loop-k.invariant.below (both (λ (x y : ℤ). y ≤ℤ (x *ℤ pos (2 ^ 24))) _ _ _ _ (to_z-of_z w64 (entry highs k) high) here (c.is_between.ensures.below c.if-not-is_between.false));
    }
