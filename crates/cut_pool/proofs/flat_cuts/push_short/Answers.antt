use Rattle.std.proofs.Common.{◌≡◌, ◌∙◌, ◌∷◌, ◌++◌, [], ℤ, pos, ◌<◌, ◌^◌, nat_abs, get_or, SFits, ap, rules}
use Rattle.std.specs.Int.{w64, w128}
use Rattle.std.proofs.lemmas.Int.{to_z-of_z}
use Rattle.cut_pool.proofs.ShortSlopes.{slope_more, all_more}
use Rattle.cut_pool.proofs.flat_cuts.push_short.Goals as goal

pub loop-slope-preserved : goal.loop-slope-preserved
loop-slope-preserved c =
    let found = c.loop-slope.found.items in
    let fits : SFits w128 (get_or c.args.slopes.now c.loop-slope.slope-index (pos 0)) = search rules in
    let is : c.in-Some.short ≡ get_or c.args.slopes.now c.loop-slope.slope-index (pos 0) = c.in-Some.ensures.value ∙ to_z-of_z w128 _ fits in
    let short : SFits w64 c.in-Some.short = search rules in
    let put : c.push.new.self.items ≡ found ++ c.in-Some.short ∷ [] = c.in_ok-push-in-Some.ensures.items ∙ ap (λ (z : ℤ). found ++ z ∷ []) (to_z-of_z w64 _ short) in
    record {
      slopes = slope_more c.args.found.now.items found c.push.new.self.items c.args.slopes.now c.loop-slope.slope-index c.in-Some.short c.loop-slope-test.true is c.loop-slope.invariant.slopes put;
      small = all_more (λ s. nat_abs s < 2 ^ 57) c.args.slopes.now c.loop-slope.slope-index c.in-Some.short c.loop-slope-test.true is c.loop-slope.invariant.small c.in-Some.ensures.small;
    }
