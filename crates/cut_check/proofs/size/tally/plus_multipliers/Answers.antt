use Rattle.std.proofs.Common.{◌≡◌, ◌*◌, ℕ, nat_abs, pos, get_or, SFits, w64, rules, arith, ap, ◌∙◌}
use Rattle.std.proofs.lemmas.Int.{to_z-of_z}
use Rattle.std.proofs.lemmas.List.Sums.{sum_by_more}
use Rattle.cut_check.proofs.Bounding.{scaled}
use Rattle.cut_check.proofs.size.tally.plus_multipliers.Goals as goal

pub loop-multiplier-preserved : goal.loop-multiplier-preserved
loop-multiplier-preserved c =
    let i : ℕ = c.loop-multiplier.multiplier-index in
    let fits : SFits w64 (get_or c.args.multipliers.now i (pos 0)) = search rules in
    let own : c.unsigned_abs.result ≡ nat_abs (get_or c.args.multipliers.now i (pos 0)) = c.unsigned_abs.ensures.value ∙ ap nat_abs (to_z-of_z w64 _ fits) in
    let one : c.product.result ≡ c.args.weight * nat_abs (get_or c.args.multipliers.now i (pos 0)) = c.product.ensures ∙ ap (λ (k : ℕ). c.args.weight * k) own in
    let more = scaled c.args.weight _ _ _ (sum_by_more nat_abs c.args.multipliers.now i (pos 0) c.loop-multiplier-test.true) in
    let sum = c.in_ok-sum.ensures in
    omega (arith, one, more, sum, c.loop-multiplier.invariant)
