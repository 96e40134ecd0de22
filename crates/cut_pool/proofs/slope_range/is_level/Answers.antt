use Rattle.std.proofs.Common.{◌≡◌, ◌∙◌, ⊎_elim, ℕ, ◌<◌, ◌≤◌, length, pos, SFits, to_z, arith, rules, ap, sym}
use Rattle.std.proofs.lemmas.Bool.{cases_lt}
use Rattle.std.proofs.lemmas.Int.{to_z-of_z}
use Rattle.std.proofs.lemmas.List.{get_or_past}
use mir.Syntax.{w64}
use Rattle.base_num.specs.Sums.{entry}
use Rattle.cut_pool.proofs.SlopeRanges.{for_more}
use Rattle.cut_pool.proofs.slope_range.is_level.Goals as goal

pub loop-j-preserved : goal.loop-j-preserved
loop-j-preserved c =
    let k = c.loop-j.j in
    let fits : SFits w64 (entry c.args.slopes.now k) = search rules in
    for_more (λ (i : ℕ). entry c.args.slopes.now i ≡ pos 0) k c.loop-j.invariant (sym (to_z-of_z w64 (entry c.args.slopes.now k) fits) ∙ ap (to_z w64) c.if-slopes-j-ne0.false)

pub returns : goal.returns
returns c = λ _ j. ⊎_elim (λ (a : j < length c.args.slopes.now). c.loop-j.invariant j (omega (arith, a, c.loop-j-test.false))) (λ (a : length c.args.slopes.now ≤ j). get_or_past c.args.slopes.now j (pos 0) a) (cases_lt j (length c.args.slopes.now))
