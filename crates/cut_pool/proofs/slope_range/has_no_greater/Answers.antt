use Rattle.std.proofs.Common.{◌∙◌, ℕ, ℤ, ◌≤◌, SFits, nat_abs, arith, rules, ap}
use Rattle.std.proofs.lemmas.Int.{to_z-of_z}
use mir.Syntax.{w64}
use Rattle.base_num.specs.Sums.{entry}
use Rattle.cut_pool.proofs.SlopeRanges.{for_more, everywhere}
use Rattle.cut_pool.proofs.slope_range.has_no_greater.Goals as goal

pub loop-j-preserved : goal.loop-j-preserved
loop-j-preserved c =
    let k = c.loop-j.j in
    let mine : SFits w64 (entry c.args.slopes.now k) = search rules in
    let other : SFits w64 (entry c.args.others.now k) = search rules in
    let a = c.unsigned_abs.ensures.value ∙ ap nat_abs (to_z-of_z w64 (entry c.args.others.now k) other) in
    let b = c.unsigned_abs-in-loop-j.ensures.value ∙ ap nat_abs (to_z-of_z w64 (entry c.args.slopes.now k) mine) in
    for_more (λ (i : ℕ). nat_abs (entry c.args.slopes.now i) ≤ nat_abs (entry c.args.others.now i)) k c.loop-j.invariant (omega (arith, a, b, c.if-unsigned_abs.false))

pub returns : goal.returns
returns c = λ _. everywhere (λ (x y : ℤ). nat_abs x ≤ nat_abs y) c.args.slopes.now c.args.others.now c.requires (omega arith) (λ j l. c.loop-j.invariant j (omega (arith, l, c.loop-j-test.false)))
