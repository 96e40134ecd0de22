use Rattle.std.proofs.Common.{ℤ, pos, get_or, rules, SFits, ap, ◌∙◌}
use Rattle.std.proofs.lemmas.Int.{to_z-of_z}
use mir.Syntax.{w32, w64}
use Rattle.lp_table.specs.Numbers.{bits_of}
use Rattle.lp_price.specs.Ray.{with_digits}
use Rattle.lp_price.proofs.Digits.{greatest_next}
use Rattle.lp_price.proofs.ray.greatest.Goals as goal

pub loop-i-preserved : goal.loop-i-preserved
loop-i-preserved c =
    let fits : SFits w32 (get_or c.args.exponents.now c.loop-i.i (pos 0)) = search rules in
    let e = rw (to_z-of_z w64 c.factor_at.result (record { sfits = c.factor_at.type_inv }), to_z-of_z w32 (get_or c.args.exponents.now c.loop-i.i (pos 0)) fits) at c.with_digits-best.ensures.value in
    record {
      value = greatest_next c.args.stuck.now.table.now c.args.stuck.now.line.now c.args.stuck.now.variable c.args.stuck.now.above c.args.exponents.now c.loop-i.i (pos 0) c.loop-i.best _ _ c.loop-i-test.true (e ∙ ap (λ (f : ℤ). with_digits c.loop-i.best (bits_of f) (get_or c.args.exponents.now c.loop-i.i (pos 0))) c.factor_at.ensures.value) c.loop-i.invariant.value;
      small = c.with_digits-best.ensures.small;
    }
