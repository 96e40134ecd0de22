use Rattle.std.proofs.Common.{◌<◌, length, arith, refl, sym, subst, take, take_all, ◌∙◌}
use Rattle.std.proofs.lemmas.List.Elements.{All-more, All-same}
use Rattle.lp_program.specs.PackedCut.{PackedCut, no_packed_cut}
use Rattle.lp_scale.specs.Packed.{most_digits}
use Rattle.lp_scale.proofs.Standing.{small_slope, by_cut}
use Rattle.lp_scale.proofs.packed.grow_by_all.Goals as goal

pub loop-place-preserved : goal.loop-place-preserved
loop-place-preserved c =
    let l = c.loop-place in
    let w = c.with_cut-grown in
    let there : l.place < length c.args.cuts.now = omega (arith, c.loop-place-test.true, c.len-place-end.ensures.value) in
    record {
      count = w.ensures.count ∙ l.invariant.count;
      keeps = w.ensures.keeps;
      between = w.ensures.span;
      small = All-more (λ (c : PackedCut). small_slope c.slopes) c.args.cuts.now l.place no_packed_cut there l.invariant.small (subst small_slope c.slopes.ensures.value c.slopes.ensures.small);
      value = by_cut c.args.lifts.now c.args.cuts.now _ l.place l.span w.result.0 c.slopes.result.now (most_digits c.args.lifts.now c.slopes.result.now) there l.invariant.value w.ensures.value refl c.slopes.ensures.value;
    }

pub returns-clause-small : goal.returns-clause-small
returns-clause-small c = All-same (λ (c : PackedCut). small_slope c.slopes) c.args.cuts.now (take c.loop-place.place c.args.cuts.now) (sym (take_all c.loop-place.place c.args.cuts.now (omega (arith, c.loop-place-test.false, c.len-place-end.ensures.value)))) c.loop-place.invariant.small
