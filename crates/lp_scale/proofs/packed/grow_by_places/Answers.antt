use Rattle.std.proofs.Common.{◌∙◌, ◌≤ℤ◌, ℕ, ℤ, List, pos, All, take_all, ap, sym, subst}
use Rattle.std.proofs.lemmas.Int.{to_z-of_z}
use Rattle.std.proofs.lemmas.List.Elements.{All-more}
use mir.Syntax.{w32}
use Rattle.lp_scale.specs.Spans.{AreBetween}
use Rattle.lp_scale.specs.Packed.{most_digits, grown_above_zero}
use Rattle.lp_scale.proofs.SlopeEnds.{top_at}
use Rattle.lp_scale.proofs.Standing.{above_between}
use Rattle.lp_scale.proofs.Walking.{walk_more}
use Rattle.lp_scale.proofs.packed.grow_by_places.Goals as goal

pub loop-k-preserved : goal.loop-k-preserved
loop-k-preserved c =
    let k = c.loop-k.k in
    let lifts = c.args.lifts.now in
    let cuts = c.args.cuts.now in
    let read = to_z-of_z w32 c.most_digits-top.result (record { sfits = c.most_digits-top.type_inv }) in
    let top = read ∙ c.most_digits-top.ensures.value ∙ ap (most_digits lifts) c.slopes.ensures.value in
    let grew = c.grow_above_zero-span.ensures ∙ ap (grown_above_zero c.loop-k.span) top in
    record {
      between = subst (AreBetween (pos 0) (pos 640)) (sym (c.grow_above_zero-span.ensures ∙ ap (grown_above_zero c.loop-k.span) read)) (above_between c.loop-k.span c.most_digits-top.result c.most_digits-top.ensures.least c.most_digits-top.ensures.greatest c.loop-k.invariant.between);
      above = λ is. All-more (λ (p : ℕ). pos 1 ≤ℤ top_at lifts cuts p) c.args.places.now k 0 c.loop-k-test.true (c.loop-k.invariant.above (c.are_above_with-are_above.ensures.former is)) (subst (λ (z : ℤ). pos 1 ≤ℤ z) top (c.are_above_with-are_above.ensures.own is));
      value = walk_more (λ i s (p : ℕ). grown_above_zero s (top_at lifts cuts p)) _ c.args.places.now k 0 c.loop-k.span _ c.loop-k-test.true c.loop-k.invariant.value grew;
    }

pub returns-clause-above : goal.returns-clause-above
returns-clause-above c = λ is. subst (λ (ps : List ℕ). All (λ (p : ℕ). pos 1 ≤ℤ top_at c.args.lifts.now c.args.cuts.now p) ps) (take_all c.loop-k.k c.args.places.now c.loop-k-test.false) (c.loop-k.invariant.above is)
