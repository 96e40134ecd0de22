use Rattle.std.proofs.Common.{◌≡◌, ◌∙◌, ◌<◌, ℕ, length, get_or, ap, subst, rules, arith}
use Rattle.std.proofs.lemmas.List.{length-map, get_or_default}
use Rattle.lp_program.specs.Covering.{packed_cut_at, Covers}
use Rattle.cut_pool.proofs.Covered.{place_below}
use Rattle.cut_pool.proofs.Removed.{left_own, rising_removed, left_removed, copies_removed}
use Rattle.cut_pool.proofs.active_cuts.remove_lesser.Goals as goal

pub loop-k-init : goal.loop-k-init
loop-k-init c = record {
  rising = c.requires.rising;
  left = λ j h. left_own c.args.all.now.cuts.now c.args.all.now.lows.now c.args.all.now.highs.now c.args.places.now.items c.args.place j h;
  same = c.requires.same;
  coarse = c.requires.coarse;
}

pub is_above-requires-clause-second : goal.is_above-requires-clause-second
is_above-requires-clause-second c =
    let there : c.loop-k.k < length c.loop-k.places.items = search rules in
    let other : c.index.result.now ≡ get_or c.loop-k.places.items c.loop-k.k 0 = c.index.ensures ∙ get_or_default c.loop-k.places.items c.loop-k.k c.index.result.now 0 there in
    omega (arith, other, place_below 0 c.args.place c.loop-k.k c.loop-k.places.items c.loop-k.invariant.rising there, c.requires.there)

pub loop-k-preserved-then-is_above : goal.loop-k-preserved-then-is_above
loop-k-preserved-then-is_above c =
    let all = c.args.all.now.cuts.now in
    let before = c.loop-k.places.items in
    let there : c.loop-k.k < length before = search rules in
    let other : c.index.result.now ≡ get_or before c.loop-k.k 0 = c.index.ensures ∙ get_or_default before c.loop-k.k c.index.result.now 0 there in
    let above = subst (λ (q : ℕ). Covers all c.args.all.now.lows.now c.args.all.now.highs.now c.args.place q) other (c.is_above.ensures c.if-is_above.true) in
    let copies = c.remove-then-is_above.ensures in
    rw c.remove.ensures.items (record {
      rising = rising_removed 0 c.args.place c.loop-k.k before c.loop-k.invariant.rising there;
      left = λ j h. left_removed all c.args.all.now.lows.now c.args.all.now.highs.now before c.args.place c.loop-k.k (get_or c.args.places.now.items j 0) there above (c.loop-k.invariant.left j h);
      same = copies_removed all before c.loop-k.copies c.remove-then-is_above.new.self c.loop-k.k there c.loop-k.invariant.same copies;
      coarse = rw copies (c.remove_coarse.ensures c.loop-k.copies (omega (arith, there, ap length c.loop-k.invariant.same, length-map before (packed_cut_at all))) c.loop-k.invariant.coarse);
    })
