use Rattle.std.proofs.Common.{◌∙◌, ◌+ℤ◌, ℤ, pos, get_or, SFits, to_z, of_z, w64, rules, ap}
use mir.Syntax.{w128}
use Rattle.std.proofs.lemmas.Int.{to_z-of_z}
use Rattle.cut_pool.specs.Active.{lesser_over}
use Rattle.cut_pool.proofs.RaisedBoxMaxima.{summand}
use Rattle.cut_pool.proofs.Leads.{lesser_is}
use Rattle.cut_pool.proofs.active_cuts.sum_over.Goals as goal

pub loop-k-preserved : goal.loop-k-preserved
loop-k-preserved c =
    let k = c.loop-k.k in
    let fs : SFits w64 (get_or c.args.slopes.now c.loop-k.k (pos 0)) = search rules in
    let fo : SFits w64 (get_or c.args.others.now c.loop-k.k (pos 0)) = search rules in
    let fl : SFits w64 (get_or c.args.lows.now c.loop-k.k (pos 0)) = search rules in
    let fh : SFits w64 (get_or c.args.highs.now c.loop-k.k (pos 0)) = search rules in
    let fits : SFits w128 c.in_ok-least.least = search rules in
    let held : SFits w128 c.in_ok-lesser.lesser = search rules in
    let product = lesser_is _ _ _ _ _ _ _ _ c.in_ok-lesser.lesser (to_z-of_z w64 _ fs) (to_z-of_z w64 _ fo) (to_z-of_z w64 _ fl) (to_z-of_z w64 _ fh) c.in_ok-lesser.ensures in
    rw (to_z-of_z w128 c.in_ok-least.least fits) (summand (to_z w128 (of_z w128 c.args.height)) (to_z w128 c.loop-k.least-bits) c.in_ok-lesser.lesser c.in_ok-least.least k (lesser_over c.args.lows.now c.args.highs.now c.args.slopes.now c.args.others.now) c.loop-k.invariant product (c.in_ok-least.ensures ∙ ap (λ (p : ℤ). to_z w128 c.loop-k.least-bits +ℤ p) (to_z-of_z w128 c.in_ok-lesser.lesser held)))
