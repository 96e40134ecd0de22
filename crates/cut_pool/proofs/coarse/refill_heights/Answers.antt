use Rattle.std.proofs.Common.{◌≡◌, ◌∙◌, ◌<◌, ℕ, List, length, take, get_or, to_z, of_z, w64, ap, sym, subst, arith}
use mir.Syntax.{w128}
use Rattle.std.proofs.lemmas.Int.{to_z-of_z}
use Rattle.std.proofs.lemmas.List.{take_more, take_all, length-take}
use Rattle.lp_program.specs.PackedCut.{PackedCut, no_packed_cut}
use Rattle.lp_program.specs.Coarse.{AreHeights}
use Rattle.cut_pool.proofs.coarse.refill_heights.Goals as goal

pub loop-k-preserved : goal.loop-k-preserved
loop-k-preserved c = λ are.
    let there : c.loop-k.k < length c.args.cuts.now = omega (arith, c.loop-k-test.true, c.len-k-end.ensures.value) in
    let height : (get_or c.args.cuts.now c.loop-k.k no_packed_cut).height ≡ to_z w128 (of_z w128 c.height.result) = sym (to_z-of_z w128 c.height.result (record { sfits = c.height.type_inv }) ∙ c.height.ensures.value) in
    rw (take_more c.args.cuts.now c.loop-k.k no_packed_cut there) (c.push_height.ensures c.if-not-push_height.false (take c.loop-k.k c.args.cuts.now) (get_or c.args.cuts.now c.loop-k.k no_packed_cut) height (c.loop-k.invariant are))

pub returns : goal.returns
returns c = λ e are.
    let base : to_z w64 (of_z w64 c.args.base) ≡ c.args.base = to_z-of_z w64 c.args.base c.ranges.base in
    let found = rw base at c.loop-k.invariant in
    let all : take c.loop-k.k c.args.cuts.now ≡ c.args.cuts.now = take_all c.loop-k.k c.args.cuts.now (omega (arith, c.loop-k-test.false, c.len-k-end.ensures.value)) in
    let front : take c.args.kept c.truncate.new.self.items ≡ take c.args.kept c.args.heights.now.items = ap (take c.args.kept) c.truncate.ensures.items ∙ take_all c.args.kept (take c.args.kept c.args.heights.now.items) (omega (arith, length-take c.args.kept c.args.heights.now.items)) in
    subst (λ (cs : List PackedCut). AreHeights c.args.shift c.args.base cs c.loop-k.heights.items) all
    (found (subst (λ (hs : List ℕ). AreHeights c.args.shift c.args.base (take c.args.kept c.args.cuts.now) hs) (sym front) are))
