use Rattle.std.proofs.Common.{◌≡◌, ◌∙◌, ℕ, length, All, sym, subst, ap, arith, w64, to_z, of_z, rules}
use Rattle.std.specs.Vec.{with_items}
use Rattle.std.proofs.lemmas.Int.{to_z-of_z}
use Rattle.std.proofs.lemmas.List.{with_items_is}
use Rattle.lp_program.specs.PackedCut.{PackedCut}
use Rattle.cut_pool.specs.CoarseLists.{AreFrontColumns, AreColumns}
use Rattle.cut_pool.proofs.coarse.Coarse.refill.Goals as goal

pub returns-then-refill_heights : goal.returns-then-refill_heights
returns-then-refill_heights c =
    let before = c.as_mut_slice.ensures.value in
    let same : (with_items c.args.self.now.steeps c.refill_columns.new.columns).items ≡ c.refill_columns.new.columns = with_items_is c.args.self.now.steeps c.refill_columns.new.columns (c.refill_columns.ensures.count ∙ c.as_mut_slice.ensures.len) in
    let states : c.states.result ≡ c.args.self.now.steeps.len = omega (arith, c.if-states-len.false, c.len.ensures) in
    let base : to_z w64 (of_z w64 c.args.self.now.base) ≡ c.args.self.now.base = to_z-of_z w64 c.args.self.now.base (search rules) in
    λ filled front. record {
      heights = rw base at (c.refill_heights.ensures c.if-refill_heights.true) front.heights;
      steeps = subst (AreColumns c.args.self.now.slope_shift c.args.cuts.now) (sym same) (c.refill_columns.ensures.steeps filled (subst (AreFrontColumns c.args.self.now.slope_shift c.args.kept c.args.cuts.now) (sym before) front.steeps));
      states = subst (λ (n : ℕ). All (λ (cut : PackedCut). length cut.slopes ≡ n) c.args.cuts.now) (states ∙ sym c.as_mut_slice.ensures.len ∙ sym c.refill_columns.ensures.count ∙ ap length (sym same)) c.states.ensures.slopes;
      slope_shift = omega (arith, c.if-slope_shift-gt-MOST_SLOPE_SHIFT.false);
      state_shift = omega (arith, c.if-state_shift-gt-MOST_STATE_SHIFT.false);
    }
