use Rattle.std.proofs.Common.{◌≡◌, ◌∙◌, ◌+◌, ℕ, length, All, sym, subst, ap}
use Rattle.std.specs.Vec.{with_items}
use Rattle.std.specs.List.{remove}
use Rattle.std.proofs.lemmas.List.{with_items_is}
use Rattle.lp_program.specs.PackedCut.{PackedCut}
use Rattle.cut_pool.specs.CoarseLists.{AreColumns}
use Rattle.cut_pool.proofs.Removed.{heights_removed, All-remove}
use Rattle.cut_pool.proofs.coarse.Coarse.remove.Goals as goal

pub returns : goal.returns
returns c =
    let before = c.as_mut_slice.ensures.value in
    let same : (with_items c.args.self.now.steeps c.remove_steeps.new.columns).items ≡ c.remove_steeps.new.columns = with_items_is c.args.self.now.steeps c.remove_steeps.new.columns (c.remove_steeps.ensures.count ∙ c.as_mut_slice.ensures.len) in
    let count : length c.args.self.now.steeps.items ≡ length (with_items c.args.self.now.steeps c.remove_steeps.new.columns).items = sym (ap length before) ∙ sym c.remove_steeps.ensures.count ∙ ap length (sym same) in
    λ cuts there are. record {
      heights = heights_removed (c.args.self.now.slope_shift + c.args.self.now.state_shift) c.args.number c.args.self.now.base cuts c.args.self.now.heights.items c.remove_entry.new.entries.items there are.heights c.remove_entry.ensures;
      steeps = subst (AreColumns c.args.self.now.slope_shift (remove cuts c.args.number)) (sym same) (c.remove_steeps.ensures.steeps c.args.self.now.slope_shift cuts there (subst (AreColumns c.args.self.now.slope_shift cuts) (sym before) are.steeps));
      states = subst (λ (n : ℕ). All (λ (cut : PackedCut). length cut.slopes ≡ n) (remove cuts c.args.number)) count (All-remove (λ (cut : PackedCut). length cut.slopes ≡ length c.args.self.now.steeps.items) c.args.number cuts are.states);
      slope_shift = are.slope_shift;
      state_shift = are.state_shift;
    }
