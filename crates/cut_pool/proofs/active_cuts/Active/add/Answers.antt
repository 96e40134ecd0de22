use Rattle.std.proofs.Common.{◌∷◌, ◌++◌, [], refl, arith}
use Rattle.std.proofs.lemmas.Result.{on_ok_weaker}
use Rattle.cut_pool.proofs.Covered.{covered_read, with_read, first_pushed, places_taken}
use Rattle.cut_pool.proofs.active_cuts.Active.add.Goals as goal

pub returns-in-Covered : goal.returns-in-Covered
returns-in-Covered c = record {
  cover = covered_read c.args.cuts.now c.args.self.now.lows.items c.args.self.now.highs.items c.as_slice-lows.result.now c.as_slice-highs.result.now c.args.self.now.places.items c.as_slice-2.result.now c.args.place c.as_slice-lows.ensures.value c.as_slice-highs.ensures.value c.as_slice-2.ensures.value c.requires.before.cover (rw c.in-Covered.is at c.standing_of.ensures);
  same = c.requires.before.same;
  coarse = c.requires.before.coarse;
  mark = record { few = omega (arith, c.requires.before.mark.few); cover = c.requires.before.mark.cover };
}

pub returns-in-Apart : goal.returns-in-Apart
returns-in-Apart c =
    let cover = first_pushed c.args.cuts.now c.args.self.now.lows.items c.args.self.now.highs.items c.args.self.now.places.items c.args.place c.requires.before.cover in
    on_ok_weaker c.push_place.result (λ taken. places_taken c.args.cuts.now c.args.place (c.args.self.now.places.items ++ c.args.place ∷ []) c.args.self.now _ c.push_place.new.self c.requires.before cover refl refl refl refl taken) c.push_place.ensures

pub returns : goal.returns
returns c =
    let cover = with_read c.args.cuts.now c.args.self.now.lows.items c.args.self.now.highs.items c.as_slice-lows.result.now c.as_slice-highs.result.now c.args.self.now.places.items c.args.self.now.places.items c.remove_lesser.new.places.items (c.remove_lesser.new.places.items ++ c.args.place ∷ []) c.args.place c.as_slice-lows.ensures.value c.as_slice-highs.ensures.value refl c.requires.before.cover c.remove_lesser.ensures.rising c.remove_lesser.ensures.left refl in
    on_ok_weaker c.push_place-2.result (λ taken. places_taken c.args.cuts.now c.args.place (c.remove_lesser.new.places.items ++ c.args.place ∷ []) c.args.self.now _ c.push_place-2.new.self c.requires.before cover refl refl refl refl taken) c.push_place-2.ensures
