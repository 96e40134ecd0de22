use Rattle.std.proofs.Common.{◌≡◌, ℕ, ◌<◌, ◌-◌, length, map, get_or, IfSome}
use Rattle.lp_program.specs.Covering.{packed_cut_at, AreRisingPlaces}
use Rattle.cut_pool.specs.Active.{IsLeft}
use Rattle.cut_pool.specs.CoarseLists.{IsCoarseOf}
use Rattle.cut_pool.proofs.active_cuts.remove_lesser.Given as goal

abbrev pub invariant-loop-k : goal.invariant-loop-k
invariant-loop-k l = record {
  rising : AreRisingPlaces 0 l.place l.places.items;
  left : (j : ℕ) → j < length l.initial.places.items → IsLeft l.all.cuts.now l.all.lows.now l.all.highs.now l.place l.places.items (get_or l.initial.places.items j 0);
  same : l.copies ≡ map (packed_cut_at l.all.cuts.now) l.places.items;
  coarse : IfSome l.coarse (IsCoarseOf l.copies);
}

abbrev pub decreases-loop-k : goal.decreases-loop-k
decreases-loop-k l = length l.places.items - l.k
