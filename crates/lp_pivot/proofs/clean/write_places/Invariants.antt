use Rattle.std.proofs.Common.{◌≡◌, ◌<◌, ℕ, None, length, get_or}
use Rattle.lp_pivot.specs.Clean.{first_place}
use Rattle.lp_pivot.proofs.clean.write_places.Given as goal

abbrev pub invariant-loop-v : goal.invariant-loop-v
invariant-loop-v l = record {
  count : length l.places ≡ length l.fn.places;
  done : (k : ℕ) → k < l.v → get_or l.places k None ≡ first_place l.columns k;
}
