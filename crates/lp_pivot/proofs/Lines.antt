-- Lines that change, one after the other.
use Rattle.std.proofs.Common.{◌≡◌, ◌∙◌, ◌+◌, ◌<◌, ℕ, ℤ, List, [], length, get_or, slice_set, take, drop, Option, Some, None, ap}
use Rattle.std.specs.Option.{option_map}
use Rattle.std.proofs.lemmas.List.{set-get_or}
use Rattle.base_num.specs.Each.{each_from}
use Rattle.base_num.proofs.Each.{behind, each_step, each_absent, map_some, map_none}

-- a line that stays
pub kept_line : (lines : List (List ℤ)) (k : ℕ) → slice_set lines k (get_or lines k []) ≡ lines
kept_line lines k = set-get_or lines k []

module _ (f : ℕ → List ℤ → Option (List ℤ)) (whole : Option (List (List ℤ))) (lines : List (List ℤ)) (k : ℕ) (there : k < length lines) where
  pub line_step : (new : List (List ℤ)) → option_map (slice_set lines k) (f k (get_or lines k [])) ≡ Some new → whole ≡ behind (take k lines) (each_from f k (drop k lines)) → whole ≡ behind (take (k + 1) new) (each_from f (k + 1) (drop (k + 1) new))
  line_step new e w =
      let m = map_some (slice_set lines k) (f k (get_or lines k [])) new e in
      each_step f whole lines k [] m.0 there m.1 w ∙ ap (λ (ls : List (List ℤ)). behind (take (k + 1) ls) (each_from f (k + 1) (drop (k + 1) ls))) m.2

  pub line_absent : option_map (slice_set lines k) (f k (get_or lines k [])) ≡ None → whole ≡ behind (take k lines) (each_from f k (drop k lines)) → whole ≡ None
  line_absent e w = each_absent f whole lines k [] there (map_none (slice_set lines k) (f k (get_or lines k [])) e) w
