-- Values that change, one after the other.
use Rattle.std.proofs.Common.{◌≡◌, ◌∙◌, ◌+◌, ◌<◌, ℕ, ℤ, pos, List, length, slice_set, take, drop, Option, Some, None, ap, sym}
use Rattle.std.specs.Option.{option_map}
use Rattle.std.proofs.lemmas.List.{set-get_or}
use Rattle.base_num.specs.Sums.{entry}
use Rattle.base_num.specs.Each.{each_from}
use Rattle.base_num.proofs.Each.{behind, each_step, each_absent, map_some, map_none}

-- a value that stays
pub kept_value : (values : List ℤ) (k : ℕ) → slice_set values k (entry values k) ≡ values
kept_value values k = set-get_or values k (pos 0)

-- a 0 that stays
pub kept_zero : (values : List ℤ) (k : ℕ) → entry values k ≡ pos 0 → slice_set values k (pos 0) ≡ values
kept_zero values k e = ap (slice_set values k) (sym e) ∙ kept_value values k

module _ (f : ℕ → ℤ → Option ℤ) (whole : Option (List ℤ)) (values : List ℤ) (k : ℕ) (there : k < length values) where
  pub value_step : (new : List ℤ) → option_map (slice_set values k) (f k (entry values k)) ≡ Some new → whole ≡ behind (take k values) (each_from f k (drop k values)) → whole ≡ behind (take (k + 1) new) (each_from f (k + 1) (drop (k + 1) new))
  value_step new e w =
      let m = map_some (slice_set values k) (f k (entry values k)) new e in
      each_step f whole values k (pos 0) m.0 there m.1 w ∙ ap (λ (xs : List ℤ). behind (take (k + 1) xs) (each_from f (k + 1) (drop (k + 1) xs))) m.2

  pub value_absent : option_map (slice_set values k) (f k (entry values k)) ≡ None → whole ≡ behind (take k values) (each_from f k (drop k values)) → whole ≡ None
  value_absent e w = each_absent f whole values k (pos 0) there (map_none (slice_set values k) (f k (entry values k)) e) w
