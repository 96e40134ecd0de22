-- One step of a loop over results in order.
use Rattle.std.proofs.Common.{◌≡◌, ℕ, suc, ◌+◌, ◌<◌, List, [], ◌∷◌, ◌++◌, length, get_or, drop, Option, Some, None, ap, add-one, sym, ◌∙◌}
use Rattle.std.specs.Option.{option_map, option_and_then}
use Rattle.std.proofs.lemmas.List.{drop_more}
use Rattle.base_num.specs.Each.{each_from}
use Rattle.base_num.proofs.Each.{behind, behind_one}

module _ {A B : Type 0} (f : ℕ → A → Option B) (whole : Option (List B)) (done : List B) (xs : List A) (k : ℕ) (d : A) where
  opened : k < length xs → (o : Option B) → f k (get_or xs k d) ≡ o → whole ≡ behind done (each_from f k (drop k xs)) → whole ≡ behind done (option_and_then (λ y. option_map (λ ys. y ∷ ys) (each_from f (suc k) (drop (k + 1) xs))) o)
  opened h o e w =
      w ∙ ap (λ (r : List A). behind done (each_from f k r)) (drop_more xs k d h)
      ∙ ap (λ (p : Option B). behind done (option_and_then (λ y. option_map (λ ys. y ∷ ys) (each_from f (suc k) (drop (k + 1) xs))) p)) e

  -- the result of place k stands behind the others
  pub each_next : (y : B) → k < length xs → f k (get_or xs k d) ≡ Some y → whole ≡ behind done (each_from f k (drop k xs)) → whole ≡ behind (done ++ y ∷ []) (each_from f (k + 1) (drop (k + 1) xs))
  each_next y h e w =
      opened h (Some y) e w ∙ behind_one done y (each_from f (suc k) (drop (k + 1) xs))
      ∙ ap (λ (j : ℕ). behind (done ++ y ∷ []) (each_from f j (drop (k + 1) xs))) (sym (add-one k))

  -- it is absent
  pub each_stops : k < length xs → f k (get_or xs k d) ≡ None → whole ≡ behind done (each_from f k (drop k xs)) → whole ≡ None
  each_stops h e w = opened h None e w
