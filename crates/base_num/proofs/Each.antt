-- Results in order, as a loop makes them in place.
use Rattle.std.proofs.Common.{◌≡◌, ℕ, suc, ◌+◌, ◌<◌, ◌≤◌, unwrap_or, List, [], ◌∷◌, ◌++◌, length, get_or, take, drop, slice_set, Option, Some, None, arith, refl, ap, ap₂, add-one, sym, ◌∙◌}
use Rattle.std.specs.Option.{option_map, option_and_then}
use Rattle.std.proofs.lemmas.List.{drop_more, take_more_set, drop-set-lt, append_assoc, take-append-drop}
use Rattle.std.proofs.Math.ListN.{drop_of_length-le}
use Rattle.base_num.specs.Each.{each_from}

-- some results, and those of the rest behind them
abbrev pub behind : {B : Type 0} → List B → Option (List B) → Option (List B)
behind done tail = option_map (λ ys. done ++ ys) tail

pub behind_one : {B : Type 0} (done : List B) (y : B) (tail : Option (List B)) → behind done (option_map (λ ys. y ∷ ys) tail) ≡ behind (done ++ y ∷ []) tail
behind_one done y None = refl
behind_one done y (Some ys) = ap Some (sym (append_assoc done (y ∷ []) ys))

-- the place k of xs takes its result
pub each_step : {A : Type 0} (f : ℕ → A → Option A) (whole : Option (List A)) (xs : List A) (k : ℕ) (d y : A) → k < length xs → f k (get_or xs k d) ≡ Some y → whole ≡ behind (take k xs) (each_from f k (drop k xs)) → whole ≡ behind (take (k + 1) (slice_set xs k y)) (each_from f (k + 1) (drop (k + 1) (slice_set xs k y)))
each_step f whole xs k d y h e w =
    w ∙ ap (λ r. behind (take k xs) (each_from f k r)) (drop_more xs k d h) ∙ ap (λ o. behind (take k xs) (option_and_then (λ z. option_map (λ ys. z ∷ ys) (each_from f (suc k) (drop (k + 1) xs))) o)) e
    ∙ behind_one (take k xs) y (each_from f (suc k) (drop (k + 1) xs))
    ∙ ap₂ behind (sym (take_more_set xs k y h)) (ap₂ (each_from f) (sym (add-one k)) (sym (drop-set-lt (k + 1) xs k y (omega arith))))

-- its result is absent
pub each_absent : {A : Type 0} (f : ℕ → A → Option A) (whole : Option (List A)) (xs : List A) (k : ℕ) (d : A) → k < length xs → f k (get_or xs k d) ≡ None → whole ≡ behind (take k xs) (each_from f k (drop k xs)) → whole ≡ None
each_absent f whole xs k d h e w =
    w ∙ ap (λ r. behind (take k xs) (each_from f k r)) (drop_more xs k d h) ∙ ap (λ o. behind (take k xs) (option_and_then (λ z. option_map (λ ys. z ∷ ys) (each_from f (suc k) (drop (k + 1) xs))) o)) e

-- all have their results
pub each_done : {A : Type 0} (f : ℕ → A → Option A) (whole : Option (List A)) (xs : List A) (k : ℕ) → length xs ≤ k → whole ≡ behind (take k xs) (each_from f k (drop k xs)) → whole ≡ Some xs
each_done f whole xs k h w = w ∙ ap (λ r. behind (take k xs) (each_from f k r)) (drop_of_length-le xs h) ∙ ap (λ r. Some (take k xs ++ r)) (sym (drop_of_length-le xs h)) ∙ ap Some (take-append-drop k xs)

pub some_same : {A : Type 0} {x y : A} → Some x ≡ Some y → x ≡ y
some_same {A} {x} {y} h = ap (λ (o : Option A). unwrap_or o x) h

-- as many results as there were entries
pub each_length : {A B : Type 0} (f : ℕ → A → Option B) (k : ℕ) (xs : List A) (ys : List B) → each_from f k xs ≡ Some ys → length ys ≡ length xs
each_length f k [] ys h = sym (ap length (some_same h))
each_length {A} {B} f k (x ∷ xs) ys h = first (f k x) (each_from f (suc k) xs) (each_length f (suc k) xs) h
  where
    first : (o : Option B) (tail : Option (List B)) → ((zs : List B) → tail ≡ Some zs → length zs ≡ length xs) → option_and_then (λ y. option_map (λ ys. y ∷ ys) tail) o ≡ Some ys → length ys ≡ suc (length xs)
    first None tail r e = absurd (cc)
    first (Some y) None r e = absurd (cc)
    first (Some y) (Some zs) r e = sym (ap length (some_same e)) ∙ ap suc (r zs refl)

pub map_none : {A B : Type 0} (f : A → B) (o : Option A) → option_map f o ≡ None → o ≡ None
map_none f None h = refl
map_none f (Some x) h = absurd (cc)

-- the value of an option that is mapped
pub map_some : {A B : Type 0} (f : A → B) (o : Option A) (y : B) → option_map f o ≡ Some y → (x : A) × (o ≡ Some x) × (f x ≡ y)
map_some f None y h = absurd (cc)
map_some f (Some x) y h = (x, refl, some_same h)
