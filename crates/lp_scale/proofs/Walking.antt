-- Walks, one step on and at the end.
use Rattle.std.proofs.Common.{◌≡◌, ℕ, zero, suc, ◌+◌, ◌<◌, ◌≤◌, List, [], ◌∷◌, ◌++◌, length, get_or, Option, Some, take, take_all, drop, slice_set, arith, append-nil, refl, ap, ap₂, add-one, sym, ◌∙◌}
use Rattle.std.proofs.lemmas.List.{drop_more}
use Rattle.std.proofs.Math.ListN.{drop_of_length-le}
use Rattle.std.specs.Option.{option_and_then}
use Rattle.lp_scale.specs.Walks.{walk, run}

pub walk_more : {S A : Type 0} (step : ℕ → S → A → S) (whole : S) (xs : List A) (k : ℕ) (d : A) (s t : S) → k < length xs → whole ≡ walk step k s (drop k xs) → t ≡ step k s (get_or xs k d) → whole ≡ walk step (k + 1) t (drop (k + 1) xs)
walk_more step whole xs k d s t h w e = w ∙ ap (walk step k s) (drop_more xs k d h) ∙ ap₂ (λ j y. walk step j y (drop (k + 1) xs)) (sym (add-one k)) (sym e)

pub walk_all : {S A : Type 0} (step : ℕ → S → A → S) (whole : S) (xs : List A) (k : ℕ) (s : S) → length xs ≤ k → whole ≡ walk step k s (drop k xs) → whole ≡ s
walk_all step whole xs k s h w = w ∙ ap (walk step k s) (drop_of_length-le xs h)

-- a property that each step keeps is kept by the whole walk
pub walk_keeps : {S A : Type 0} (step : ℕ → S → A → S) (P : S → Type 0) → ((j : ℕ) (s : S) (x : A) → P s → P (step j s x)) → (j : ℕ) (s : S) (xs : List A) → P s → P (walk step j s xs)
walk_keeps step P keeps j s [] h = h
walk_keeps step P keeps j s (x ∷ xs) h = walk_keeps step P keeps (suc j) (step j s x) xs (keeps j s x h)

-- a list that is written over by another one, as far as the place j
pub written_more : {A : Type 0} (ys old : List A) (j : ℕ) (d : A) → j < length ys → j < length old → slice_set (take j ys ++ drop j old) j (get_or ys j d) ≡ take (suc j) ys ++ drop (suc j) old
written_more [] old j d h k = absurd (omega arith)
written_more (y ∷ ys) [] j d h k = absurd (omega arith)
written_more (y ∷ ys) (o ∷ old) zero d h k = refl
written_more (y ∷ ys) (o ∷ old) (suc j) d h k = ap (λ xs. y ∷ xs) (written_more ys old j d (omega arith) (omega arith))

pub write_more : {A : Type 0} (ys old now : List A) (j : ℕ) (x d : A) → j < length ys → j < length old → x ≡ get_or ys j d → now ≡ take j ys ++ drop j old → slice_set now j x ≡ take (j + 1) ys ++ drop (j + 1) old
write_more ys old now j x d h k e w = ap₂ (λ xs z. slice_set xs j z) w e ∙ written_more ys old j d h k ∙ ap (λ (i : ℕ). take i ys ++ drop i old) (sym (add-one j))

pub write_all : {A : Type 0} (ys old now : List A) (j : ℕ) → length ys ≤ j → length old ≤ j → now ≡ take j ys ++ drop j old → now ≡ ys
write_all ys old now j h k w = w ∙ ap₂ (λ a b. a ++ b) (take_all j ys h) (drop_of_length-le old k) ∙ append-nil ys

pub run_next : {S A : Type 0} (step : ℕ → A → S → Option S) (whole : Option S) (xs : List A) (k : ℕ) (d : A) (s t : S) → k < length xs → whole ≡ run step k (drop k xs) s → step k (get_or xs k d) s ≡ Some t → whole ≡ run step (k + 1) (drop (k + 1) xs) t
run_next step whole xs k d s t h w e =
    w ∙ ap (λ ys. run step k ys s) (drop_more xs k d h) ∙ ap (option_and_then (run step (suc k) (drop (k + 1) xs))) e ∙ ap (λ (j : ℕ). run step j (drop (k + 1) xs) t) (sym (add-one k))
