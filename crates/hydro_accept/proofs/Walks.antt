-- Walks that add one thing for each member, item or entry.
use Rattle.std.proofs.Common.{◌≡◌, ℕ, suc, List, [], ◌∷◌, ◌++◌, map, Result, Ok, sym, ap, ◌∙◌, append-nil, append_assoc}
use Rattle.std.specs.List.{AllByRecursion}
use Rattle.serde_json.specs.Data.{Data}
use Rattle.serde_json.specs.View.{items_of}
use Rattle.problem.specs.declared.refusal.Refusal.{Refusal}
use Rattle.read_json.specs.Steps.{◌>>=◌, walk_members, walk_items, walk_list}
use Rattle.hydro_form.specs.Listed.{members_by}

-- one after another, which are no list of their own
one_more : {B : Type 0} (found : List B) (b : B) (bs : List B) → (found ++ b ∷ []) ++ bs ≡ found ++ b ∷ bs
one_more found b bs = append_assoc found (b ∷ []) bs

module _ {A B : Type 0} (P : A → Type 0) (made : A → B) where
  pub items_grow : (step : List B → ℕ → Data → Result (List B) Refusal) (value : A → Data) → ((found : List B) (i : ℕ) (x : A) → P x → step found i (value x) ≡ Ok (found ++ made x ∷ []))
      → (xs : List A) → AllByRecursion P xs → (found : List B) (i : ℕ) → walk_items step found i (items_of (map value xs)) ≡ Ok (found ++ map made xs)
  unfolding walk_items
  items_grow step value go [] all found i = ap Ok (sym (append-nil found))
  items_grow step value go (x ∷ xs) all found i =
      ap (λ (r : Result (List B) Refusal). r >>= λ next. walk_items step next (suc i) (items_of (map value xs))) (go found i x all.0)
      ∙ items_grow step value go xs all.1 (found ++ made x ∷ []) (suc i) ∙ ap Ok (one_more found (made x) (map made xs))

  pub members_grow : (step : List B → ℕ → List ℕ → Data → Result (List B) Refusal) (key : A → List ℕ) (value : A → Data) → ((found : List B) (i : ℕ) (x : A) → P x → step found i (key x) (value x) ≡ Ok (found ++ made x ∷ []))
      → (xs : List A) → AllByRecursion P xs → (found : List B) (i : ℕ) → walk_members step found i (members_by key value xs) ≡ Ok (found ++ map made xs)
  unfolding walk_members
  members_grow step key value go [] all found i = ap Ok (sym (append-nil found))
  members_grow step key value go (x ∷ xs) all found i =
      ap (λ (r : Result (List B) Refusal). r >>= λ next. walk_members step next (suc i) (members_by key value xs)) (go found i x all.0)
      ∙ members_grow step key value go xs all.1 (found ++ made x ∷ []) (suc i) ∙ ap Ok (one_more found (made x) (map made xs))

  pub list_grow : {C : Type 0} (step : List B → ℕ → C → Result (List B) Refusal) (value : A → C) → ((found : List B) (i : ℕ) (x : A) → P x → step found i (value x) ≡ Ok (found ++ made x ∷ []))
      → (xs : List A) → AllByRecursion P xs → (found : List B) (i : ℕ) → walk_list step found i (map value xs) ≡ Ok (found ++ map made xs)
  unfolding walk_list
  list_grow step value go [] all found i = ap Ok (sym (append-nil found))
  list_grow step value go (x ∷ xs) all found i =
      ap (λ (r : Result (List B) Refusal). r >>= λ next. walk_list step next (suc i) (map value xs)) (go found i x all.0)
      ∙ list_grow step value go xs all.1 (found ++ made x ∷ []) (suc i) ∙ ap Ok (one_more found (made x) (map made xs))
