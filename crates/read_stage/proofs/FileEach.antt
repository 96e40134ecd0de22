-- Walks over items and members that read each one.
use Rattle.std.proofs.Common.{◌≡◌, ℕ, suc, List, [], ◌∷◌, ◌++◌, Option, Some, Result, Ok, refl, sym, ap₂, subst}
use Rattle.std.proofs.lemmas.List.{append-nil, append_assoc}
use Rattle.serde_json.specs.Data.{Data, Items, no_items, item, Members, no_members, member}
use Rattle.problem.specs.declared.refusal.Refusal.{Refusal}
use Rattle.read_json.specs.Steps.{walk_items, walk_members}
use Rattle.read_json.proofs.Accepted.{Ok-is}
use Rattle.read_json.proofs.Answered.{step-Ok}
use Rattle.read_profile.specs.File.{both, each, each_member}

module _ {A B : Type 0} (P : A → List B → Type 0) where
  -- each step reads what the item says, and keeps P of what was found and what was said so far
  pub walk_items-says : (step : A → ℕ → Data → Result A Refusal) (says : Data → Option B)
      → ((found next : A) (i : ℕ) (d : Data) (done : List B) → step found i d ≡ Ok next → P found done → (x : B) × (says d ≡ Some x) × P next (done ++ x ∷ []))
      → (ds : Items) (found all : A) (i : ℕ) (done : List B) → walk_items step found i ds ≡ Ok all → P found done → (xs : List B) × (each says ds ≡ Some xs) × P all (done ++ xs)
  unfolding walk_items
  walk_items-says step says keep no_items found all i done is p = ([], refl, subst (λ a. P a (done ++ [])) (Ok-is found all is) (subst (P found) (sym (append-nil done)) p))
  walk_items-says step says keep (item d ds) found all i done is p =
      let first = step-Ok _ _ all is in
      let one = keep found first.0 i d done first.1 p in
      let tail = walk_items-says step says keep ds first.0 all (suc i) (done ++ one.0 ∷ []) first.2 one.2 in
      (one.0 ∷ tail.0, ap₂ (both ◌∷◌) one.1 tail.1, subst (P all) (append_assoc done (one.0 ∷ []) tail.0) tail.2)

module _ {A B : Type 0} (P : A → List B → Type 0) where
  -- like walk_items-says, for members with their keys
  pub walk_members-says : (step : A → ℕ → List ℕ → Data → Result A Refusal) (says : List ℕ → Data → Option B)
      → ((found next : A) (i : ℕ) (k : List ℕ) (d : Data) (done : List B) → step found i k d ≡ Ok next → P found done → (x : B) × (says k d ≡ Some x) × P next (done ++ x ∷ []))
      → (ms : Members) (found all : A) (i : ℕ) (done : List B) → walk_members step found i ms ≡ Ok all → P found done → (xs : List B) × (each_member says ms ≡ Some xs) × P all (done ++ xs)
  unfolding walk_members
  walk_members-says step says keep no_members found all i done is p = ([], refl, subst (λ a. P a (done ++ [])) (Ok-is found all is) (subst (P found) (sym (append-nil done)) p))
  walk_members-says step says keep (member k d ms) found all i done is p =
      let first = step-Ok _ _ all is in
      let one = keep found first.0 i k d done first.1 p in
      let tail = walk_members-says step says keep ms first.0 all (suc i) (done ++ one.0 ∷ []) first.2 one.2 in
      (one.0 ∷ tail.0, ap₂ (both ◌∷◌) one.1 tail.1, subst (P all) (append_assoc done (one.0 ∷ []) tail.0) tail.2)
