-- Walks over numbered members and items.
use Rattle.std.proofs.Common.{◌≡◌, ℕ, zero, suc, ◌+◌, ◌<◌, ◌≤◌, List, [], ◌∷◌, ◌++◌, map, Result, Ok, refl, sym, ap, ◌∙◌, arith, append-nil, append_assoc}
use Rattle.std.specs.List.{range_with_len}
use Rattle.serde_json.specs.Data.{Data}
use Rattle.serde_json.specs.View.{items_of}
use Rattle.problem.specs.declared.refusal.Refusal.{Refusal}
use Rattle.read_json.specs.Steps.{◌>>=◌, walk_members, walk_items, walk_list}
use Rattle.hydro_form.specs.Listed.{members_from}

-- the findings after n steps, from the number i on
abbrev pub walked : {A : Type 0} → (A → ℕ → A) → A → ℕ → ℕ → A
walked grow found i zero = found
walked grow found i (suc n) = walked grow (grow found i) (suc i) n

pub members_walk : {A : Type 0} (step : A → ℕ → List ℕ → Data → Result A Refusal) (grow : A → ℕ → A) (key : ℕ → List ℕ) (value : ℕ → Data) (count : ℕ)
    → ((found : A) (i : ℕ) → i < count → step found i (key i) (value i) ≡ Ok (grow found i)) → (i n : ℕ) (found : A) → i + n ≤ count
    → walk_members step found i (members_from key value i n) ≡ Ok (walked grow found i n)
unfolding walk_members
members_walk step grow key value count go i zero found h = refl
members_walk {A} step grow key value count go i (suc n) found h =
    ap (λ (r : Result A Refusal). r >>= λ next. walk_members step next (suc i) (members_from key value (suc i) n)) (go found i (omega arith)) ∙ members_walk step grow key value count go (suc i) n (grow found i) (omega arith)

pub items_walk : {A : Type 0} (step : A → ℕ → Data → Result A Refusal) (grow : A → ℕ → A) (value : ℕ → Data) (count : ℕ)
    → ((found : A) (i : ℕ) → i < count → step found i (value i) ≡ Ok (grow found i)) → (i n : ℕ) (found : A) → i + n ≤ count
    → walk_items step found i (items_of (map value (range_with_len i n))) ≡ Ok (walked grow found i n)
unfolding walk_items
items_walk step grow value count go i zero found h = refl
items_walk {A} step grow value count go i (suc n) found h =
    let e : i + 1 ≡ suc i = omega arith in
    ap (λ (r : Result A Refusal). r >>= λ next. walk_items step next (suc i) (items_of (map value (range_with_len (i + 1) n)))) (go found i (omega arith))
    ∙ ap (λ (k : ℕ). walk_items step (grow found i) (suc i) (items_of (map value (range_with_len k n)))) e ∙ items_walk step grow value count go (suc i) n (grow found i) (omega arith)

pub list_walk : {A B : Type 0} (step : A → ℕ → B → Result A Refusal) (grow : A → ℕ → A) (value : ℕ → B) (count : ℕ)
    → ((found : A) (i : ℕ) → i < count → step found i (value i) ≡ Ok (grow found i)) → (i n : ℕ) (found : A) → i + n ≤ count
    → walk_list step found i (map value (range_with_len i n)) ≡ Ok (walked grow found i n)
unfolding walk_list
list_walk step grow value count go i zero found h = refl
list_walk {A} step grow value count go i (suc n) found h =
    let e : i + 1 ≡ suc i = omega arith in
    ap (λ (r : Result A Refusal). r >>= λ next. walk_list step next (suc i) (map value (range_with_len (i + 1) n))) (go found i (omega arith))
    ∙ ap (λ (k : ℕ). walk_list step (grow found i) (suc i) (map value (range_with_len k n))) e ∙ list_walk step grow value count go (suc i) n (grow found i) (omega arith)

-- one item more at each step
pub appended : {B : Type 0} (f : ℕ → B) (i n : ℕ) (found : List B) → walked (λ (xs : List B) (j : ℕ). xs ++ f j ∷ []) found i n ≡ found ++ map f (range_with_len i n)
appended f i zero found = sym (append-nil found)
appended {B} f i (suc n) found =
    let e : suc i ≡ i + 1 = omega arith in
    appended f (suc i) n (found ++ f i ∷ []) ∙ append_assoc found (f i ∷ []) (map f (range_with_len (suc i) n)) ∙ ap (λ (k : ℕ). found ++ f i ∷ map f (range_with_len k n)) e
