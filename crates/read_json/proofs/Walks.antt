-- Walks over members and items, as loops make them.
use Rattle.std.proofs.lemmas.List.{drop_more, drop_all}
use Rattle.std.proofs.Common.{◌<◌, ◌≤◌, length, drop, get_or, subst, ◌≡◌, ℕ, suc, ◌+◌, List, [], ◌∷◌, Result, Ok, Err, sym, ap, ◌∙◌, arith, string_bytes}
use Rattle.serde_json.specs.Data.{Data}
use Rattle.serde_json.specs.View.{view, members_view, items_view}
use Rattle.serde_json.specs.declared.value.Value.{Value}
use Rattle.serde_json.proofs.Views.{Entry}
use Rattle.problem.specs.declared.refusal.Refusal.{Refusal}
use Rattle.read_json.specs.declared.refusal.ReadRefusal.{ReadRefusal}
use Rattle.read_json.specs.declared.refusal.ReadRefusal.TheVariants as refusals
use Rattle.read_json.specs.Steps.{◌>>=◌, Fails, walk_members, walk_items, walk_list}

-- one member, and then the others
one : {A E : Type 0} (step : A → ℕ → List ℕ → Data → Result A E) (found : A) (i : ℕ) (e : Entry) (left es : List Entry) → es ≡ e ∷ left
    → walk_members step found i (members_view es) ≡ (step found i (string_bytes e.0) (view e.1) >>= λ next. walk_members step next (suc i) (members_view left))
unfolding walk_members
one step found i e left es is = rw is

pub members-go : {A E : Type 0} (step : A → ℕ → List ℕ → Data → Result A E) (found next : A) (i : ℕ) (e : Entry) (left es : List Entry) (total : Result A E) → es ≡ e ∷ left
    → step found i (string_bytes e.0) (view e.1) ≡ Ok next → walk_members step found i (members_view es) ≡ total → walk_members step next (i + 1) (members_view left) ≡ total
members-go {A} {E} step found next i e left es total is h so_far =
    let k : i + 1 ≡ suc i = omega arith in
    rw k (sym (one step found i e left es is ∙ ap (λ (r : Result A E). r >>= λ n. walk_members step n (suc i) (members_view left)) h) ∙ so_far)

pub members-refused : {A E : Type 0} (step : A → ℕ → List ℕ → Data → Result A E) (found : A) (i : ℕ) (e : Entry) (left es : List Entry) (total : Result A E) (r : E) → es ≡ e ∷ left
    → step found i (string_bytes e.0) (view e.1) ≡ Err r → walk_members step found i (members_view es) ≡ total → total ≡ Err r
members-refused {A} {E} step found i e left es total r is h so_far =
    sym so_far ∙ one step found i e left es is ∙ ap (λ (r : Result A E). r >>= λ n. walk_members step n (suc i) (members_view left)) h

pub members-fail : {A : Type 0} (step : A → ℕ → List ℕ → Data → Result A Refusal) (found : A) (i : ℕ) (e : Entry) (left es : List Entry) (total : Result A Refusal) (refusal : ReadRefusal) → es ≡ e ∷ left
    → Fails refusal (step found i (string_bytes e.0) (view e.1)) → walk_members step found i (members_view es) ≡ total → Fails refusal total
members-fail step found i e left es total refusals.Memory is h so_far = tt
members-fail step found i e left es total (refusals.Refused r) is h so_far = members-refused step found i e left es total r is h so_far

pub members-done : {A E : Type 0} (step : A → ℕ → List ℕ → Data → Result A E) (found : A) (i : ℕ) (es : List Entry) (total : Result A E) → es ≡ [] → walk_members step found i (members_view es) ≡ total → total ≡ Ok found
unfolding walk_members
members-done step found i es total is so_far = sym so_far ∙ rw is

one_item : {A E : Type 0} (step : A → ℕ → Data → Result A E) (found : A) (i : ℕ) (v : Value) (vs : List Value) → i < length vs → v ≡ get_or vs i v
    → walk_items step found i (items_view (drop i vs)) ≡ (step found i (view v) >>= λ next. walk_items step next (suc i) (items_view (drop (i + 1) vs)))
unfolding walk_items
one_item step found i v vs lt is = rw (drop_more vs i v lt ∙ ap (λ (x : Value). x ∷ drop (i + 1) vs) (sym is))

pub items-go : {A E : Type 0} (step : A → ℕ → Data → Result A E) (found next : A) (i : ℕ) (v : Value) (vs : List Value) (total : Result A E) → i < length vs → v ≡ get_or vs i v
    → step found i (view v) ≡ Ok next → walk_items step found i (items_view (drop i vs)) ≡ total → walk_items step next (i + 1) (items_view (drop (i + 1) vs)) ≡ total
items-go {A} {E} step found next i v vs total lt is h so_far =
    let k : i + 1 ≡ suc i = omega arith in
    let all = one_item step found i v vs lt is ∙ ap (λ (r : Result A E). r >>= λ n. walk_items step n (suc i) (items_view (drop (i + 1) vs))) h in
    subst (λ j. walk_items step next j (items_view (drop (i + 1) vs)) ≡ total) (sym k) (sym all ∙ so_far)

pub items-refused : {A E : Type 0} (step : A → ℕ → Data → Result A E) (found : A) (i : ℕ) (v : Value) (vs : List Value) (total : Result A E) (r : E) → i < length vs → v ≡ get_or vs i v
    → step found i (view v) ≡ Err r → walk_items step found i (items_view (drop i vs)) ≡ total → total ≡ Err r
items-refused {A} {E} step found i v vs total r lt is h so_far =
    sym so_far ∙ one_item step found i v vs lt is ∙ ap (λ (r : Result A E). r >>= λ n. walk_items step n (suc i) (items_view (drop (i + 1) vs))) h

pub items-fail : {A : Type 0} (step : A → ℕ → Data → Result A Refusal) (found : A) (i : ℕ) (v : Value) (vs : List Value) (total : Result A Refusal) (refusal : ReadRefusal) → i < length vs → v ≡ get_or vs i v
    → Fails refusal (step found i (view v)) → walk_items step found i (items_view (drop i vs)) ≡ total → Fails refusal total
items-fail step found i v vs total refusals.Memory lt is h so_far = tt
items-fail step found i v vs total (refusals.Refused r) lt is h so_far = items-refused step found i v vs total r lt is h so_far

pub items-done : {A E : Type 0} (step : A → ℕ → Data → Result A E) (found : A) (i : ℕ) (vs : List Value) (total : Result A E) → length vs ≤ i → walk_items step found i (items_view (drop i vs)) ≡ total → total ≡ Ok found
unfolding walk_items
items-done step found i vs total le so_far = sym so_far ∙ rw (drop_all i vs le)

one_entry : {A B E : Type 0} (step : A → ℕ → B → Result A E) (found : A) (i : ℕ) (x d : B) (xs : List B) → i < length xs → x ≡ get_or xs i d
    → walk_list step found i (drop i xs) ≡ (step found i x >>= λ next. walk_list step next (suc i) (drop (i + 1) xs))
unfolding walk_list
one_entry {A} {B} {E} step found i x d xs lt is = rw (drop_more xs i d lt ∙ ap (λ (y : B). y ∷ drop (i + 1) xs) (sym is))

pub list-go : {A B E : Type 0} (step : A → ℕ → B → Result A E) (found next : A) (i : ℕ) (x d : B) (xs : List B) (total : Result A E) → i < length xs → x ≡ get_or xs i d
    → step found i x ≡ Ok next → walk_list step found i (drop i xs) ≡ total → walk_list step next (i + 1) (drop (i + 1) xs) ≡ total
list-go {A} {B} {E} step found next i x d xs total lt is h so_far =
    let k : i + 1 ≡ suc i = omega arith in
    let all = one_entry step found i x d xs lt is ∙ ap (λ (r : Result A E). r >>= λ n. walk_list step n (suc i) (drop (i + 1) xs)) h in
    subst (λ j. walk_list step next j (drop (i + 1) xs) ≡ total) (sym k) (sym all ∙ so_far)

pub list-refused : {A B E : Type 0} (step : A → ℕ → B → Result A E) (found : A) (i : ℕ) (x d : B) (xs : List B) (total : Result A E) (r : E) → i < length xs → x ≡ get_or xs i d
    → step found i x ≡ Err r → walk_list step found i (drop i xs) ≡ total → total ≡ Err r
list-refused {A} {B} {E} step found i x d xs total r lt is h so_far =
    sym so_far ∙ one_entry step found i x d xs lt is ∙ ap (λ (r : Result A E). r >>= λ n. walk_list step n (suc i) (drop (i + 1) xs)) h

pub list-fail : {A B : Type 0} (step : A → ℕ → B → Result A Refusal) (found : A) (i : ℕ) (x d : B) (xs : List B) (total : Result A Refusal) (refusal : ReadRefusal) → i < length xs → x ≡ get_or xs i d
    → Fails refusal (step found i x) → walk_list step found i (drop i xs) ≡ total → Fails refusal total
list-fail step found i x d xs total refusals.Memory lt is h so_far = tt
list-fail step found i x d xs total (refusals.Refused r) lt is h so_far = list-refused step found i x d xs total r lt is h so_far

pub list-done : {A B E : Type 0} (step : A → ℕ → B → Result A E) (found : A) (i : ℕ) (xs : List B) (total : Result A E) → length xs ≤ i → walk_list step found i (drop i xs) ≡ total → total ≡ Ok found
unfolding walk_list
list-done step found i xs total le so_far = sym so_far ∙ rw (drop_all i xs le)
