-- Numbered lists and members, one more at their end.
use Rattle.std.proofs.Common.{◌≡◌, ℕ, zero, suc, ◌+◌, ◌<◌, List, [], ◌∷◌, ◌++◌, map, Greater, nat_cmp, refl, sym, ap, ◌∙◌, arith, append-nil, append_assoc}
use Rattle.std.specs.List.{flat_map}
use Rattle.std.proofs.lemmas.List.{map-append}
use Rattle.std.specs.Cmp.Lexicographic.{slice_cmp}
use Rattle.std.proofs.lemmas.Grind.{flat_map-append}
use Rattle.serde_json.specs.Data.{Data, Members, member, put}
use Rattle.serde_json.specs.View.{view}
use Rattle.serde_json.specs.declared.value.Value.{Value}
use Rattle.base_graph.specs.Paths.{numbers}
use Rattle.base_graph.proofs.Numbers.{numbers_more}
use Rattle.hydro_form.specs.Listed.{members_from, put_by}

pub map_more : {A : Type 0} (f : ℕ → A) (n : ℕ) → map f (numbers (n + 1)) ≡ map f (numbers n) ++ f n ∷ []
map_more f n = ap (map f) (numbers_more n) ∙ map-append f (numbers n) (n ∷ [])

pub list_grown : (f : ℕ → Data) (n : ℕ) (old new : List Value) (v : Value) → new ≡ old ++ v ∷ [] → map view old ≡ map f (numbers n) → view v ≡ f n → map view new ≡ map f (numbers (n + 1))
list_grown f n old new v is before here =
    ap (map view) is ∙ map-append view old (v ∷ []) ∙ ap (λ (ds : List Data). ds ++ view v ∷ []) before ∙ ap (λ (d : Data). map f (numbers n) ++ d ∷ []) here ∙ sym (map_more f n)

pub flat_more : {A : Type 0} (f : ℕ → List A) (n : ℕ) → flat_map f (numbers (n + 1)) ≡ flat_map f (numbers n) ++ f n
flat_more f n = ap (flat_map f) (numbers_more n) ∙ flat_map-append f (numbers n) (n ∷ []) ∙ ap (λ l. flat_map f (numbers n) ++ l) (append-nil (f n))

-- a member with a key above those before it goes last
put_from : (key : ℕ → List ℕ) (value : ℕ → Data) (i n m : ℕ) → m ≡ i + n → ((j : ℕ) → j < m → slice_cmp nat_cmp (key m) (key j) ≡ Greater)
    → put (key m) (value m) (members_from key value i n) ≡ members_from key value i (suc n)
put_from key value i zero m e above = let s : m ≡ i = omega arith in rw s
put_from key value i (suc n) m e above = rw (above i (omega arith)) (ap (member (key i) (value i)) (put_from key value (suc i) n m (omega arith) above))

pub put_next : (key : ℕ → List ℕ) (value : ℕ → Data) (n : ℕ) → ((j : ℕ) → j < n → slice_cmp nat_cmp (key n) (key j) ≡ Greater)
    → put (key n) (value n) (members_from key value 0 n) ≡ members_from key value 0 (n + 1)
put_next key value n above = let s : n + 1 ≡ suc n = omega arith in put_from key value 0 n n (omega arith) above ∙ ap (members_from key value 0) (sym s)

-- ---- one more behind a front

-- one more that was pushed
pub pushed : {V B : Type 0} (seen : V → B) (old new : List V) (v : V) → new ≡ old ++ v ∷ [] → map seen new ≡ map seen old ++ seen v ∷ []
pushed seen old new v is = ap (map seen) is ∙ map-append seen old (v ∷ [])

pub pushed_two : {V B : Type 0} (seen : V → B) (old mid new : List V) (v w : V) → mid ≡ old ++ v ∷ [] → new ≡ mid ++ w ∷ [] → map seen new ≡ map seen old ++ seen v ∷ seen w ∷ []
pushed_two {V} {B} seen old mid new v w one two =
    pushed seen mid new w two ∙ ap (λ (l : List B). l ++ seen w ∷ []) (pushed seen old mid v one) ∙ append_assoc (map seen old) (seen v ∷ []) (seen w ∷ [])

pub map_joined : {B : Type 0} (f : ℕ → B) (n : ℕ) (front old new : List B) → new ≡ old ++ f n ∷ [] → old ≡ front ++ map f (numbers n) → new ≡ front ++ map f (numbers (n + 1))
map_joined {B} f n front old new is before =
    is ∙ ap (λ (l : List B). l ++ f n ∷ []) before ∙ append_assoc front (map f (numbers n)) (f n ∷ []) ∙ ap (λ (l : List B). front ++ l) (sym (map_more f n))

pub flat_joined : {B : Type 0} (f : ℕ → List B) (n : ℕ) (front old new : List B) → new ≡ old ++ f n → old ≡ front ++ flat_map f (numbers n) → new ≡ front ++ flat_map f (numbers (n + 1))
flat_joined {B} f n front old new is before =
    is ∙ ap (λ (l : List B). l ++ f n) before ∙ append_assoc front (flat_map f (numbers n)) (f n) ∙ ap (λ (l : List B). front ++ l) (sym (flat_more f n))

-- where each of what is joined is seen
pub seen_joined : {A B : Type 0} (seen : A → B) (f : ℕ → List A) (n : ℕ) (front old new : List B) → new ≡ old ++ map seen (f n) → old ≡ front ++ map seen (flat_map f (numbers n)) → new ≡ front ++ map seen (flat_map f (numbers (n + 1)))
seen_joined {A} {B} seen f n front old new is before =
    is ∙ ap (λ (l : List B). l ++ map seen (f n)) before ∙ append_assoc front (map seen (flat_map f (numbers n))) (map seen (f n))
    ∙ ap (λ (l : List B). front ++ l) (sym (map-append seen (flat_map f (numbers n)) (f n)) ∙ ap (map seen) (sym (flat_more f n)))

-- ---- members put one after another

pub put_by-append : {A : Type 0} (key : A → List ℕ) (value : A → Data) (xs ys : List A) (ms : Members) → put_by key value (xs ++ ys) ms ≡ put_by key value ys (put_by key value xs ms)
put_by-append key value [] ys ms = refl
put_by-append key value (x ∷ xs) ys ms = put_by-append key value xs ys (put (key x) (value x) ms)

-- one more
pub put_more : {A : Type 0} (key : A → List ℕ) (value : A → Data) (xs : List A) (x : A) (front old new : Members) (k : List ℕ) (d : Data) → new ≡ put k d old → k ≡ key x → d ≡ value x
    → old ≡ put_by key value xs front → new ≡ put_by key value (xs ++ x ∷ []) front
put_more key value xs x front old new k d is same here before = is ∙ rw (same, here, before) (sym (put_by-append key value xs (x ∷ []) front))

pub put_by-map : {A B : Type 0} (key : B → List ℕ) (value : B → Data) (f : A → B) (xs : List A) (ms : Members) → put_by key value (map f xs) ms ≡ put_by (λ x. key (f x)) (λ x. value (f x)) xs ms
put_by-map key value f [] ms = refl
put_by-map key value f (x ∷ xs) ms = put_by-map key value f xs (put (key (f x)) (value (f x)) ms)
