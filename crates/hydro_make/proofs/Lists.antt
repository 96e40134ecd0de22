-- Sums and facts over lists of lists and over the numbers below n, and the terms of a row.
use Rattle.std.proofs.Common.{◌≡◌, ℕ, zero, suc, ◌+◌, ◌<◌, ◌≤◌, ℤ, pos, ◌+ℤ◌, ◌*ℤ◌, List, [], ◌∷◌, ◌++◌, length, map, get_or, All, Bool, true, false, Decides, if◌then◌else◌, refl, sym, ap, ap₂, subst, ◌∙◌, arith}
use Rattle.std.specs.List.{flat_map, range_with_len}
use Rattle.std.specs.Ordering.{int_eq}
use Rattle.std.proofs.lemmas.Bool.Decides.{Decides-int_eq}
use Rattle.std.proofs.lemmas.List.{get_or-map}
use Rattle.std.proofs.lemmas.List.Elements.{All-nil, All-cons, All-head, All-tail, All-append}
use lib.IntN.{zero-*ℤ, +ℤ_idl}
use Rattle.base_num.specs.Sums.{sum_to, total, entry, at_terms, Term, same_place}
use Rattle.base_num.proofs.Sums.{sum_same}
use Rattle.base_num.proofs.Fronts.{total-append}
use Rattle.base_graph.specs.Paths.{numbers}
use Rattle.hydro_make.specs.Terms.{terms_from_place}
use Rattle.hydro_make.specs.Layout.{steps}

-- ---- sums

pub total-map : {A B : Type 0} (f : B → ℤ) (g : A → B) (xs : List A) → total f (map g xs) ≡ total (λ x. f (g x)) xs
total-map f g [] = refl
total-map f g (x ∷ xs) = ap (λ (k : ℤ). f (g x) +ℤ k) (total-map f g xs)

pub total-flat_map : {A B : Type 0} (f : B → ℤ) (g : A → List B) (xs : List A) → total f (flat_map g xs) ≡ total (λ x. total f (g x)) xs
total-flat_map f g [] = refl
total-flat_map f g (x ∷ xs) = total-append f (g x) (flat_map g xs) ∙ ap (λ (k : ℤ). total f (g x) +ℤ k) (total-flat_map f g xs)

pub total_none : {A : Type 0} (f : A → ℤ) (xs : List A) → ((x : A) → f x ≡ pos 0) → total f xs ≡ pos 0
total_none f [] h = refl
total_none f (x ∷ xs) h = ap₂ ◌+ℤ◌ (h x) (total_none f xs h)

total_range : (a n : ℕ) (f g : ℕ → ℤ) → ((j : ℕ) → f (a + j) ≡ g j) → total f (range_with_len a n) ≡ sum_to n g
total_range a zero f g h = refl
total_range a (suc n) f g h =
    let first : a ≡ a + 0 = omega arith in
    ap₂ ◌+ℤ◌ (ap f first ∙ h 0) (total_range (a + 1) n f (λ j. g (suc j)) (λ j. let next : a + 1 + j ≡ a + suc j = omega arith in ap f next ∙ h (suc j)))

-- the value beside the number j
pub total_same : (n j : ℕ) (f : ℕ → ℤ) → j < n → total (λ i. same_place j i *ℤ f i) (numbers n) ≡ f j
total_same n j f h =
    total_range 0 n (λ i. same_place j i *ℤ f i) (λ i. same_place j i *ℤ f i) (λ i. let none : 0 + i ≡ i = omega arith in ap (λ (k : ℕ). same_place j k *ℤ f k) none) ∙ sum_same n j f h

pub total_step : (n j : ℕ) (f : ℕ → ℤ) → j < n → total (λ k. same_place (suc j) k *ℤ f k) (steps n) ≡ f (suc j)
total_step n j f h = total-map (λ k. same_place (suc j) k *ℤ f k) suc (numbers n) ∙ total_same n j (λ k. f (suc k)) h

-- equal where only the numbers below n count
pub total_below : (n : ℕ) (f g : ℕ → ℤ) → ((j : ℕ) → j < n → f j ≡ g j) → total f (numbers n) ≡ total g (numbers n)
total_below n f g h = within 0 n (λ j p. h j (omega arith))
  where
    within : (a m : ℕ) → ((j : ℕ) → j < a + m → f j ≡ g j) → total f (range_with_len a m) ≡ total g (range_with_len a m)
    within a zero k = refl
    within a (suc m) k = ap₂ ◌+ℤ◌ (k a (omega arith)) (within (a + 1) m (λ j p. k j (omega arith)))

-- ---- terms

pub entry-map : {A : Type 0} (y : A → ℤ) (ds : List A) (i : ℕ) (d : A) → i < length ds → entry (map y ds) i ≡ y (get_or ds i d)
entry-map y ds i d h = get_or-map y ds i d (pos 0) h

one_term : (b : Bool) (x : ℤ) (k : ℕ) (ts : List Term) (f : ℕ → ℤ) → Decides b (x ≡ pos 0) → at_terms (if b then ts else (k, x) ∷ ts) f ≡ x *ℤ f k +ℤ at_terms ts f
one_term true x k ts f d = sym (ap (λ (z : ℤ). z *ℤ f k +ℤ at_terms ts f) (d.0 refl) ∙ ap (λ (z : ℤ). z +ℤ at_terms ts f) (zero-*ℤ (f k)) ∙ +ℤ_idl (at_terms ts f))
one_term false x k ts f d = refl

terms_weigh : {A : Type 0} (c y : A → ℤ) (f : ℕ → ℤ) (k : ℕ) (ds : List A) → ((i : ℕ) (d : A) → i < length ds → f (k + i) ≡ y (get_or ds i d)) → at_terms (terms_from_place k (map c ds)) f ≡ total (λ d. c d *ℤ y d) ds
terms_weigh c y f k [] h = refl
terms_weigh c y f k (d ∷ ds) h =
    let first : k ≡ k + 0 = omega arith in
    one_term (int_eq (c d) (pos 0)) (c d) k (terms_from_place (k + 1) (map c ds)) f (Decides-int_eq (c d) (pos 0))
    ∙ ap₂ ◌+ℤ◌ (ap (λ (z : ℤ). c d *ℤ z) (ap f first ∙ h 0 d (omega arith)))
    (terms_weigh c y f (k + 1) ds (λ i e p. let next : k + 1 + i ≡ k + suc i = omega arith in ap f next ∙ h (suc i) e (omega arith)))

-- the sum of a row's terms
pub terms_sum : {A : Type 0} (c y : A → ℤ) (ds : List A) → at_terms (terms_from_place 0 (map c ds)) (entry (map y ds)) ≡ total (λ d. c d *ℤ y d) ds
terms_sum c y ds = terms_weigh c y (entry (map y ds)) 0 ds (λ i d p. let none : 0 + i ≡ i = omega arith in ap (entry (map y ds)) none ∙ entry-map y ds i d p)

-- ---- what holds of each

pub All-left : {A : Type 0} (P : A → Type 0) (xs ys : List A) → All P (xs ++ ys) → All P xs
All-left P [] ys h = All-nil P
All-left P (x ∷ xs) ys h = All-cons P x xs (All-head P x (xs ++ ys) h) (All-left P xs ys (All-tail P x (xs ++ ys) h))

pub All-right : {A : Type 0} (P : A → Type 0) (xs ys : List A) → All P (xs ++ ys) → All P ys
All-right P [] ys h = h
All-right P (x ∷ xs) ys h = All-right P xs ys (All-tail P x (xs ++ ys) h)

pub all_each : {A : Type 0} (P : A → Type 0) (f : ℕ → A) (n : ℕ) → ((j : ℕ) → j < n → P (f j)) → All P (map f (numbers n))
all_each P f n h = within 0 n (λ j p. h j (omega arith))
  where
    within : (a m : ℕ) → ((j : ℕ) → j < a + m → P (f j)) → All P (map f (range_with_len a m))
    within a zero k = All-nil P
    within a (suc m) k = All-cons P (f a) (map f (range_with_len (a + 1) m)) (k a (omega arith)) (within (a + 1) m (λ j p. k j (omega arith)))

either : (a j : ℕ) → a ≤ j → (C : Type 0) → (a ≡ j → C) → (a + 1 ≤ j → C) → C
either zero zero l C f g = f refl
either zero (suc j) l C f g = g (omega arith)
either (suc a) zero l C f g = absurd (omega arith)
either (suc a) (suc j) l C f g = either a j (omega arith) C (λ e. f (ap suc e)) (λ q. g (omega arith))

pub each_all : {A : Type 0} (P : A → Type 0) (f : ℕ → A) (n : ℕ) → All P (map f (numbers n)) → (j : ℕ) → j < n → P (f j)
each_all P f n h j p = within 0 n h j (omega arith) (omega arith)
  where
    within : (a m : ℕ) → All P (map f (range_with_len a m)) → (j : ℕ) → a ≤ j → j < a + m → P (f j)
    within a zero k j l p = absurd (omega arith)
    within a (suc m) k j l p = either a j l (P (f j)) (λ e. subst (λ (i : ℕ). P (f i)) e (All-head P (f a) (map f (range_with_len (a + 1) m)) k)) (λ q. within (a + 1) m (All-tail P (f a) (map f (range_with_len (a + 1) m)) k) j q (omega arith))

pub all_flat : {A : Type 0} (P : A → Type 0) (g : ℕ → List A) (n : ℕ) → ((j : ℕ) → j < n → All P (g j)) → All P (flat_map g (numbers n))
all_flat P g n h = within 0 n (λ j p. h j (omega arith))
  where
    within : (a m : ℕ) → ((j : ℕ) → j < a + m → All P (g j)) → All P (flat_map g (range_with_len a m))
    within a zero k = All-nil P
    within a (suc m) k = All-append P (g a) (flat_map g (range_with_len (a + 1) m)) (k a (omega arith)) (within (a + 1) m (λ j p. k j (omega arith)))

pub each_flat : {A : Type 0} (P : A → Type 0) (g : ℕ → List A) (n : ℕ) → All P (flat_map g (numbers n)) → (j : ℕ) → j < n → All P (g j)
each_flat P g n h j p = within 0 n h j (omega arith) (omega arith)
  where
    within : (a m : ℕ) → All P (flat_map g (range_with_len a m)) → (j : ℕ) → a ≤ j → j < a + m → All P (g j)
    within a zero k j l p = absurd (omega arith)
    within a (suc m) k j l p =
        either a j l (All P (g j)) (λ e. subst (λ (i : ℕ). All P (g i)) e (All-left P (g a) (flat_map g (range_with_len (a + 1) m)) k)) (λ q. within (a + 1) m (All-right P (g a) (flat_map g (range_with_len (a + 1) m)) k) j q (omega arith))

map_steps : {A : Type 0} (f : ℕ → A) (ns : List ℕ) → map f (map suc ns) ≡ map (λ m. f (suc m)) ns
map_steps f [] = refl
map_steps f (n ∷ ns) = ap (λ xs. f (suc n) ∷ xs) (map_steps f ns)

pub all_steps : {A : Type 0} (P : A → Type 0) (f : ℕ → A) (n : ℕ) → ((m : ℕ) → m < n → P (f (suc m))) → All P (map f (steps n))
all_steps P f n h = subst (All P) (sym (map_steps f (numbers n))) (all_each P (λ m. f (suc m)) n h)

pub each_step : {A : Type 0} (P : A → Type 0) (f : ℕ → A) (n : ℕ) → All P (map f (steps n)) → (m : ℕ) → m < n → P (f (suc m))
each_step P f n h m p = each_all P (λ k. f (suc k)) n (subst (All P) (map_steps f (numbers n)) h) m p

-- two functions that agree on each member
pub map_same : {A B : Type 0} (f g : A → B) (xs : List A) → All (λ x. f x ≡ g x) xs → map f xs ≡ map g xs
map_same f g [] h = refl
map_same f g (x ∷ xs) h = ap₂ ◌∷◌ (All-head (λ y. f y ≡ g y) x xs h) (map_same f g xs (All-tail (λ y. f y ≡ g y) x xs h))
