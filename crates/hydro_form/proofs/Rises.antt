-- Entries whose keys rise, and members that stand in the order in which they are put.
use Rattle.std.proofs.Common.{◌≡◌, ℕ, zero, suc, ◌+◌, ◌<◌, ◌≤◌, ◌&&◌, List, [], ◌∷◌, ◌++◌, length, map, get_or, Bool, true, false, if◌then◌else◌, Ordering, Less, Equal, Greater, nat_cmp, refl, sym, ap, subst, ◌∙◌, arith, append-nil, append_assoc}
use Rattle.std.specs.List.{AllByRecursion, flat_map, range_with_len}
use Rattle.std.specs.Cmp.Lexicographic.{slice_cmp}
use Rattle.std.specs.Ordering.{is_lt}
use Rattle.std.proofs.lemmas.Cmp.{nat_list_cmp_total}
use Rattle.serde_json.specs.Data.{Data, no_members, member, put}
use Rattle.problem.specs.Distinct.{rises, is_before}
use Rattle.hydro_form.specs.Listed.{members_by, put_by}
use Rattle.hydro_form.proofs.Orders.{above_from_below}

abbrev pub Before : List ℕ → List ℕ → Type 0
Before a b = slice_cmp nat_cmp a b ≡ Less

-- each key is before those after it
abbrev pub Rises : {A : Type 0} → (A → List ℕ) → List A → Type 0
Rises key [] = Unit {0}
Rises key (x ∷ xs) = AllByRecursion (λ y. Before (key x) (key y)) xs × Rises key xs

-- each key of the former is before each of the latter
abbrev pub AllBefore : {A : Type 0} → (A → List ℕ) → List A → List A → Type 0
AllBefore key xs ys = AllByRecursion (λ x. AllByRecursion (λ y. Before (key x) (key y)) ys) xs

-- ---- what holds of each

pub each_append : {A : Type 0} (P : A → Type 0) (xs ys : List A) → AllByRecursion P xs → AllByRecursion P ys → AllByRecursion P (xs ++ ys)
each_append P [] ys h k = k
each_append P (x ∷ xs) ys h k = (h.0, each_append P xs ys h.1 k)

each_range : {A : Type 0} (P : A → Type 0) (f : ℕ → List A) (a n : ℕ) → ((i : ℕ) → a ≤ i → i < a + n → AllByRecursion P (f i)) → AllByRecursion P (flat_map f (range_with_len a n))
each_range P f a zero h = tt
each_range P f a (suc n) h = each_append P (f a) (flat_map f (range_with_len (a + 1) n)) (h a (omega arith) (omega arith)) (each_range P f (a + 1) n (λ i k l. h i (omega arith) (omega arith)))

pub each_of_all : {A : Type 0} (P : A → Type 0) (f : ℕ → List A) (n : ℕ) → ((i : ℕ) → i < n → AllByRecursion P (f i)) → AllByRecursion P (flat_map f (range_with_len 0 n))
each_of_all P f n h = each_range P f 0 n (λ i k l. h i (omega arith))

map_range : {A : Type 0} (P : A → Type 0) (f : ℕ → A) (a n : ℕ) → ((i : ℕ) → a ≤ i → i < a + n → P (f i)) → AllByRecursion P (map f (range_with_len a n))
map_range P f a zero h = tt
map_range P f a (suc n) h = (h a (omega arith) (omega arith), map_range P f (a + 1) n (λ i k l. h i (omega arith) (omega arith)))

pub each_of_map : {A : Type 0} (P : A → Type 0) (f : ℕ → A) (n : ℕ) → ((i : ℕ) → i < n → P (f i)) → AllByRecursion P (map f (range_with_len 0 n))
each_of_map P f n h = map_range P f 0 n (λ i k l. h i (omega arith))

pub each_if : {A : Type 0} (P : A → Type 0) (b : Bool) (x : A) → P x → AllByRecursion P (if b then x ∷ [] else [])
each_if P true x h = (h, tt)
each_if P false x h = tt

-- ---- what rises

pub rises_append : {A : Type 0} (key : A → List ℕ) (xs ys : List A) → Rises key xs → Rises key ys → AllBefore key xs ys → Rises key (xs ++ ys)
rises_append key [] ys r s h = s
rises_append key (x ∷ xs) ys r s h = (each_append (λ y. Before (key x) (key y)) xs ys r.0 h.0, rises_append key xs ys r.1 s h.1)

pub rises_if : {A : Type 0} (key : A → List ℕ) (b : Bool) (x : A) → Rises key (if b then x ∷ [] else [])
rises_if key true x = (tt, tt)
rises_if key false x = tt

across : {A : Type 0} (key : A → List ℕ) (f : ℕ → List A) (xs : List A) (a n : ℕ) → ((j : ℕ) → a ≤ j → j < a + n → AllBefore key xs (f j)) → AllBefore key xs (flat_map f (range_with_len a n))
across key f [] a n h = tt
across key f (x ∷ xs) a n h = (each_range (λ y. Before (key x) (key y)) f a n (λ j l m. (h j l m).0), across key f xs a n (λ j l m. (h j l m).1))

rises_range : {A : Type 0} (key : A → List ℕ) (f : ℕ → List A) (a n : ℕ) → ((i : ℕ) → i < a + n → Rises key (f i)) → ((i j : ℕ) → i < j → j < a + n → AllBefore key (f i) (f j)) → Rises key (flat_map f (range_with_len a n))
rises_range key f a zero h k = tt
rises_range key f a (suc n) h k =
    rises_append key (f a) (flat_map f (range_with_len (a + 1) n)) (h a (omega arith)) (rises_range key f (a + 1) n (λ i l. h i (omega arith)) (λ i j l m. k i j l (omega arith)))
    (across key f (f a) (a + 1) n (λ j l m. k a j (omega arith) (omega arith)))

pub rises_flat : {A : Type 0} (key : A → List ℕ) (f : ℕ → List A) (n : ℕ) → ((i : ℕ) → i < n → Rises key (f i)) → ((i j : ℕ) → i < j → j < n → AllBefore key (f i) (f j)) → Rises key (flat_map f (range_with_len 0 n))
rises_flat key f n h k = rises_range key f 0 n (λ i l. h i (omega arith)) (λ i j l m. k i j l (omega arith))

rises_map_range : {A : Type 0} (key : A → List ℕ) (f : ℕ → A) (a n : ℕ) → ((i j : ℕ) → i < j → j < a + n → Before (key (f i)) (key (f j))) → Rises key (map f (range_with_len a n))
rises_map_range key f a zero h = tt
rises_map_range key f a (suc n) h =
    (map_range (λ y. Before (key (f a)) (key y)) f (a + 1) n (λ j l m. h a j (omega arith) (omega arith)), rises_map_range key f (a + 1) n (λ i j l m. h i j l (omega arith)))

pub rises_map : {A : Type 0} (key : A → List ℕ) (f : ℕ → A) (n : ℕ) → ((i j : ℕ) → i < j → j < n → Before (key (f i)) (key (f j))) → Rises key (map f (range_with_len 0 n))
rises_map key f n h = rises_map_range key f 0 n (λ i j l m. h i j l (omega arith))

-- ---- where each entry comes before the next one

both : (b c : Bool) → (b && c) ≡ true → (b ≡ true) × (c ≡ true)
both true c e = (refl, e)
both false c e = cc

before_less : (o : Ordering) → is_lt o ≡ true → o ≡ Less
before_less Less e = refl
before_less Equal e = cc
before_less Greater e = cc

beyond : {A : Type 0} (name : A → List ℕ) (x y : A) (zs : List A) → Before (name x) (name y) → AllByRecursion (λ z. Before (name y) (name z)) zs → AllByRecursion (λ z. Before (name x) (name z)) zs
beyond name x y [] l h = tt
beyond name x y (z ∷ zs) l h = (nat_list_cmp_total.trans (name x) (name y) (name z) l h.0, beyond name x y zs l h.1)

pub rises_next : {A : Type 0} (name : A → List ℕ) (xs : List A) → rises (λ (a b : A). is_before (name a) (name b)) xs ≡ true → Rises name xs
unfolding rises
rises_next name [] e = tt
rises_next name (x ∷ []) e = (tt, tt)
rises_next name (x ∷ y ∷ ys) e =
    let parts = both (is_before (name x) (name y)) _ e in
    let less = before_less (slice_cmp nat_cmp (name x) (name y)) parts.0 in
    let later = rises_next name (y ∷ ys) parts.1 in
    ((less, beyond name x y ys less later.0), later)

each_at : {A : Type 0} (P : A → Type 0) (xs : List A) (i : ℕ) (d : A) → AllByRecursion P xs → i < length xs → P (get_or xs i d)
each_at P [] i d h l = absurd (omega arith)
each_at P (x ∷ xs) zero d h l = h.0
each_at P (x ∷ xs) (suc i) d h l = each_at P xs i d h.1 (omega arith)

pub before_at : {A : Type 0} (name : A → List ℕ) (xs : List A) (i j : ℕ) (d : A) → Rises name xs → i < j → j < length xs → Before (name (get_or xs i d)) (name (get_or xs j d))
before_at name [] i j d r l m = absurd (omega arith)
before_at name (x ∷ xs) i zero d r l m = absurd (omega arith)
before_at name (x ∷ xs) zero (suc j) d r l m = each_at (λ y. Before (name x) (name y)) xs j d r.0 (omega arith)
before_at name (x ∷ xs) (suc i) (suc j) d r l m = before_at name xs i j d r.1 (omega arith) (omega arith)

-- ---- members

put_last : {A : Type 0} (key : A → List ℕ) (value : A → Data) (xs : List A) (x : A) → AllByRecursion (λ y. Before (key y) (key x)) xs → put (key x) (value x) (members_by key value xs) ≡ members_by key value (xs ++ x ∷ [])
put_last key value [] x h = refl
put_last key value (y ∷ ys) x h = rw (above_from_below (key y) (key x) h.0) (ap (member (key y) (value y)) (put_last key value ys x h.1))

below_from : {A : Type 0} (key : A → List ℕ) (x y : A) (zs ys : List A) → AllByRecursion (λ z. Before (key x) (key z)) (zs ++ y ∷ ys) → Before (key x) (key y)
below_from key x y [] ys h = h.0
below_from key x y (z ∷ zs) ys h = below_from key x y zs ys h.1

below : {A : Type 0} (key : A → List ℕ) (xs ys : List A) (y : A) → Rises key (xs ++ y ∷ ys) → AllByRecursion (λ x. Before (key x) (key y)) xs
below key [] ys y r = tt
below key (x ∷ xs) ys y r = (below_from key x y xs ys r.0, below key xs ys y r.1)

put_behind : {A : Type 0} (key : A → List ℕ) (value : A → Data) (xs ys : List A) → Rises key (xs ++ ys) → put_by key value ys (members_by key value xs) ≡ members_by key value (xs ++ ys)
put_behind key value xs [] r = ap (members_by key value) (sym (append-nil xs))
put_behind key value xs (y ∷ ys) r =
    let regroup : (xs ++ y ∷ []) ++ ys ≡ xs ++ y ∷ ys = append_assoc xs (y ∷ []) ys in
    ap (put_by key value ys) (put_last key value xs y (below key xs ys y r)) ∙ put_behind key value (xs ++ y ∷ []) ys (subst (Rises key) (sym regroup) r) ∙ ap (members_by key value) regroup

-- members whose keys rise stand in the order in which they are put
pub put_rising : {A : Type 0} (key : A → List ℕ) (value : A → Data) (xs : List A) → Rises key xs → put_by key value xs no_members ≡ members_by key value xs
put_rising key value xs r = put_behind key value [] xs r
