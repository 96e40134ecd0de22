-- Lists whose entries are all different, or rise.
use Rattle.std.proofs.Common.{◌≡◌, ◌<◌, ◌==◌, ◌&&◌, ◌||◌, ℕ, zero, suc, List, [], ◌∷◌, ◌++◌, length, map, get_or, Bool, true, false, nat_lt, Ordering, Less, Equal, Greater, nat_cmp, is_lt, bytes_eq, position, Some, refl, sym, ap, subst, ◌∙◌, arith}
use Rattle.std.specs.Cmp.Lexicographic.{slice_cmp}
use Rattle.std.specs.List.{AllByRecursion, IsDistinct, list_all, list_any}
use Rattle.std.specs.List.Sorted.{IsStrictlySortedBy}
use Rattle.std.specs.Ordering.{ordering_reverse}
use Rattle.std.proofs.lemmas.Bool.{true≢false, ltb-true, ltb-false, and_from, eqb-false}
use Rattle.std.proofs.lemmas.Cmp.{nat_list_cmp_total}
use Rattle.std.proofs.lemmas.Slice.Eq.{bytes_eq-Decides}
use Rattle.std.proofs.lemmas.List.Quantifiers.{position-Some}
use Rattle.base_num.proofs.Tests.{and_first, and_second}
use Rattle.problem.specs.Distinct.{rises, are_distinct, is_before}

-- ---- facts of each entry

pub each-push : {A : Type 0} (P : A → Type 0) (xs : List A) (x : A) → AllByRecursion P xs → P x → AllByRecursion P (xs ++ x ∷ [])
each-push P [] x all p = (p, tt)
each-push P (y ∷ ys) x all p = (all.0, each-push P ys x all.1 p)

pub each-weaker : {A : Type 0} (P Q : A → Type 0) (xs : List A) → ((x : A) → P x → Q x) → AllByRecursion P xs → AllByRecursion Q xs
each-weaker P Q [] f all = tt
each-weaker P Q (x ∷ xs) f all = (f x all.0, each-weaker P Q xs f all.1)

pub each-map : {A B : Type 0} (f : A → B) (P : B → Type 0) (xs : List A) → AllByRecursion (λ x. P (f x)) xs → AllByRecursion P (map f xs)
each-map f P [] all = tt
each-map f P (x ∷ xs) all = (all.0, each-map f P xs all.1)

pub each-at : {A : Type 0} (P : A → Type 0) (xs : List A) (i : ℕ) (d : A) → AllByRecursion P xs → i < length xs → P (get_or xs i d)
each-at P [] i d all lt = absurd (omega arith)
each-at P (x ∷ xs) zero d all lt = all.0
each-at P (x ∷ xs) (suc i) d all lt = each-at P xs i d all.1 (omega arith)

-- an entry that none is the same as
pub none-of : {A : Type 0} (test : A → Bool) (xs : List A) → AllByRecursion (λ x. test x ≡ false) xs → list_any test xs ≡ false
none-of test [] all = refl
none-of test (x ∷ xs) all = rw (all.0, none-of test xs all.1) refl

pub each-none : {A : Type 0} (test : A → Bool) (xs : List A) → list_any test xs ≡ false → AllByRecursion (λ x. test x ≡ false) xs
each-none test [] e = tt
each-none test (x ∷ xs) e = by (test x) refl e (each-none test xs)
  where
    by : (b : Bool) → test x ≡ b → (b || list_any test xs) ≡ false → (list_any test xs ≡ false → AllByRecursion (λ x. test x ≡ false) xs) → (test x ≡ false) × AllByRecursion (λ x. test x ≡ false) xs
    by true is h tail = cc
    by false is h tail = (is, tail h)

pub list_all-map : {A B : Type 0} (f : A → B) (test : B → Bool) (xs : List A) → list_all test (map f xs) ≡ list_all (λ x. test (f x)) xs
list_all-map f test [] = refl
list_all-map f test (x ∷ xs) = ap (λ b. test (f x) && b) (list_all-map f test xs)

-- ---- entries that are all different

pub distinct-push : {A : Type 0} (same : A → A → Bool) (xs : List A) (x : A) → IsDistinct same xs → AllByRecursion (λ y. same y x ≡ false) xs → IsDistinct same (xs ++ x ∷ [])
unfolding IsDistinct
distinct-push same [] x distinct apart = (tt, tt)
distinct-push same (y ∷ ys) x distinct apart = (each-push (λ z. same y z ≡ false) ys x distinct.0 apart.0, distinct-push same ys x distinct.1 apart.1)

-- images of different things are different
pub distinct-image : {A B : Type 0} (same : A → A → Bool) (alike : B → B → Bool) (f : A → B) (P : A → Type 0) → ((x y : A) → P x → P y → same x y ≡ false → alike (f x) (f y) ≡ false)
    → (xs : List A) → AllByRecursion P xs → IsDistinct same xs → IsDistinct alike (map f xs)
unfolding IsDistinct
distinct-image same alike f P keep [] all distinct = tt
distinct-image {A} same alike f P keep (x ∷ xs) all distinct = (each-map f (λ z. alike (f x) z ≡ false) xs (apart xs all.0 all.1 distinct.0), distinct-image same alike f P keep xs all.1 distinct.1)
  where
    apart : (ys : List A) → P x → AllByRecursion P ys → AllByRecursion (λ y. same x y ≡ false) ys → AllByRecursion (λ y. alike (f x) (f y) ≡ false) ys
    apart [] p all different = tt
    apart (y ∷ ys) p all different = (keep x y p all.0 different.0, apart ys p all.1 different.1)

pub are_distinct-true : {A : Type 0} (same : A → A → Bool) (xs : List A) → IsDistinct same xs → are_distinct same xs ≡ true
unfolding IsDistinct are_distinct
are_distinct-true same [] distinct = refl
are_distinct-true same (x ∷ xs) distinct = rw (none-of (same x) xs distinct.0, are_distinct-true same xs distinct.1) refl

-- the images of the entries are distinct
pub are_distinct-map : {A B : Type 0} (f : A → B) (same : B → B → Bool) (xs : List A) → are_distinct same (map f xs) ≡ are_distinct (λ a b. same (f a) (f b)) xs
unfolding are_distinct
are_distinct-map f same [] = refl
are_distinct-map {A} f same (x ∷ xs) = rw (any xs, are_distinct-map f same xs)
  where
    any : (ys : List A) → list_any (same (f x)) (map f ys) ≡ list_any (λ b. same (f x) (f b)) ys
    any [] = refl
    any (y ∷ ys) = rw (any ys)

-- ---- different names

unfoldable pub name_of : List (List ℕ) → ℕ → List ℕ
name_of names v = get_or names v []

pub bytes_eq-no : (a b : List ℕ) → (a ≡ b → ⊥) → bytes_eq a b ≡ false
bytes_eq-no a b differ = by (bytes_eq a b) refl
  where
    by : (r : Bool) → bytes_eq a b ≡ r → r ≡ false
    by true is = absurd (differ ((bytes_eq-Decides a b).0 is))
    by false is = refl

pub bytes_eq-turned : (a b : List ℕ) → bytes_eq a b ≡ false → bytes_eq b a ≡ false
bytes_eq-turned a b e = bytes_eq-no b a (λ is. true≢false (sym ((bytes_eq-Decides a b).1 (sym is)) ∙ e))

-- a name that stands at two places stands at one
pub one_place : (names : List (List ℕ)) (i j : ℕ) → IsDistinct bytes_eq names → i < length names → j < length names → get_or names i [] ≡ get_or names j [] → i ≡ j
unfolding IsDistinct
one_place [] i j distinct p q is = absurd (omega arith)
one_place (n ∷ ns) zero zero distinct p q is = refl
one_place (n ∷ ns) zero (suc j) distinct p q is = absurd (true≢false (sym ((bytes_eq-Decides n (get_or ns j [])).1 is) ∙ each-at (λ m. bytes_eq n m ≡ false) ns j [] distinct.0 (omega arith)))
one_place (n ∷ ns) (suc i) zero distinct p q is = absurd (true≢false (sym ((bytes_eq-Decides n (get_or ns i [])).1 (sym is)) ∙ each-at (λ m. bytes_eq n m ≡ false) ns i [] distinct.0 (omega arith)))
one_place (n ∷ ns) (suc i) (suc j) distinct p q is = ap suc (one_place ns i j distinct.1 (omega arith) (omega arith) is)

-- different numbers have different names
pub names-apart : (names : List (List ℕ)) (i j : ℕ) → IsDistinct bytes_eq names → i < length names → j < length names → (i == j) ≡ false → bytes_eq (name_of names i) (name_of names j) ≡ false
unfolding name_of
names-apart names i j distinct p q e = bytes_eq-no _ _ (λ is. eqb-false i j e (one_place names i j distinct p q is))

-- the name with a number that was found
pub found-name : (names : List (List ℕ)) (k : List ℕ) (i : ℕ) → position (bytes_eq k) names ≡ Some i → (i < length names) × (name_of names i ≡ k)
unfolding name_of
found-name names k i e = let p = position-Some (bytes_eq k) names i [] e in (p.0, sym ((bytes_eq-Decides k (get_or names i [])).0 p.1))

-- ---- names that rise

abbrev pub Sorted : List (List ℕ) → Type 0
Sorted names = IsStrictlySortedBy (slice_cmp nat_cmp) names

less_before : (a b : List ℕ) → slice_cmp nat_cmp a b ≡ Less → is_before a b ≡ true
less_before a b e = ap is_lt e

before_less : (a b : List ℕ) → is_before a b ≡ true → slice_cmp nat_cmp a b ≡ Less
before_less a b e = by (slice_cmp nat_cmp a b) e
  where
    by : (o : Ordering) → is_lt o ≡ true → o ≡ Less
    by Less h = refl
    by Equal h = cc
    by Greater h = cc

pub rises-sorted : (names : List (List ℕ)) → Sorted names → rises is_before names ≡ true
unfolding IsStrictlySortedBy rises
rises-sorted [] sorted = refl
rises-sorted (a ∷ []) sorted = refl
rises-sorted (a ∷ b ∷ names) sorted = rw (less_before a b sorted.0.0, rises-sorted (b ∷ names) sorted.1) refl

pub rises-map : {A B : Type 0} (f : A → B) (before : B → B → Bool) (xs : List A) → rises before (map f xs) ≡ rises (λ a b. before (f a) (f b)) xs
unfolding rises
rises-map f before [] = refl
rises-map f before (x ∷ []) = refl
rises-map f before (x ∷ y ∷ xs) = ap (λ b. before (f x) (f y) && b) (rises-map f before (y ∷ xs))

later_name : (names : List (List ℕ)) (i j : ℕ) → Sorted names → i < j → j < length names → slice_cmp nat_cmp (name_of names i) (name_of names j) ≡ Less
unfolding IsStrictlySortedBy name_of
later_name [] i j sorted lt within = absurd (omega arith)
later_name (n ∷ ns) zero zero sorted lt within = absurd (omega arith)
later_name (n ∷ ns) zero (suc j) sorted lt within = each-at (λ m. slice_cmp nat_cmp n m ≡ Less) ns j [] sorted.0 (omega arith)
later_name (n ∷ ns) (suc i) zero sorted lt within = absurd (omega arith)
later_name (n ∷ ns) (suc i) (suc j) sorted lt within = later_name ns i j sorted.1 (omega arith) (omega arith)

not_twice : (a b : List ℕ) → slice_cmp nat_cmp a b ≡ Less → slice_cmp nat_cmp b a ≡ Less → ⊥
not_twice a b one other = no (sym one ∙ nat_list_cmp_total.antisymm a b ∙ ap ordering_reverse other)
  where
    no : Less ≡ Greater → ⊥
    no e = cc

-- a name before another one has a number below the other's
earlier : (names : List (List ℕ)) (i j : ℕ) → Sorted names → i < length names → is_before (name_of names i) (name_of names j) ≡ true → nat_lt i j ≡ true
earlier names i j sorted within before = by (nat_lt i j) refl (nat_lt j i) refl
  where
    by : (b : Bool) → nat_lt i j ≡ b → (c : Bool) → nat_lt j i ≡ c → b ≡ true
    by true one c other = refl
    by false one true other = absurd (not_twice (name_of names i) (name_of names j) (before_less (name_of names i) (name_of names j) before) (later_name names j i sorted (ltb-true j i other) within))
    by false one false other =
        let same : i ≡ j = omega (arith, ltb-false i j one, ltb-false j i other) in
        let less : slice_cmp nat_cmp (name_of names j) (name_of names j) ≡ Less = subst (λ n. slice_cmp nat_cmp (name_of names n) (name_of names j) ≡ Less) same (before_less (name_of names i) (name_of names j) before) in
        absurd (not_twice (name_of names j) (name_of names j) less less)

-- numbers of names that rise do rise
pub rises-numbers : (names : List (List ℕ)) (ns : List ℕ) → Sorted names → list_all (λ n. nat_lt n (length names)) ns ≡ true → rises is_before (map (name_of names) ns) ≡ true → rises nat_lt ns ≡ true
unfolding rises
rises-numbers names [] sorted all rising = refl
rises-numbers names (i ∷ []) sorted all rising = refl
rises-numbers names (i ∷ j ∷ ns) sorted all rising =
    let more = and_second (nat_lt i (length names)) (list_all (λ n. nat_lt n (length names)) (j ∷ ns)) all in
    let within = ltb-true i (length names) (and_first (nat_lt i (length names)) (list_all (λ n. nat_lt n (length names)) (j ∷ ns)) all) in
    let first = and_first (is_before (name_of names i) (name_of names j)) (rises is_before (map (name_of names) (j ∷ ns))) rising in
    let tail = and_second (is_before (name_of names i) (name_of names j)) (rises is_before (map (name_of names) (j ∷ ns))) rising in
    and_from (nat_lt i j) (rises nat_lt (j ∷ ns)) (earlier names i j sorted within first) (rises-numbers names (j ∷ ns) sorted more tail)
