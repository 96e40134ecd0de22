-- Properties of each element of a list, and of each pair in its order.
use Rattle.std.proofs.Common.{◌≡◌, ℕ, zero, suc, ◌+◌, ◌<◌, List, [], ◌∷◌, ◌++◌, length, map, get_or, slice_get, Bool, true, Ordering, Less, Equal, Greater, nat_cmp, is_lt, Some, refl, ap, ◌∙◌, arith}
use Rattle.std.specs.Cmp.Lexicographic.{slice_cmp}
use Rattle.std.specs.List.{AllByRecursion, flat_map, range_with_len}
use Rattle.std.specs.Ordering.{ordering_then}
use Rattle.std.proofs.lemmas.Bool.Decides.{nat_tests}
use Rattle.std.proofs.lemmas.Cmp.{nat_list_cmp_total}
use Rattle.base_num.proofs.Tests.{and_first, and_second}
use Rattle.problem.specs.Distinct.{rises, is_before}
use Rattle.base_graph.specs.Paths.{numbers}

-- R of each thing and each later one
abbrev pub Pairwise : {A : Type 0} → (A → A → Type 0) → List A → Type 0
Pairwise R [] = Unit {0}
Pairwise R (x ∷ xs) = AllByRecursion (R x) xs × Pairwise R xs

-- R of each thing of the first list and each of the second
abbrev pub Across : {A : Type 0} → (A → A → Type 0) → List A → List A → Type 0
Across R xs ys = AllByRecursion (λ x. AllByRecursion (R x) ys) xs

-- ---- of each

pub all_append : {A : Type 0} (P : A → Type 0) (xs ys : List A) → AllByRecursion P xs → AllByRecursion P ys → AllByRecursion P (xs ++ ys)
all_append P [] ys a b = b
all_append P (x ∷ xs) ys a b = (a.0, all_append P xs ys a.1 b)

pub all_weaker : {A : Type 0} (P Q : A → Type 0) → ((x : A) → P x → Q x) → (xs : List A) → AllByRecursion P xs → AllByRecursion Q xs
all_weaker P Q f [] a = tt
all_weaker P Q f (x ∷ xs) a = (f x a.0, all_weaker P Q f xs a.1)

pub all_both : {A : Type 0} (P Q S : A → Type 0) → ((x : A) → P x → Q x → S x) → (xs : List A) → AllByRecursion P xs → AllByRecursion Q xs → AllByRecursion S xs
all_both P Q S f [] a b = tt
all_both P Q S f (x ∷ xs) a b = (f x a.0 b.0, all_both P Q S f xs a.1 b.1)

pub all_of : {A : Type 0} (P : A → Type 0) → ((x : A) → P x) → (xs : List A) → AllByRecursion P xs
all_of P f [] = tt
all_of P f (x ∷ xs) = (f x, all_of P f xs)

pub all_map : {A B : Type 0} (P : B → Type 0) (f : A → B) (xs : List A) → AllByRecursion (λ x. P (f x)) xs → AllByRecursion P (map f xs)
all_map P f [] a = tt
all_map P f (x ∷ xs) a = (a.0, all_map P f xs a.1)

pub all_flat_map : {A B : Type 0} (P : B → Type 0) (f : A → List B) (xs : List A) → AllByRecursion (λ x. AllByRecursion P (f x)) xs → AllByRecursion P (flat_map f xs)
all_flat_map P f [] a = tt
all_flat_map P f (x ∷ xs) a = all_append P (f x) (flat_map f xs) a.0 (all_flat_map P f xs a.1)

-- of each number below n
pub all_numbers : (P : ℕ → Type 0) (n : ℕ) → ((j : ℕ) → j < n → P j) → AllByRecursion P (numbers n)
all_numbers P n h = from 0 n (λ j p. h j (omega arith))
  where
    from : (a m : ℕ) → ((j : ℕ) → j < a + m → P j) → AllByRecursion P (range_with_len a m)
    from a zero k = tt
    from a (suc m) k = (k a (omega arith), from (a + 1) m (λ j p. k j (omega arith)))

-- x stands at some place of the list
abbrev pub Somewhere : {A : Type 0} → List A → A → Type 0
Somewhere xs x = (k : ℕ) × (slice_get xs k ≡ Some x)

pub all_somewhere : {A : Type 0} (xs : List A) → AllByRecursion (Somewhere xs) xs
all_somewhere [] = tt
all_somewhere (x ∷ xs) = ((0, refl), all_weaker (Somewhere xs) (Somewhere (x ∷ xs)) (λ y s. (suc s.0, s.1)) xs (all_somewhere xs))

-- ---- of each pair

pub pair_append : {A : Type 0} (R : A → A → Type 0) (xs ys : List A) → Pairwise R xs → Pairwise R ys → Across R xs ys → Pairwise R (xs ++ ys)
pair_append R [] ys p q c = q
pair_append R (x ∷ xs) ys p q c = (all_append (R x) xs ys p.0 c.0, pair_append R xs ys p.1 q c.1)

pub pair_weaker : {A : Type 0} (R S : A → A → Type 0) → ((x y : A) → R x y → S x y) → (xs : List A) → Pairwise R xs → Pairwise S xs
pair_weaker R S f [] p = tt
pair_weaker R S f (x ∷ xs) p = (all_weaker (R x) (S x) (f x) xs p.0, pair_weaker R S f xs p.1)

pub pair_map : {A B : Type 0} (R : B → B → Type 0) (f : A → B) (xs : List A) → Pairwise (λ x y. R (f x) (f y)) xs → Pairwise R (map f xs)
pair_map R f [] p = tt
pair_map R f (x ∷ xs) p = (all_map (R (f x)) f xs p.0, pair_map R f xs p.1)

pub across_flat : {A B : Type 0} (R : B → B → Type 0) (f : A → List B) (xs : List B) (ys : List A) → AllByRecursion (λ y. Across R xs (f y)) ys → Across R xs (flat_map f ys)
across_flat R f [] ys a = tt
across_flat R f (x ∷ xs) ys a = (all_flat_map (R x) f ys (all_weaker (λ y. Across R (x ∷ xs) (f y)) (λ y. AllByRecursion (R x) (f y)) (λ y c. c.0) ys a), across_flat R f xs ys (all_weaker (λ y. Across R (x ∷ xs) (f y)) (λ y. Across R xs (f y)) (λ y c. c.1) ys a))

pub pair_flat_map : {A B : Type 0} (R : B → B → Type 0) (f : A → List B) (xs : List A) → AllByRecursion (λ x. Pairwise R (f x)) xs → Pairwise (λ x y. Across R (f x) (f y)) xs → Pairwise R (flat_map f xs)
pair_flat_map R f [] a p = tt
pair_flat_map R f (x ∷ xs) a p = pair_append R (f x) (flat_map f xs) a.0 (pair_flat_map R f xs a.1 p.1) (across_flat R f (f x) xs p.0)

pub pair_numbers : (R : ℕ → ℕ → Type 0) (n : ℕ) → ((j k : ℕ) → j < k → k < n → R j k) → Pairwise R (numbers n)
pair_numbers R n h = from 0 n (λ j k p q. h j k p (omega arith))
  where
    later : (a b m : ℕ) → a < b → ((k : ℕ) → a < k → k < b + m → R a k) → AllByRecursion (R a) (range_with_len b m)
    later a b zero less k = tt
    later a b (suc m) less k = (k b less (omega arith), later a (b + 1) m (omega arith) (λ j p q. k j p (omega arith)))

    from : (a m : ℕ) → ((j k : ℕ) → j < k → k < a + m → R j k) → Pairwise R (range_with_len a m)
    from a zero k = tt
    from a (suc m) k = (later a (a + 1) m (omega arith) (λ j p q. k a j p (omega arith)), from (a + 1) m (λ i j p q. k i j p (omega arith)))

-- ---- names that rise

pub cmp_less : (x y : ℕ) → x < y → nat_cmp x y ≡ Less
cmp_less x y h = grind (arith, nat_tests)

cmp_same : (x : ℕ) → nat_cmp x x ≡ Equal
cmp_same x = grind (arith, nat_tests)

pub first_less : (x y : ℕ) (xs ys : List ℕ) → x < y → slice_cmp nat_cmp (x ∷ xs) (y ∷ ys) ≡ Less
first_less x y xs ys h = ap (λ o. ordering_then o (slice_cmp nat_cmp xs ys)) (cmp_less x y h)

pub later_less : (x : ℕ) (xs ys : List ℕ) → slice_cmp nat_cmp xs ys ≡ Less → slice_cmp nat_cmp (x ∷ xs) (x ∷ ys) ≡ Less
later_less x xs ys h = ap (λ o. ordering_then o (slice_cmp nat_cmp xs ys)) (cmp_same x) ∙ h

-- the name of x comes before that of y
abbrev pub Before : {A : Type 0} → (A → List ℕ) → A → A → Type 0
Before name x y = slice_cmp nat_cmp (name x) (name y) ≡ Less

less_of : (a b : List ℕ) → is_before a b ≡ true → slice_cmp nat_cmp a b ≡ Less
less_of a b e = by (slice_cmp nat_cmp a b) e
  where
    by : (o : Ordering) → is_lt o ≡ true → o ≡ Less
    by Less h = refl
    by Equal h = cc
    by Greater h = cc

module _ {A : Type 0} (name : A → List ℕ) where
  abbrev before : A → A → Bool
  before a b = is_before (name a) (name b)

  all_later : (x y : A) (ys : List A) → Before name x y → AllByRecursion (Before name y) ys → AllByRecursion (Before name x) ys
  all_later x y [] less a = tt
  all_later x y (z ∷ zs) less a = (nat_list_cmp_total.trans (name x) (name y) (name z) less a.0, all_later x y zs less a.1)

  pub risen : (xs : List A) → rises before xs ≡ true → Pairwise (Before name) xs
  unfolding rises
  risen [] e = tt
  risen (x ∷ []) e = (tt, tt)
  risen (x ∷ y ∷ xs) e =
      let first = less_of (name x) (name y) (and_first (before x y) (rises before (y ∷ xs)) e) in
      let tail = risen (y ∷ xs) (and_second (before x y) (rises before (y ∷ xs)) e) in
      ((first, all_later x y xs first tail.0), tail)

  all_get : (x : A) (ys : List A) (j : ℕ) (d : A) → AllByRecursion (Before name x) ys → j < length ys → Before name x (get_or ys j d)
  all_get x [] j d a h = absurd (omega arith)
  all_get x (y ∷ ys) zero d a h = a.0
  all_get x (y ∷ ys) (suc j) d a h = all_get x ys j d a.1 (omega arith)

  pub pair_get : (xs : List A) (i j : ℕ) (d : A) → Pairwise (Before name) xs → i < j → j < length xs → Before name (get_or xs i d) (get_or xs j d)
  pair_get [] i j d p h k = absurd (omega arith)
  pair_get (x ∷ xs) i zero d p h k = absurd (omega arith)
  pair_get (x ∷ xs) zero (suc j) d p h k = all_get x xs j d p.0 (omega arith)
  pair_get (x ∷ xs) (suc i) (suc j) d p h k = pair_get xs i j d p.1 (omega arith) (omega arith)
