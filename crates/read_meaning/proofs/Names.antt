-- Names that rise differ, and what is looked up by names that differ.
use Rattle.std.proofs.Common.{◌≡◌, ℕ, zero, suc, ℤ, pos, List, [], ◌∷◌, ◌++◌, length, map, Bool, true, false, slice_get, Some, Ordering, Less, Equal, Greater, is_lt, is_eq, nat_cmp, if◌then◌else◌, refl, sym, ap, ap₂, subst, ◌∙◌, arith}
use Rattle.std.specs.List.{AllByRecursion, IsDistinct}
use Rattle.std.specs.Str.{bytes_eq}
use Rattle.std.specs.Cmp.Lexicographic.{slice_cmp}
use Rattle.std.proofs.lemmas.Cmp.{nat_list_cmp_total}
use Rattle.std.proofs.lemmas.Map.Keys.{IsDistinct-head, IsDistinct-tail}
use Rattle.std.proofs.lemmas.Map.Text.{is_eq-slice_cmp}
use Rattle.std.proofs.lemmas.Slice.Eq.{bytes_eq-Decides}
use Rattle.base_num.proofs.Tests.{and_first, and_second}
use Rattle.problem.specs.Distinct.{rises, is_before}
use Rattle.read_profile.specs.File.{Name, Numbers}

-- ---- names that rise

less_of : (a b : Name) → is_before a b ≡ true → slice_cmp nat_cmp a b ≡ Less
less_of a b e = by (slice_cmp nat_cmp a b) e
  where
    by : (o : Ordering) → is_lt o ≡ true → o ≡ Less
    by Less h = refl
    by Equal h = cc
    by Greater h = cc

apart_of : (a b : Name) → slice_cmp nat_cmp a b ≡ Less → bytes_eq a b ≡ false
apart_of a b e = sym (is_eq-slice_cmp a b) ∙ ap is_eq e

module _ {A : Type 0} (name : A → Name) where
  abbrev before : A → A → Bool
  before a b = is_before (name a) (name b)

  -- all of these names come after the first
  abbrev After : Name → List A → Type 0
  After k xs = AllByRecursion (λ (x : A). slice_cmp nat_cmp k (name x) ≡ Less) xs

  all_later : (k l : Name) (xs : List A) → slice_cmp nat_cmp k l ≡ Less → After l xs → After k xs
  all_later k l [] less a = tt
  all_later k l (x ∷ xs) less a = (nat_list_cmp_total.trans k l (name x) less a.0, all_later k l xs less a.1)

  after_first : (x : A) (xs : List A) → rises before (x ∷ xs) ≡ true → After (name x) xs
  unfolding rises
  after_first x [] e = tt
  after_first x (y ∷ ys) e =
      let first = less_of (name x) (name y) (and_first (before x y) (rises before (y ∷ ys)) e) in
      (first, all_later (name x) (name y) ys first (after_first y ys (and_second (before x y) (rises before (y ∷ ys)) e)))

  rest_rises : (x : A) (xs : List A) → rises before (x ∷ xs) ≡ true → rises before xs ≡ true
  unfolding rises
  rest_rises x [] e = refl
  rest_rises x (y ∷ ys) e = and_second (before x y) (rises before (y ∷ ys)) e

  all_apart : (k : Name) (xs : List A) → After k xs → AllByRecursion (λ (l : Name). bytes_eq k l ≡ false) (map name xs)
  all_apart k [] a = tt
  all_apart k (x ∷ xs) a = (apart_of k (name x) a.0, all_apart k xs a.1)

  pub distinct_rising : (xs : List A) → rises before xs ≡ true → IsDistinct bytes_eq (map name xs)
  unfolding IsDistinct
  distinct_rising [] e = tt
  distinct_rising (x ∷ xs) e = (all_apart (name x) xs (after_first x xs e), distinct_rising xs (rest_rises x xs e))

-- ---- what stands at names that differ

pub same_name : (k : Name) → bytes_eq k k ≡ true
same_name k = (bytes_eq-Decides k k).1 refl

-- the name at a place is none of those after the first
named_later : (k : Name) (ks : List Name) (i : ℕ) → AllByRecursion (λ (l : Name). bytes_eq k l ≡ false) ks → slice_get ks i ≡ Some k → ⊥
named_later k [] i a e = cc
named_later k (l ∷ ks) zero a e =
    let same : l ≡ k = cc in
    let no : bytes_eq k k ≡ false = subst (λ (x : Name). bytes_eq k x ≡ false) same a.0 in
    let yes : bytes_eq k k ≡ true = same_name k in
    cc
named_later k (l ∷ ks) (suc i) a e = named_later k ks i a.1 e

-- a name has one place
pub one_place : (ks : List Name) (i j : ℕ) (k : Name) → IsDistinct bytes_eq ks → slice_get ks i ≡ Some k → slice_get ks j ≡ Some k → i ≡ j
one_place [] i j k d e h = absurd cc
one_place (l ∷ ks) zero zero k d e h = refl
one_place (l ∷ ks) zero (suc j) k d e h =
    let same : l ≡ k = cc in
    absurd (named_later k ks j (subst (λ (x : Name). AllByRecursion (λ (l : Name). bytes_eq x l ≡ false) ks) same (IsDistinct-head bytes_eq l ks d)) h)
one_place (l ∷ ks) (suc i) zero k d e h =
    let same : l ≡ k = cc in
    absurd (named_later k ks i (subst (λ (x : Name). AllByRecursion (λ (l : Name). bytes_eq x l ≡ false) ks) same (IsDistinct-head bytes_eq l ks d)) e)
one_place (l ∷ ks) (suc i) (suc j) k d e h = ap suc (one_place ks i j k (IsDistinct-tail bytes_eq l ks d) e h)

-- ---- numbers by names

-- the number that stands beside the first of the names that is v
abbrev pub numbers : List Name → List ℤ → Numbers
numbers [] zs v = pos 0
numbers (k ∷ ks) [] v = pos 0
numbers (k ∷ ks) (z ∷ zs) v = if bytes_eq k v then z else numbers ks zs v

pub map_alike : {A : Type 0} {B : Type 0} (f g : A → B) (xs : List A) → AllByRecursion (λ (x : A). f x ≡ g x) xs → map f xs ≡ map g xs
map_alike f g [] a = refl
map_alike f g (x ∷ xs) a = ap₂ ◌∷◌ a.0 (map_alike f g xs a.1)

-- past a name that differs
pub skips : {B : Type 0} (k : Name) (b : B) (f : Name → B) (ks : List Name) → AllByRecursion (λ (l : Name). bytes_eq k l ≡ false) ks → map (λ (v : Name). if bytes_eq k v then b else f v) ks ≡ map f ks
skips k b f [] a = refl
skips k b f (l ∷ ks) a = ap₂ ◌∷◌ (rw a.0 refl) (skips k b f ks a.1)

pub map-numbers : (ks : List Name) (zs : List ℤ) → IsDistinct bytes_eq ks → length ks ≡ length zs → map (numbers ks zs) ks ≡ zs
map-numbers [] [] d e = refl
map-numbers [] (z ∷ zs) d e = absurd (omega arith)
map-numbers (k ∷ ks) [] d e = absurd (omega arith)
map-numbers (k ∷ ks) (z ∷ zs) d e =
    ap₂ ◌∷◌ (rw (same_name k) refl) (skips k z (numbers ks zs) ks (IsDistinct-head bytes_eq k ks d) ∙ map-numbers ks zs (IsDistinct-tail bytes_eq k ks d) (omega arith))

-- two lists in two parts are equal part by part
pub same_parts : {A : Type 0} (xs ys us vs : List A) → length xs ≡ length ys → xs ++ us ≡ ys ++ vs → (xs ≡ ys) × (us ≡ vs)
same_parts [] [] us vs l e = (refl, e)
same_parts [] (y ∷ ys) us vs l e = absurd (omega arith)
same_parts (x ∷ xs) [] us vs l e = absurd (omega arith)
same_parts (x ∷ xs) (y ∷ ys) us vs l e =
    let first : x ≡ y = cc in
    let later : xs ++ us ≡ ys ++ vs = cc in
    let tail = same_parts xs ys us vs (omega arith) later in
    (ap₂ ◌∷◌ first tail.0, tail.1)
