-- Facts that follow where a test is true.
use Rattle.std.proofs.Common.{◌≡◌, ◌∙◌, ℕ, suc, zero, ◌<◌, Bool, true, false, ◌&&◌, List, [], ◌∷◌, length, map, get_or, slice_get, Contains, Option, Some, None, is_none, ap, subst, refl, arith}
use Rattle.std.proofs.lemmas.Option.{slice_get-get_or, slice_get_within, get_or_from_slice_get}
use Rattle.std.specs.List.{list_all}

pub and_first : (a b : Bool) → (a && b) ≡ true → a ≡ true
and_first true b e = refl
and_first false b e = e

pub and_second : (a b : Bool) → (a && b) ≡ true → b ≡ true
and_second true b e = e
and_second false b e = absurd (no e)
  where
    no : false ≡ true → ⊥
    no h = cc

-- a test that is true of all is true of each
pub all_at : {A : Type 0} (test : A → Bool) (xs : List A) (i : ℕ) (d : A) → list_all test xs ≡ true → i < length xs → test (get_or xs i d) ≡ true
all_at test [] i d e h = absurd (omega arith)
all_at test (x ∷ xs) zero d e h = and_first (test x) (list_all test xs) e
all_at test (x ∷ xs) (suc i) d e h = all_at test xs i d (and_second (test x) (list_all test xs) e) (omega arith)

pub all_get : {A : Type 0} (test : A → Bool) (xs : List A) (i : ℕ) (x : A) → list_all test xs ≡ true → slice_get xs i ≡ Some x → test x ≡ true
all_get {A} test xs i x e is = subst (λ (y : A). test y ≡ true) (get_or_from_slice_get xs i x x is) (all_at test xs i x e (slice_get_within xs i x is))

-- two tests that are true are true together
pub both : (a b : Bool) → a ≡ true → b ≡ true → (a && b) ≡ true
both a b p q = ap (λ x. x && b) p ∙ q

-- a test that each member passes
pub all_members : {A : Type 0} (test : A → Bool) (xs : List A) → ((x : A) → Contains xs x → test x ≡ true) → list_all test xs ≡ true
all_members test [] h = refl
all_members test (x ∷ xs) h = both (test x) (list_all test xs) (h x (0, omega arith, refl)) (all_members test xs (λ y c. h y (suc c.0, omega (arith, c.1), c.2)))

-- a test that follows for what is made of each
pub all_map : {A B : Type 0} (f : A → B) (p : A → Bool) (q : B → Bool) → ((x : A) → p x ≡ true → q (f x) ≡ true) → (xs : List A) → list_all p xs ≡ true → list_all q (map f xs) ≡ true
all_map f p q follows [] e = e
all_map f p q follows (x ∷ xs) e = both (q (f x)) (list_all q (map f xs)) (follows x (and_first (p x) (list_all p xs) e)) (all_map f p q follows xs (and_second (p x) (list_all p xs) e))

-- a test for absence that is true
pub is_none-true : {A : Type 0} (o : Option A) → is_none o ≡ true → o ≡ None
is_none-true None e = refl
is_none-true (Some x) e = absurd (no e)
  where
    no : false ≡ true → ⊥
    no h = cc

-- the item at a number below the length
pub some_of : {A : Type 0} (xs : List A) (i : ℕ) → i < length xs → (x : A) × (slice_get xs i ≡ Some x)
some_of [] i h = absurd (omega arith)
some_of (x ∷ xs) i h = (get_or (x ∷ xs) i x, slice_get-get_or (x ∷ xs) i x h)
