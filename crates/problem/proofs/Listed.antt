-- Tests over lists, entry by entry.
use Rattle.std.proofs.Common.{◌≡◌, ◌∙◌, ℕ, zero, suc, Bool, true, false, ◌||◌, List, [], ◌∷◌, map, get_or, Contains, Some, None, cond, slice_get, refl, ap, subst, arith}
use Rattle.std.specs.List.{list_all, list_any, find}
use Rattle.std.proofs.lemmas.Option.{slice_get-get_or}
use Rattle.base_num.proofs.Tests.{and_first, and_second, both}

-- a member is found at its place
pub place_of : {A : Type 0} (xs : List A) (x : A) (c : Contains xs x) → slice_get xs c.0 ≡ Some x
place_of xs x c = slice_get-get_or xs c.0 x c.1 ∙ ap (λ y. Some y) c.2

-- an entry, or else the default
pub all_or : {A : Type 0} (test : A → Bool) (xs : List A) (i : ℕ) (d : A) → list_all test xs ≡ true → test d ≡ true → test (get_or xs i d) ≡ true
all_or test [] i d e h = h
all_or test (x ∷ xs) zero d e h = and_first (test x) (list_all test xs) e
all_or test (x ∷ xs) (suc i) d e h = all_or test xs i d (and_second (test x) (list_all test xs) e) h

pub none_found : {A : Type 0} (test : A → Bool) (xs : List A) (x : A) → find test xs ≡ None → Contains xs x → test x ≡ false
none_found test [] x e c = absurd (omega (arith, c.1))
none_found test (y ∷ xs) x e c = by (test y) refl e c (λ f d. none_found test xs x f d)
  where
    by : (b : Bool) → test y ≡ b → cond b (Some y) (find test xs) ≡ None → Contains (y ∷ xs) x → (find test xs ≡ None → Contains xs x → test x ≡ false) → test x ≡ false
    by true t f d go = absurd (no f)
      where
        no : Some y ≡ None → ⊥
        no g = cc
    by false t f (zero, l, s) go = subst (λ z. test z ≡ false) s t
    by false t f (suc k, l, s) go = go f (k, omega arith, s)

-- a test that whatever is made passes
pub all_made : {A : Type 0} (f : ℕ → A) (test : A → Bool) (ns : List ℕ) → ((n : ℕ) → test (f n) ≡ true) → list_all test (map f ns) ≡ true
all_made f test [] h = refl
all_made f test (n ∷ ns) h = both (test (f n)) (list_all test (map f ns)) (h n) (all_made f test ns h)

-- a member that passes
pub any_member : {A : Type 0} (test : A → Bool) (xs : List A) (x : A) → Contains xs x → test x ≡ true → list_any test xs ≡ true
any_member test [] x c h = absurd (omega (arith, c.1))
any_member test (y ∷ xs) x (zero, l, e) h = ap (λ b. b || list_any test xs) (ap test e ∙ h)
any_member test (y ∷ xs) x (suc k, l, e) h = ap (λ b. test y || b) (any_member test xs x (k, omega arith, e) h) ∙ or_true (test y)
  where
    or_true : (b : Bool) → (b || true) ≡ true
    or_true true = refl
    or_true false = refl
