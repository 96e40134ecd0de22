-- A fact of each item of a list, by its number.
use Rattle.std.proofs.Common.{◌≡◌, ℕ, zero, suc, ◌+◌, List, [], ◌∷◌, ◌++◌, length, Option, Some, None, slice_get, ap, sym, subst, ◌∙◌, arith}
use Rattle.std.proofs.lemmas.List.{length-append}
use Rattle.std.specs.Prelude.{unwrap_or}

-- one item more
each_in_more : {A : Type 0} (P : ℕ → A → Type 0) (xs : List A) (y : A) → ((m : ℕ) (x : A) → slice_get xs m ≡ Some x → P m x) → P (length xs) y → (m : ℕ) (x : A) → slice_get (xs ++ y ∷ []) m ≡ Some x → P m x
each_in_more P [] y each here zero x e = subst (P 0) (ap (λ (o : Option _). unwrap_or o y) e) here
each_in_more P [] y each here (suc m) x e = absurd (no e)
  where
    no : None ≡ Some x → ⊥
    no h = cc
each_in_more P (z ∷ zs) y each here zero x e = each zero x e
each_in_more P (z ∷ zs) y each here (suc m) x e = each_in_more (λ n. P (suc n)) zs y (λ n. each (suc n)) here m x e

pub each_more : {A : Type 0} (P : ℕ → A → Type 0) (xs new : List A) (y : A) → new ≡ xs ++ y ∷ [] → ((m : ℕ) (x : A) → slice_get xs m ≡ Some x → P m x) → P (length xs) y → (m : ℕ) (x : A) → slice_get new m ≡ Some x → P m x
each_more P xs new y is each here m x at = each_in_more P xs y each here m x (ap (λ (items : List _). slice_get items m) (sym is) ∙ at)

pub count_more : {A : Type 0} (xs new : List A) (y : A) (n : ℕ) → new ≡ xs ++ y ∷ [] → length xs ≡ n → length new ≡ n + 1
count_more xs new y n is e = omega (arith, ap length is, length-append xs (y ∷ []), e)
