-- Items of a list with others behind it.
use Rattle.std.proofs.Common.{◌≡◌, ◌∙◌, ℕ, zero, suc, ◌-◌, ◌<◌, ◌≤◌, List, [], ◌∷◌, ◌++◌, length, slice_get, refl, ap, arith}

pub slice_get-former : {X : Type 0} (xs ys : List X) (k : ℕ) → k < length xs → slice_get (xs ++ ys) k ≡ slice_get xs k
slice_get-former [] ys k l = absurd (omega (arith, l))
slice_get-former (x ∷ xs) ys zero l = refl
slice_get-former (x ∷ xs) ys (suc k) l = slice_get-former xs ys k (omega (arith, l))

pub slice_get-later : {X : Type 0} (xs ys : List X) (k : ℕ) → length xs ≤ k → slice_get (xs ++ ys) k ≡ slice_get ys (k - length xs)
slice_get-later [] ys k l = let e : k ≡ k - 0 = omega arith in ap (λ (i : ℕ). slice_get ys i) e
slice_get-later (x ∷ xs) ys zero l = absurd (omega (arith, l))
slice_get-later (x ∷ xs) ys (suc k) l =
    let e : k - length xs ≡ suc k - suc (length xs) = omega arith in
    slice_get-later xs ys k (omega (arith, l)) ∙ ap (λ (i : ℕ). slice_get ys i) e
