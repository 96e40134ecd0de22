-- A list that is written anew from its front on.
use Rattle.std.proofs.Common.{◌≡◌, ◌∙◌, ℕ, zero, suc, ◌+◌, ◌<◌, List, [], ◌∷◌, ◌++◌, length, drop, replicate, slice_set, append-nil, drop_of_length-le, arith, refl, ap, ap₂}

next_set : {A : Type 0} (x : A) (xs : List A) (k : ℕ) → k < length xs → slice_set (replicate k x ++ drop k xs) k x ≡ replicate (suc k) x ++ drop (suc k) xs
next_set x [] k h = absurd (omega (arith, h))
next_set x (y ∷ ys) zero h = refl
next_set x (y ∷ ys) (suc k) h = ap (λ (zs : List _). x ∷ zs) (next_set x ys k (omega (arith, h)))

-- with one item more
pub one_more : {A : Type 0} (x : A) (xs ys : List A) (k : ℕ) → k < length xs → ys ≡ replicate k x ++ drop k xs → slice_set ys k x ≡ replicate (k + 1) x ++ drop (k + 1) xs
one_more x xs ys k h e =
    let n : suc k ≡ k + 1 = omega arith in
    ap (λ (zs : List _). slice_set zs k x) e ∙ next_set x xs k h ∙ ap (λ (i : ℕ). replicate i x ++ drop i xs) n

-- with all items
pub all_set : {A : Type 0} (x : A) (xs ys : List A) (k : ℕ) → k ≡ length xs → ys ≡ replicate k x ++ drop k xs → ys ≡ replicate (length xs) x
all_set x xs ys k n e = e ∙ ap₂ (λ (i : ℕ) (zs : List _). replicate i x ++ zs) n (drop_of_length-le xs (omega (arith, n))) ∙ append-nil (replicate (length xs) x)
