-- The slopes of a cut, one after the other.
use Rattle.std.proofs.Common.{◌≡◌, ◌∙◌, ℕ, ◌+◌, ◌<◌, ℤ, pos, false, List, [], ◌∷◌, ◌++◌, length, take, get_or, All, Result, Ok, Err, OnOk, is_err, add-one, ap, sym, subst}
use Rattle.std.proofs.lemmas.List.{append_assoc}
use Rattle.std.proofs.lemmas.List.Elements.{All-append, All-cons, All-nil}
use Rattle.std.proofs.Math.Seq.{take-suc}

-- a property of a value, where there is no error
pub not_err : {T E P : Type 0} (r : Result T E) → is_err r ≡ false → OnOk r P → P
not_err (Ok x) h p = p
not_err (Err e) h p = cc

one_more : (all : List ℤ) (i : ℕ) (next : ℤ) → i < length all → next ≡ get_or all i (pos 0) → take (i + 1) all ≡ take i all ++ next ∷ []
one_more all i next h is = rw add-one (take-suc all i (pos 0) h ∙ ap (λ (z : ℤ). take i all ++ z ∷ []) (sym is))

-- one slope more
pub slope_more : (old found new all : List ℤ) (i : ℕ) (next : ℤ) → i < length all → next ≡ get_or all i (pos 0) → found ≡ old ++ take i all → new ≡ found ++ next ∷ [] → new ≡ old ++ take (i + 1) all
slope_more old found new all i next h is e put =
    put ∙ ap (λ (zs : List ℤ). zs ++ next ∷ []) e ∙ append_assoc old (take i all) (next ∷ []) ∙ ap (λ (zs : List ℤ). old ++ zs) (sym (one_more all i next h is))

-- one more of the numbers that have a property
pub all_more : (P : ℤ → Type 0) (all : List ℤ) (i : ℕ) (next : ℤ) → i < length all → next ≡ get_or all i (pos 0) → All P (take i all) → P next → All P (take (i + 1) all)
all_more P all i next h is before own =
    subst (All P) (sym (one_more all i next h is))
    (All-append P (take i all) (next ∷ []) before (All-cons P next [] own (All-nil P)))
