-- Walks over lists from front to back.
use Rattle.std.specs.Prelude.{◌≡◌, Bool, true, false, None, ℕ, zero, suc, List, [], ◌∷◌, Option, Some}
use Rattle.std.specs.Option.{option_and_then}

-- the last state of a walk that begins in s at number j
abbrev pub walk : {S A : Type 0} → (ℕ → S → A → S) → ℕ → S → List A → S
walk step j s [] = s
walk step j s (x ∷ xs) = walk step (suc j) (step j s x) xs

-- the last state of a walk whose steps may be absent
abbrev pub run : {S A : Type 0} → (ℕ → A → S → Option S) → ℕ → List A → S → Option S
run step j [] s = Some s
run step j (x ∷ xs) s = option_and_then (run step (suc j) xs) (step j x s)

-- j, j + 1, .., so many numbers
abbrev pub count_from : ℕ → ℕ → List ℕ
count_from j zero = []
count_from j (suc n) = j ∷ count_from (suc j) n

-- true where there is a new value, false where it is absent
abbrev pub GivesWalked : {A : Type 0} → Bool → Option A → A → Type 0
GivesWalked true made new = made ≡ Some new
GivesWalked false made new = made ≡ None
