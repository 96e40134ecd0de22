-- Rows of several lengths that stand one after the other in one list, by where each ends.
use Rattle.std.specs.Prelude.{◌≡◌, ℕ, ◌-◌, ◌≤◌, List, [], ◌∷◌, get_or, take, drop}

-- the rows from a place on
abbrev pub rows_by : {A : Type 0} → ℕ → List A → List ℕ → List (List A)
rows_by at xs [] = []
rows_by at xs (end ∷ ends) = take (end - at) (drop at xs) ∷ rows_by end xs ends

-- the ends do not fall, and the last row ends where all end
abbrev pub AreEnds : ℕ → List ℕ → ℕ → Type 0
AreEnds at [] all = at ≡ all
AreEnds at (end ∷ ends) all = (at ≤ end) × AreEnds end ends all

-- where row i begins
abbrev pub begins_at : List ℕ → ℕ → ℕ
begins_at ends i = get_or (0 ∷ ends) i 0
