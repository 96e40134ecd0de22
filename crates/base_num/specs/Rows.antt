-- Rows that stand one after the other in one list.
use Rattle.std.specs.Prelude.{ℕ, zero, suc, List, [], ◌∷◌, ◌++◌, take, drop}

-- m rows of n entries each, one after the other
abbrev pub rows_in_list : {A : Type 0} → ℕ → ℕ → List A → List (List A)
rows_in_list zero n xs = []
rows_in_list (suc m) n xs = take n xs ∷ rows_in_list m n (drop n xs)

-- xs with r in the place of the n entries from j on
abbrev pub put : {A : Type 0} → ℕ → ℕ → List A → List A → List A
put n j xs r = take j xs ++ (r ++ drop n (drop j xs))
