-- Lines of a report, one for each item of a list.
use Rattle.std.specs.Prelude.{ℕ, suc, List, [], ◌∷◌, ◌++◌}

-- the texts of the items one after another, with their numbers from i on
abbrev pub numbered : {A : Type 0} → (ℕ → A → List ℕ) → ℕ → List A → List ℕ
numbered text i [] = []
numbered text i (x ∷ xs) = text i x ++ numbered text (suc i) xs
