-- The terms of a row.
use Rattle.std.specs.Prelude.{ℕ, ◌+◌, ℤ, pos, List, [], ◌∷◌, if◌then◌else◌}
use Rattle.std.specs.Ordering.{int_eq}
use Rattle.base_num.specs.Sums.{Term}

-- the factors that are not 0 with their places, where the first factor's place is k
abbrev pub terms_from_place : ℕ → List ℤ → List Term
terms_from_place k [] = []
terms_from_place k (x ∷ xs) = if int_eq x (pos 0) then terms_from_place (k + 1) xs else (k, x) ∷ terms_from_place (k + 1) xs
