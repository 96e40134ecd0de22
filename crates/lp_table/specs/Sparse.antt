-- Lists without the numbers that are 0, and rows to which they are added.
use Rattle.std.specs.Prelude.{ℕ, suc, ℤ, pos, List, [], ◌∷◌, slice_set, Option, Some, if◌then◌else◌}
use Rattle.std.specs.Option.{option_and_then}
use Rattle.std.specs.Ordering.{int_eq}
use Rattle.base_num.specs.Sums.{entry}
use Rattle.lp_table.specs.Updates.{moved_cell}

-- the numbers from place j on that are not 0, each with its place
abbrev pub sparse : ℕ → List ℤ → List (ℕ × ℤ)
sparse j [] = []
sparse j (q ∷ qs) = if int_eq q (pos 0) then sparse (suc j) qs else (j, q) ∷ sparse (suc j) qs

-- q times some numbers added to a row, each at its place
abbrev pub added_at : ℤ → List (ℕ × ℤ) → List ℤ → Option (List ℤ)
added_at q [] row = Some row
added_at q (s ∷ ss) row = option_and_then (λ x. added_at q ss (slice_set row s.0 x)) (moved_cell q s.1 (entry row s.0))
