-- Lists whose entries rise, and lists without an entry that comes twice.
use Rattle.std.specs.Prelude.{ℕ, Bool, true, ◌&&◌, not, List, [], ◌∷◌, drop}
use Rattle.std.specs.Ordering.{is_lt, nat_cmp}
use Rattle.std.specs.Cmp.Lexicographic.{slice_cmp}
use Rattle.std.specs.List.{list_all, list_any, zip}

-- each entry comes before the next one
unfoldable pub rises : {A : Type 0} → (A → A → Bool) → List A → Bool
rises {A} before xs = list_all (λ (p : A × A). before p.0 p.1) (zip xs (drop 1 xs))

-- no two entries are the same
unfoldable pub are_distinct : {A : Type 0} → (A → A → Bool) → List A → Bool
are_distinct same [] = true
are_distinct same (x ∷ xs) = not (list_any (same x) xs) && are_distinct same xs

-- a text that comes before another one in byte order
abbrev pub is_before : List ℕ → List ℕ → Bool
is_before a b = is_lt (slice_cmp nat_cmp a b)
