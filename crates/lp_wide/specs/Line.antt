-- A basic variable as a sum over the places.
use Rattle.std.specs.Prelude.{ℕ, ◌-◌, ℤ, pos, List, [], ◌∷◌, length, get_or, slice_set, replicate, nat_lt, Option, Some, None, if◌then◌else◌}
use Rattle.std.specs.Option.{option_map, option_and_then}
use Rattle.base_num.specs.Sums.{entry}
use Rattle.lp_wide_table.specs.Numbers.{cell_sum}
use Rattle.lp_wide_table.specs.Updates.{wide_added_row}
use Rattle.lp_wide_table.specs.declared.table.WideTable.{WideTable}

-- the line r with the term of column u and coefficient a added, by u's place: the coefficient is added there, or, where u is basic, its line times the coefficient
abbrev pub wide_added_term : List (List ℤ) → List ℤ → ℕ → ℤ → Option ℕ → Option (List ℤ)
wide_added_term lines r u a (Some j) = option_map (slice_set r j) (cell_sum (entry r j) a)
wide_added_term lines r u a None = wide_added_row a (get_or lines u []) r

-- the line r with terms added, one after the other
abbrev pub wide_added_terms : List (Option ℕ) → List (List ℤ) → List ℤ → List (ℕ × ℤ) → Option (List ℤ)
wide_added_terms places lines r [] = Some r
wide_added_terms places lines r (t ∷ ts) = option_and_then (λ s. wide_added_terms places lines s ts) (wide_added_term lines r t.0 t.1 (get_or places t.0 None))

-- the line of a basic variable; none where one of its numbers is no cell on the way
unfoldable pub wide_line_of : WideTable → ℕ → Option (List ℤ)
wide_line_of t v =
    if nat_lt v (length t.costs) then Some (get_or t.lines v []) else wide_added_terms t.basis.places t.lines (replicate (length t.costs) (pos 0)) (get_or t.rows (v - length t.costs) [])
