-- The table before any pivot: all slacks are basic.
use Rattle.std.specs.Prelude.{ℕ, ◌+◌, pos, false, List, length, map, replicate, nat_lt, Option, Some, None, if◌then◌else◌}
use Rattle.std.specs.List.{range_with_len}
use Rattle.lp_table.specs.declared.table.Basis.{Basis}
use Rattle.lp_table.specs.declared.table.WarmTable.{WarmTable}

-- the place of a variable: each column's is its number, and slacks have none
abbrev pub first_place : ℕ → ℕ → Option ℕ
first_place columns v = if nat_lt v columns then Some v else None

abbrev pub place_numbers : ℕ → List ℕ
place_numbers count = map (λ j. j) (range_with_len 0 count)

abbrev pub first_places : ℕ → ℕ → List (Option ℕ)
first_places columns count = map (first_place columns) (range_with_len 0 count)

-- all slacks are basic, and each column stands at its lower bound
unfoldable pub slack_basis : ℕ → ℕ → Basis
slack_basis columns rows = record { nonbasic = place_numbers columns; places = first_places columns (columns + rows); high = replicate columns false }

-- the table of that basis; its lines, of which no column needs one, are those that were there
unfoldable pub clean_of : WarmTable → WarmTable
clean_of t = record t { basis = slack_basis (length t.costs) (length t.rows); reduced = t.costs; values = replicate (length t.costs) (pos 0); weak = false }
