-- Worked rows, computed.
use Rattle.std.proofs.Common.{◌≡◌, ℕ, ◌+◌, ◌^◌, ◌*◌, ℤ, pos, negsuc, neg_ℤ, Bool, true, false, List, [], ◌∷◌, Option, Some, None, refl}
use Rattle.lp_table.specs.declared.table.WarmTable.{WarmTable}
use Rattle.lp_table.specs.Updates.{moved_cell, added_row, moved_table_row}
use Rattle.lp_table.specs.SameParts.{with_values}
use Rattle.lp_pivot.specs.Line.{line_of}
use Rattle.lp_pivot.specs.Move.{length_of, step_of, bound_span, span_at, carried, put_at_bound, reached_values, arrived_values, moved_along, moved_of}
use Rattle.lp_pivot.specs.Pivot.{inverse_of, turned_entry, turned_line, moved_or_kept, entered, exchanged_basis, eliminated, replaced, pivoted}
use Rattle.lp_pivot.specs.Refine.{stand_of, placed_at_bound, shift_at, moved_value, stood_table, shifts_of, moved_values, refined}

abbrev half : ℤ
half = pos (2 ^ 39)

-- a column in [0, 10] with cost 2, and a row by which it is to be 3
abbrev one : List ℕ → List (Option ℕ) → ℤ → ℤ → WarmTable
one nonbasic places d cell =
    record {
      scales = record { rows = negsuc 0 ∷ []; columns = pos 0 ∷ []; costs = negsuc 1; values = pos 0 };
      rows = ((0, half) ∷ []) ∷ [];
      cuts = record { rows = []; waiting = false ∷ [] };
      costs = half ∷ [];
      bounds = record { lows = pos 0 ∷ pos 6442450944 ∷ []; ups = pos 42949672960 ∷ pos 0 ∷ []; has_low = true ∷ true ∷ []; has_up = true ∷ false ∷ [] };
      basis = record { nonbasic = nonbasic; places = places; high = false ∷ [] };
      reduced = d ∷ [];
      lines = (cell ∷ []) ∷ [];
      values = pos 0 ∷ [];
      weak = false;
    }

one_line : line_of (one (0 ∷ []) (Some 0 ∷ None ∷ []) half (pos 0)) 1 ≡ Some (half ∷ [])
unfolding line_of moved_cell added_row
one_line = refl

one_pivot : pivoted (one (0 ∷ []) (Some 0 ∷ None ∷ []) half (pos 0)) (half ∷ []) 1 false 0 [] ≡ Some (one (1 ∷ []) (None ∷ Some 0 ∷ []) (pos (2 ^ 40)) (pos (2 ^ 41)))
unfolding inverse_of turned_entry turned_line moved_or_kept entered exchanged_basis eliminated replaced pivoted moved_cell added_row moved_table_row lib.Count.count_leading_zeros
one_pivot = refl

one_point : refined (one (1 ∷ []) (None ∷ Some 0 ∷ []) (pos (2 ^ 40)) (pos (2 ^ 41))) ≡ Some (pos 12884901888 ∷ [])
unfolding stand_of placed_at_bound shift_at moved_value stood_table shifts_of moved_values refined
one_point = refl

-- three columns in [0, 10], [0, 8] and [0, 20] at costs 0, 1 and 5; the first two are to be 5 together, the last two 6
abbrev chain : List ℕ → List (Option ℕ) → List Bool → List ℤ → List (List ℤ) → WarmTable
chain nonbasic places high reduced lines =
    record {
      scales = record { rows = negsuc 0 ∷ negsuc 0 ∷ []; columns = pos 0 ∷ pos 0 ∷ pos 0 ∷ []; costs = negsuc 2; values = pos 0 };
      rows = ((0, half) ∷ (1, half) ∷ []) ∷ ((1, half) ∷ (2, half) ∷ []) ∷ [];
      cuts = record { rows = []; waiting = false ∷ false ∷ false ∷ [] };
      costs = pos 0 ∷ pos (2 ^ 37) ∷ pos (5 * 2 ^ 37) ∷ [];
      bounds = record {
        lows = pos 0 ∷ pos 0 ∷ pos 0 ∷ pos (5 * 2 ^ 31) ∷ pos (6 * 2 ^ 31) ∷ [];
        ups = pos (10 * 2 ^ 32) ∷ pos (8 * 2 ^ 32) ∷ pos (20 * 2 ^ 32) ∷ pos (5 * 2 ^ 31) ∷ pos (6 * 2 ^ 31) ∷ [];
        has_low = true ∷ true ∷ true ∷ true ∷ true ∷ [];
        has_up = true ∷ true ∷ true ∷ true ∷ true ∷ [];
      };
      basis = record { nonbasic = nonbasic; places = places; high = high };
      reduced = reduced;
      lines = lines;
      values = pos 0 ∷ pos 0 ∷ pos 0 ∷ [];
      weak = false;
    }

abbrev zeros : List ℤ
zeros = pos 0 ∷ pos 0 ∷ pos 0 ∷ []

abbrev chain_first : WarmTable
chain_first = chain (0 ∷ 4 ∷ 2 ∷ []) (Some 0 ∷ None ∷ Some 2 ∷ None ∷ Some 1 ∷ []) (false ∷ false ∷ false ∷ []) (pos 0 ∷ pos (2 ^ 38) ∷ half ∷ []) (zeros ∷ (pos 0 ∷ pos (2 ^ 41) ∷ neg_ℤ (pos (2 ^ 40)) ∷ []) ∷ zeros ∷ [])

-- the slack of the second row leaves for the second column
first_pivot : pivoted (chain (0 ∷ 1 ∷ 2 ∷ []) (Some 0 ∷ Some 1 ∷ Some 2 ∷ None ∷ None ∷ []) (false ∷ false ∷ false ∷ []) (pos 0 ∷ pos (2 ^ 37) ∷ pos (5 * 2 ^ 37) ∷ []) (zeros ∷ zeros ∷ zeros ∷ [])) (pos 0 ∷ half ∷ half ∷ []) 4 false 1 [] ≡ Some chain_first
unfolding inverse_of turned_entry turned_line moved_or_kept entered exchanged_basis eliminated replaced pivoted moved_cell added_row moved_table_row lib.Count.count_leading_zeros
first_pivot = refl

-- the line of the slack of the first row, in which a basic column stands
second_line : line_of chain_first 3 ≡ Some (half ∷ pos (2 ^ 40) ∷ neg_ℤ half ∷ [])
unfolding line_of moved_cell added_row
second_line = refl

-- it leaves for the third column
second_pivot : pivoted chain_first (half ∷ pos (2 ^ 40) ∷ neg_ℤ half ∷ []) 3 true 2 []
    ≡ Some (chain (0 ∷ 4 ∷ 3 ∷ []) (Some 0 ∷ None ∷ None ∷ Some 2 ∷ Some 1 ∷ []) (false ∷ false ∷ true ∷ []) (pos 549755813888 ∷ pos 1374389534720 ∷ neg_ℤ (pos 1099511627776) ∷ []) (zeros ∷ (neg_ℤ (pos (2 ^ 40)) ∷ pos 0 ∷ pos (2 ^ 41) ∷ []) ∷ (pos (2 ^ 40) ∷ pos (2 ^ 41) ∷ neg_ℤ (pos (2 ^ 41)) ∷ []) ∷ []))
unfolding inverse_of turned_entry turned_line moved_or_kept entered exchanged_basis eliminated replaced pivoted moved_cell added_row moved_table_row lib.Count.count_leading_zeros
second_pivot = refl

-- and the point is 0, 5, 1
second_point : refined (chain (0 ∷ 4 ∷ 3 ∷ []) (Some 0 ∷ None ∷ None ∷ Some 2 ∷ Some 1 ∷ []) (false ∷ false ∷ true ∷ []) (pos 549755813888 ∷ pos 1374389534720 ∷ neg_ℤ (pos 1099511627776) ∷ []) (zeros ∷ (neg_ℤ (pos (2 ^ 40)) ∷ pos 0 ∷ pos (2 ^ 41) ∷ []) ∷ (pos (2 ^ 40) ∷ pos (2 ^ 41) ∷ neg_ℤ (pos (2 ^ 41)) ∷ []) ∷ []))
    ≡ Some (pos 0 ∷ pos (5 * 2 ^ 32) ∷ pos (2 ^ 32) ∷ [])
unfolding stand_of placed_at_bound shift_at moved_value stood_table shifts_of moved_values refined
second_point = refl

-- the slack of the first row goes down to its upper side, and the third column up from 0 to 1; the second goes from 6 to 5
column_enters : moved_of (with_values chain_first (pos 0 ∷ pos (6 * 2 ^ 32) ∷ pos 0 ∷ [])) (half ∷ pos (2 ^ 40) ∷ neg_ℤ half ∷ []) 3 true 2 (pos (2 ^ 31)) [] ≡ Some (pos 0 ∷ pos (5 * 2 ^ 32) ∷ pos (2 ^ 32) ∷ [])
unfolding stand_of length_of step_of bound_span span_at carried put_at_bound reached_values arrived_values moved_along moved_of
column_enters = refl

-- the first column at 2, of [0, 2]; the second is 0, of [4, 8], and the third 6
abbrev spread : WarmTable
spread =
    record (chain (0 ∷ 4 ∷ 3 ∷ []) (Some 0 ∷ None ∷ None ∷ Some 2 ∷ Some 1 ∷ []) (true ∷ false ∷ false ∷ []) (pos 0 ∷ pos 0 ∷ half ∷ []) (zeros ∷ (neg_ℤ (pos (2 ^ 40)) ∷ pos 0 ∷ pos (2 ^ 41) ∷ []) ∷ (pos (2 ^ 40) ∷ pos (2 ^ 41) ∷ neg_ℤ (pos (2 ^ 41)) ∷ []) ∷ [])) {
      bounds = record {
        lows = pos 0 ∷ pos (4 * 2 ^ 32) ∷ pos 0 ∷ pos (2 ^ 32) ∷ pos (6 * 2 ^ 31) ∷ [];
        ups = pos (2 * 2 ^ 32) ∷ pos (8 * 2 ^ 32) ∷ pos (20 * 2 ^ 32) ∷ pos (10 * 2 ^ 32) ∷ pos (6 * 2 ^ 31) ∷ [];
        has_low = true ∷ true ∷ true ∷ true ∷ true ∷ [];
        has_up = true ∷ true ∷ true ∷ true ∷ true ∷ [];
      };
      values = pos (2 * 2 ^ 32) ∷ pos 0 ∷ pos (6 * 2 ^ 32) ∷ [];
    }

-- the first column flips, and the slack of the first row enters for the second column, which comes to 4; the third comes to 2
slack_enters : moved_of spread (neg_ℤ (pos (2 ^ 40)) ∷ pos 0 ∷ pos (2 ^ 41) ∷ []) 1 false 2 (pos (2 * 2 ^ 32)) (0 ∷ []) ≡ Some (pos 0 ∷ pos (4 * 2 ^ 32) ∷ pos (2 * 2 ^ 32) ∷ [])
unfolding stand_of length_of step_of bound_span span_at carried put_at_bound reached_values arrived_values moved_along moved_of
slack_enters = refl

-- the violation that is left over the cell is rounded towards zero; the second column comes down to its upper bound
rounds_to_zero : moved_of spread (pos 0 ∷ pos 0 ∷ pos (3 * 2 ^ 40 + 1) ∷ []) 1 true 2 (pos (7 * 2 ^ 32)) (0 ∷ []) ≡ Some (pos 0 ∷ pos (8 * 2 ^ 32) ∷ pos 37223049898 ∷ [])
unfolding stand_of length_of step_of bound_span span_at carried put_at_bound reached_values arrived_values moved_along moved_of
rounds_to_zero = refl

-- 2^20 times 2^35 is no quantity
goes_too_far : moved_of spread (pos 0 ∷ pos 0 ∷ pos (2 ^ 20) ∷ []) 1 false 2 (pos (2 ^ 35)) [] ≡ None
unfolding stand_of length_of step_of bound_span span_at carried put_at_bound reached_values arrived_values moved_along moved_of
goes_too_far = refl
