-- A worked row, computed.
use Rattle.std.proofs.Common.{◌≡◌, ℕ, ◌^◌, ◌*◌, ℤ, pos, negsuc, neg_ℤ, Bool, true, false, List, [], ◌∷◌, Option, Some, None, refl}
use Rattle.lp_table.specs.declared.table.WarmTable.{WarmTable}
use Rattle.lp_table.specs.Updates.{moved_cell, added_row, moved_table_row}
use Rattle.lp_pivot.specs.Line.{line_of}
use Rattle.lp_pivot.specs.Pivot.{inverse_of, turned_entry, turned_line, moved_or_kept, entered, exchanged_basis, eliminated, replaced, pivoted}
use Rattle.lp_pivot.specs.Clean.{slack_basis, clean_of}
use Rattle.lp_pivot.specs.Tighten.{was_basic, better_place, best_place, left, tight}
use Rattle.lp_pivot.specs.Standings.{standing, standing_at, stood_up, rebuilt_of}

-- three columns in [0, 10], [0, 8] and [0, 20] at costs 0, 1 and 5; the first two are to be 5 together, the last two 6
abbrev chain : List ℕ → List (Option ℕ) → List Bool → List ℤ → List (List ℤ) → List ℤ → WarmTable
chain nonbasic places high reduced lines values =
    record {
      scales = record { rows = negsuc 0 ∷ negsuc 0 ∷ []; columns = pos 0 ∷ pos 0 ∷ pos 0 ∷ []; costs = negsuc 2; values = pos 0 };
      rows = ((0, pos (2 ^ 39)) ∷ (1, pos (2 ^ 39)) ∷ []) ∷ ((1, pos (2 ^ 39)) ∷ (2, pos (2 ^ 39)) ∷ []) ∷ [];
      cuts = record { rows = []; waiting = false ∷ false ∷ false ∷ [] };
      costs = pos 0 ∷ pos (2 ^ 37) ∷ pos (5 * 2 ^ 37) ∷ [];
      bounds = record {
        lows = pos 0 ∷ pos 0 ∷ pos 0 ∷ pos (5 * 2 ^ 31) ∷ pos (6 * 2 ^ 31) ∷ [];
        ups = pos (10 * 2 ^ 32) ∷ pos (8 * 2 ^ 32) ∷ pos (20 * 2 ^ 32) ∷ pos (5 * 2 ^ 31) ∷ pos (6 * 2 ^ 31) ∷ [];
        has_low = true ∷ true ∷ true ∷ true ∷ true ∷ [];
        has_up = true ∷ true ∷ true ∷ true ∷ true ∷ [];
      };
      basis = record { nonbasic = nonbasic; places = places; high = high };
      reduced = reduced;
      lines = lines;
      values = values;
      weak = false;
    }

abbrev zeros : List ℤ
zeros = pos 0 ∷ pos 0 ∷ pos 0 ∷ []

-- the last two columns are basic; their rows, with other numbers, are made anew in the order of the slacks
basis_again : rebuilt_of (chain (0 ∷ 4 ∷ 3 ∷ []) (Some 0 ∷ None ∷ None ∷ Some 2 ∷ Some 1 ∷ []) (false ∷ false ∷ true ∷ []) (pos 7 ∷ pos 7 ∷ pos 7 ∷ []) (zeros ∷ zeros ∷ zeros ∷ []) (pos 7 ∷ pos 7 ∷ pos 7 ∷ []))
    ≡ Some (chain (0 ∷ 3 ∷ 4 ∷ []) (Some 0 ∷ None ∷ None ∷ Some 1 ∷ Some 2 ∷ []) (false ∷ true ∷ false ∷ []) (pos 549755813888 ∷ neg_ℤ (pos 1099511627776) ∷ pos 1374389534720 ∷ []) (zeros ∷ (neg_ℤ (pos (2 ^ 40)) ∷ pos (2 ^ 41) ∷ pos 0 ∷ []) ∷ (pos (2 ^ 40) ∷ neg_ℤ (pos (2 ^ 41)) ∷ pos (2 ^ 41) ∷ []) ∷ []) zeros)
unfolding inverse_of turned_entry turned_line moved_or_kept entered exchanged_basis eliminated replaced pivoted moved_cell added_row moved_table_row line_of slack_basis clean_of was_basic better_place best_place left tight standing standing_at stood_up rebuilt_of lib.Count.count_leading_zeros
basis_again = refl
