-- The pivot: a basic variable leaves, and the one at a place enters.
use Rattle.std.specs.Prelude.{ℕ, ◌+◌, ◌^◌, ℤ, pos, neg_ℤ, ◌*ℤ◌, Bool, not, ◌&&◌, ◌==◌, List, length, get_or, slice_set, is_none, nat_lt, Option, Some, None, if◌then◌else◌}
use Rattle.std.specs.Option.{option_map, option_and_then}
use Rattle.std.specs.Ordering.{int_eq}
use Rattle.base_num.specs.Sums.{entry}
use Rattle.lp_table.specs.Numbers.{bits_of, quotient_of}
use Rattle.base_num.specs.Each.{each_from}
use Rattle.lp_pivot.specs.Pivot.{exchanged_basis}
use Rattle.lp_wide_table.specs.Numbers.{wide_cell_of, nearest}
use Rattle.lp_wide_table.specs.Updates.{wide_moved_table_row}
use Rattle.lp_wide_table.specs.SameParts.{wide_with_basis}
use Rattle.lp_wide_table.specs.declared.table.WideTable.{WideTable}

-- -2^80, which stands for -1
abbrev pub wide_minus_one : ℤ
wide_minus_one = neg_ℤ (pos (2 ^ 80))

-- 1/p at scale 2^(bits(p) + 124)
unfoldable pub wide_inverse_of : ℤ → ℤ
wide_inverse_of p = quotient_of (pos (2 ^ (bits_of p + 124))) p

-- -x inv / 2^k, rounded to the nearest; 0 stays 0
unfoldable pub wide_turned_entry : ℤ → ℕ → ℤ → Option ℤ
wide_turned_entry inv k x = if int_eq x (pos 0) then Some (pos 0) else option_map neg_ℤ (option_and_then wide_cell_of (nearest (x *ℤ inv) k))

-- the line of the entering variable, by the line r of the leaving one, whose cell at place e is the pivot
unfoldable pub wide_turned_line : ℕ → List ℤ → Option (List ℤ)
wide_turned_line e r = each_from (λ j x. wide_turned_entry (wide_inverse_of (entry r e)) (bits_of (entry r e) + 44) x) 0 (slice_set r e wide_minus_one)

-- the line of column k: moved where it is basic and does not leave
unfoldable pub wide_moved_or_kept : List (Option ℕ) → ℕ → ℕ → List ℤ → ℕ → List ℤ → Option (List ℤ)
wide_moved_or_kept places v e n k line = if is_none (get_or places k None) && not (k == v) then wide_moved_table_row e n line else Some line

-- the lines with that of u, where it is a column
unfoldable pub wide_entered : List (List ℤ) → ℕ → List ℤ → List (List ℤ)
wide_entered lines u n = if nat_lt u (length lines) then slice_set lines u n else lines

-- the table after the pivot of v at place e, whose new line is n, but for the basis and that line; none where a number is no cell
unfoldable pub wide_eliminated : WideTable → List ℤ → ℕ → ℕ → Option WideTable
wide_eliminated t n v e = option_and_then (λ lines. option_map (λ reduced. wide_with_basis t t.basis reduced lines) (wide_moved_table_row e n t.reduced)) (each_from (wide_moved_or_kept t.basis.places v e n) 0 t.lines)

-- the table with v at place e, and the line n of the variable that was there
unfoldable pub wide_replaced : WideTable → List ℤ → ℕ → Bool → ℕ → List ℕ → WideTable
wide_replaced t n v above e flips = wide_with_basis t (exchanged_basis t.basis v above e flips) t.reduced (wide_entered t.lines (get_or t.basis.nonbasic e 0) n)

-- the table after v leaves, with the line r, for the variable at place e; none where a number is no cell
unfoldable pub wide_pivoted : WideTable → List ℤ → ℕ → Bool → ℕ → List ℕ → Option WideTable
wide_pivoted t r v above e flips = option_and_then (λ n. option_map (λ s. wide_replaced s n v above e flips) (wide_eliminated t n v e)) (wide_turned_line e r)
