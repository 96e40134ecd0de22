-- The pivot: a basic variable leaves, and the one at a place enters.
use Rattle.std.specs.Prelude.{ℕ, ◌+◌, ◌-◌, ◌^◌, ℤ, pos, neg_ℤ, ◌+ℤ◌, ◌*ℤ◌, Bool, false, not, ◌&&◌, ◌==◌, List, [], ◌∷◌, length, get_or, slice_set, is_none, nat_lt, Option, Some, None, if◌then◌else◌}
use Rattle.std.specs.Option.{option_map, option_and_then}
use Rattle.std.specs.Ordering.{int_eq}
use Rattle.base_num.specs.Sums.{entry, floor_over}
use Rattle.lp_table.specs.Numbers.{cell_of, bits_of, quotient_of}
use Rattle.base_num.specs.Each.{each_from}
use Rattle.lp_table.specs.Updates.{moved_table_row}
use Rattle.lp_table.specs.declared.table.Basis.{Basis}
use Rattle.lp_table.specs.declared.table.WarmTable.{WarmTable}
use Rattle.lp_table.specs.SameParts.{with_basis}

-- -2^40, which stands for -1
abbrev pub minus_one : ℤ
minus_one = neg_ℤ (pos (2 ^ 40))

-- 1/p at scale 2^(bits(p) + 56)
unfoldable pub inverse_of : ℤ → ℤ
inverse_of p = quotient_of (pos (2 ^ (bits_of p + 56))) p

-- -x inv / 2^k, rounded to the nearest; 0 stays 0
unfoldable pub turned_entry : ℤ → ℕ → ℤ → Option ℤ
turned_entry inv k x = if int_eq x (pos 0) then Some (pos 0) else cell_of (neg_ℤ (floor_over (x *ℤ inv +ℤ pos (2 ^ (k - 1))) (2 ^ k)))

-- the line of the entering variable, by the line r of the leaving one, whose cell at place e is the pivot
unfoldable pub turned_line : ℕ → List ℤ → Option (List ℤ)
turned_line e r = each_from (λ j x. turned_entry (inverse_of (entry r e)) (bits_of (entry r e) + 16) x) 0 (slice_set r e minus_one)

-- the line of column k: moved where it is basic and does not leave
unfoldable pub moved_or_kept : List (Option ℕ) → ℕ → ℕ → List ℤ → ℕ → List ℤ → Option (List ℤ)
moved_or_kept places v e n k line = if is_none (get_or places k None) && not (k == v) then moved_table_row e n line else Some line

-- the lines with that of u, where it is a column
unfoldable pub entered : List (List ℤ) → ℕ → List ℤ → List (List ℤ)
entered lines u n = if nat_lt u (length lines) then slice_set lines u n else lines

-- the variables at some places stand at their other bounds
abbrev pub flipped : List Bool → List ℕ → List Bool
flipped high [] = high
flipped high (j ∷ js) = flipped (slice_set high j (not (get_or high j false))) js

-- the basis where v takes place e, at its upper bound where it violates that, and some others flip
unfoldable pub exchanged_basis : Basis → ℕ → Bool → ℕ → List ℕ → Basis
exchanged_basis b v above e flips =
    record {
      nonbasic = slice_set b.nonbasic e v;
      places = slice_set (slice_set b.places (get_or b.nonbasic e 0) None) v (Some e);
      high = slice_set (flipped b.high flips) e above;
    }

-- the table after the pivot of v at place e, whose new line is n, but for the basis and that line; none where a number is no cell
unfoldable pub eliminated : WarmTable → List ℤ → ℕ → ℕ → Option WarmTable
eliminated t n v e = option_and_then (λ lines. option_map (λ reduced. with_basis t t.basis reduced lines) (moved_table_row e n t.reduced)) (each_from (moved_or_kept t.basis.places v e n) 0 t.lines)

-- the table with v at place e, and the line n of the variable that was there
unfoldable pub replaced : WarmTable → List ℤ → ℕ → Bool → ℕ → List ℕ → WarmTable
replaced t n v above e flips = with_basis t (exchanged_basis t.basis v above e flips) t.reduced (entered t.lines (get_or t.basis.nonbasic e 0) n)

-- the table after v leaves, with the line r, for the variable at place e; none where a number is no cell
unfoldable pub pivoted : WarmTable → List ℤ → ℕ → Bool → ℕ → List ℕ → Option WarmTable
pivoted t r v above e flips = option_and_then (λ n. option_map (λ s. replaced s n v above e flips) (eliminated t n v e)) (turned_line e r)
