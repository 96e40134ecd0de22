-- WideRows that change keep their lengths, and are put back where they were.
use Rattle.std.proofs.Common.{◌≡◌, ℕ, ◌+◌, ◌*◌, ◌<◌, ◌≤◌, ℤ, pos, List, [], ◌++◌, length, take, drop, get_or, length-set, slice_set, Option, Some, None, Bool, true, false, cond, arith, refl, ap, sym, ◌∙◌, subst}
use Rattle.std.specs.Option.{option_map}
use Rattle.std.specs.Ordering.{int_eq}
use Rattle.std.proofs.lemmas.List.{take_at, length-drop, length-take-le}
use Rattle.base_num.specs.Sums.{entry}
use Rattle.base_num.specs.Rows.{rows_in_list, put}
use Rattle.lp_table.specs.Updates.{GivesNew}
use Rattle.lp_wide_table.specs.Updates.{wide_moved_cell, wide_added_row, wide_moved_table_row, wide_moved_at}
use Rattle.base_num.proofs.Each.{each_length, some_same}
use Rattle.base_num.proofs.Flat.{row_is, rows_set}
use Rattle.lp_table.proofs.Squares.{inside}

pub added_length : (q : ℤ) (ns row ys : List ℤ) → wide_added_row q ns row ≡ Some ys → length ys ≡ length row
unfolding wide_added_row
added_length q ns row ys h = each_length (λ j t. wide_moved_cell q (entry ns j) t) 0 row ys h

pub moved_length : (e : ℕ) (ns row ys : List ℤ) → wide_moved_table_row e ns row ≡ Some ys → length ys ≡ length row
unfolding wide_moved_table_row
moved_length e ns row ys h = by_test (int_eq (entry row e) (pos 0)) h
  where
    by_test : (b : Bool) → cond b (Some row) (wide_added_row (entry row e) ns (slice_set row e (pos 0))) ≡ Some ys → length ys ≡ length row
    by_test true k = sym (ap length (some_same k))
    by_test false k = added_length (entry row e) ns (slice_set row e (pos 0)) ys k ∙ length-set row e (pos 0)

-- all numbers are written over
pub written : (old items : List ℤ) → length items ≡ length old → take (length old) (items ++ drop (length items) old) ≡ items
written old items e = take_at items (drop (length items) old) (length old) e

-- one row that is made anew
put_rows : (n v : ℕ) (old new : List ℤ) (made : Option (List ℤ)) (result : Bool) → v < n → length old ≡ n * n → ((ys : List ℤ) → made ≡ Some ys → length ys ≡ n) → GivesNew result (option_map (put n (v * n) old) made) new → GivesNew result (option_map (slice_set (rows_in_list n n old) v) made) (rows_in_list n n new)
put_rows n v old new None true there square long h = absurd (cc)
put_rows n v old new None false there square long h = refl
put_rows n v old new (Some r) true there square long h = ap Some (sym (rows_set n n v old r there (long r refl) (subst (λ (k : ℕ). n * n ≤ k) (sym square) (omega arith))) ∙ ap (rows_in_list n n) (some_same h))
put_rows n v old new (Some r) false there square long h = absurd (cc)

-- row v moved, by the list of all cells
pub moved_rows : (n v e : ℕ) (ns old new : List ℤ) (result : Bool) → v < n → length ns ≡ n → length old ≡ n * n → length new ≡ length old → GivesNew result (option_map (put (length ns) (v * n) old) (wide_moved_table_row e ns (take (length ns) (drop (v * n) old)))) new → GivesNew result (wide_moved_at v e ns (rows_in_list n n old)) (rows_in_list n n (take (length old) (new ++ drop (length new) old)))
moved_rows n v e ns old new result there width square same h =
    let room : v * n + n ≤ length old = subst (λ (k : ℕ). v * n + n ≤ k) (sym square) (inside n v there) in
    let row : take (length ns) (drop (v * n) old) ≡ get_or (rows_in_list n n old) v [] = ap (λ (k : ℕ). take k (drop (v * n) old)) width ∙ sym (row_is n n v old there) in
    let wide : length (get_or (rows_in_list n n old) v []) ≡ n = ap length (row_is n n v old there) ∙ length-take-le n (drop (v * n) old) (subst (λ (m : ℕ). n ≤ m) (sym (length-drop (v * n) old)) (omega (arith, room))) in
    subst (λ (xs : List ℤ). GivesNew result (wide_moved_at v e ns (rows_in_list n n old)) (rows_in_list n n xs)) (sym (written old new same))
    (put_rows n v old new (wide_moved_table_row e ns (get_or (rows_in_list n n old) v [])) result there square (λ ys k. moved_length e ns (get_or (rows_in_list n n old) v []) ys k ∙ wide)
    (subst (λ (xs : List ℤ). GivesNew result (option_map (put n (v * n) old) (wide_moved_table_row e ns xs)) new) row
    (subst (λ (k : ℕ). GivesNew result (option_map (put k (v * n) old) (wide_moved_table_row e ns (take (length ns) (drop (v * n) old)))) new) width h)))
