-- WideRows with a multiple of another row added.
use Rattle.std.specs.Prelude.{ℕ, ℤ, pos, ◌*ℤ◌, List, [], get_or, slice_set, Option, Some, if◌then◌else◌}
use Rattle.std.specs.Option.{option_map, option_and_then}
use Rattle.std.specs.Ordering.{int_eq}
use Rattle.base_num.specs.Sums.{entry}
use Rattle.base_num.specs.Each.{each_from}
use Rattle.lp_wide_table.specs.Numbers.{wide_down_of, cell_sum}

-- the cell t with q n added; as it was where n is 0
unfoldable pub wide_moved_cell : ℤ → ℤ → ℤ → Option ℤ
wide_moved_cell q n t = if int_eq n (pos 0) then Some t else option_and_then (cell_sum t) (wide_down_of (q *ℤ n))

-- q ns added to a row
unfoldable pub wide_added_row : ℤ → List ℤ → List ℤ → Option (List ℤ)
wide_added_row q ns row = each_from (λ j t. wide_moved_cell q (entry ns j) t) 0 row

-- the row after the variable at place e is replaced, by the new row ns
unfoldable pub wide_moved_table_row : ℕ → List ℤ → List ℤ → Option (List ℤ)
wide_moved_table_row e ns row = if int_eq (entry row e) (pos 0) then Some row else wide_added_row (entry row e) ns (slice_set row e (pos 0))

-- the rows after the variable at place e is replaced in row v
abbrev pub wide_moved_at : ℕ → ℕ → List ℤ → List (List ℤ) → Option (List (List ℤ))
wide_moved_at v e ns rows = option_map (slice_set rows v) (wide_moved_table_row e ns (get_or rows v []))
