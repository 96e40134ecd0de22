-- Rows with a multiple of another row added.
use Rattle.std.specs.Prelude.{◌≡◌, ℕ, ℤ, pos, ◌+ℤ◌, ◌*ℤ◌, Bool, true, false, List, [], get_or, slice_set, Option, Some, None, if◌then◌else◌}
use Rattle.std.specs.Option.{option_map}
use Rattle.std.specs.Ordering.{int_eq}
use Rattle.base_num.specs.Sums.{entry}
use Rattle.lp_table.specs.Numbers.{down_of, cell_of}
use Rattle.base_num.specs.Each.{each_from}

-- the cell t with q n added; as it was where n is 0
unfoldable pub moved_cell : ℤ → ℤ → ℤ → Option ℤ
moved_cell q n t = if int_eq n (pos 0) then Some t else cell_of (t +ℤ down_of (q *ℤ n))

-- q ns added to a row
unfoldable pub added_row : ℤ → List ℤ → List ℤ → Option (List ℤ)
added_row q ns row = each_from (λ j t. moved_cell q (entry ns j) t) 0 row

-- the row after the variable at place e is replaced, by the new row ns
unfoldable pub moved_table_row : ℕ → List ℤ → List ℤ → Option (List ℤ)
moved_table_row e ns row = if int_eq (entry row e) (pos 0) then Some row else added_row (entry row e) ns (slice_set row e (pos 0))

-- the rows after the variable at place e is replaced in row v
abbrev pub moved_at : ℕ → ℕ → List ℤ → List (List ℤ) → Option (List (List ℤ))
moved_at v e ns rows = option_map (slice_set rows v) (moved_table_row e ns (get_or rows v []))

-- true where there is a new value, false where it is absent
abbrev pub GivesNew : {A : Type 0} → Bool → Option A → A → Type 0
GivesNew true made new = made ≡ Some new
GivesNew false made new = made ≡ None
