-- The value of a row at the columns' values.
use Rattle.std.specs.Prelude.{ℕ, ℤ, List, [], get_or, Option}
use Rattle.base_num.specs.Sums.{entry, at_terms}
use Rattle.lp_table.specs.Numbers.{down_of, quantity_of}
use Rattle.lp_table.specs.declared.table.WarmTable.{WarmTable}

-- the sum of terms at the values x, rounded once; none where it is no quantity
abbrev pub row_activity : List (ℕ × ℤ) → List ℤ → Option ℤ
row_activity terms x = quantity_of (down_of (at_terms terms (entry x)))

-- the value of row i
abbrev pub activity_of : WarmTable → ℕ → Option ℤ
activity_of t i = row_activity (get_or t.rows i []) t.values
