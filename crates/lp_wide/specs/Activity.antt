-- Sums of products, and the value of a row.
use Rattle.std.specs.Prelude.{ℕ, ℤ, pos, ◌*ℤ◌, List, [], ◌∷◌, get_or, Option, Some}
use Rattle.std.specs.Option.{option_and_then}
use Rattle.base_num.specs.Sums.{entry}
use Rattle.lp_wide_table.specs.Numbers.{sum_of, wide_down_of, wide_quantity_of}
use Rattle.lp_wide_table.specs.declared.table.WideTable.{WideTable}

-- s + the sum of terms at the values x, one after the other; none where 256 bits do not hold a sum
abbrev pub wide_terms_from : ℤ → List (ℕ × ℤ) → List ℤ → Option ℤ
wide_terms_from s [] x = Some s
wide_terms_from s (t ∷ ts) x = option_and_then (λ r. wide_terms_from r ts x) (sum_of s (t.1 *ℤ entry x t.0))

-- the sum of terms at the values x, rounded once; none where it is no quantity
abbrev pub wide_row_activity : List (ℕ × ℤ) → List ℤ → Option ℤ
wide_row_activity terms x = option_and_then wide_quantity_of (option_and_then wide_down_of (wide_terms_from (pos 0) terms x))

-- the value of row i
unfoldable pub wide_activity_of : WideTable → ℕ → Option ℤ
wide_activity_of t i = wide_row_activity (get_or t.rows i []) t.values
