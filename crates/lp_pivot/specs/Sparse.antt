-- Values after shifts, of which those that are 0 are left out.
use Rattle.std.specs.Prelude.{ℕ, ℤ, ◌+ℤ◌, List, [], get_or, is_none, Option, Some, None, if◌then◌else◌}
use Rattle.base_num.specs.Sums.{entry, at_terms}
use Rattle.lp_table.specs.Numbers.{down_of, quantity_of}

-- the value of column v, which is x, after shifts at some places
unfoldable pub moved_by : List (Option ℕ) → List (List ℤ) → List (ℕ × ℤ) → ℕ → ℤ → Option ℤ
moved_by places lines shifts v x = if is_none (get_or places v None) then quantity_of (x +ℤ down_of (at_terms shifts (entry (get_or lines v [])))) else Some x
