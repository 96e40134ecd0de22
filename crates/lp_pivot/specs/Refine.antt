-- The point of a basis: nonbasic variables stand at their bounds, and basic columns are moved by the errors of the rows.
use Rattle.std.specs.Prelude.{◌≡◌, ℕ, suc, ◌-◌, ℤ, pos, ◌+ℤ◌, ◌-ℤ◌, Bool, false, List, [], ◌∷◌, length, get_or, slice_set, is_none, nat_lt, Option, Some, None, if◌then◌else◌}
use Rattle.std.specs.Option.{option_and_then, unwrap_or}
use Rattle.base_num.specs.Sums.{dot}
use Rattle.lp_table.specs.Numbers.{down_of, quantity_of}
use Rattle.base_num.specs.Each.{each_from}
use Rattle.lp_table.specs.Bounding.{low_bound_of, up_bound_of}
use Rattle.lp_table.specs.declared.table.Bounds.{Bounds}
use Rattle.lp_table.specs.declared.table.WarmTable.{WarmTable}
use Rattle.lp_pivot.specs.Activity.{activity_of}
use Rattle.lp_table.specs.SameParts.{with_values}

-- as many upper bounds and signs that there are bounds as lower bounds
pub record AreBoundsWhole (b : Bounds) : Type 0 where
  pub ups : length b.ups ≡ length b.lows
  pub has_low : length b.has_low ≡ length b.lows
  pub has_up : length b.has_up ≡ length b.lows

-- the upper or the lower bound of a variable, 0 where it is absent
unfoldable pub stand_of : Bounds → Bool → ℕ → ℤ
stand_of b high v = unwrap_or (if high then up_bound_of b v else low_bound_of b v) (pos 0)

-- the values x with that of the variable v at place j, where it is a column, at its bound
unfoldable pub placed_at_bound : Bounds → List Bool → ℕ → ℕ → List ℤ → List ℤ
placed_at_bound b high j v x = if nat_lt v (length x) then slice_set x v (stand_of b (get_or high j false) v) else x

-- the values of the variables from place j on
abbrev pub stood : Bounds → List Bool → ℕ → List ℕ → List ℤ → List ℤ
stood b high j [] x = x
stood b high j (v ∷ vs) x = stood b high (suc j) vs (placed_at_bound b high j v x)

-- by how much a stand is off the value of its row
abbrev pub off : ℤ → Option ℤ → Option ℤ
off stand found = option_and_then (λ a. quantity_of (stand -ℤ a)) found

-- the shift at place j, where v stands: of a slack, by how much its row is off; of a column, 0
unfoldable pub shift_at : WarmTable → ℕ → ℕ → Option ℤ
shift_at t j v = if nat_lt v (length t.costs) then Some (pos 0) else off (stand_of t.bounds (get_or t.basis.high j false) v) (activity_of t (v - length t.costs))

-- the value of column v, which is x, after the shifts q
unfoldable pub moved_value : List (Option ℕ) → List (List ℤ) → List ℤ → ℕ → ℤ → Option ℤ
moved_value places lines q v x = if is_none (get_or places v None) then quantity_of (x +ℤ down_of (dot (get_or lines v []) q)) else Some x

-- the table with each nonbasic column at its bound
unfoldable pub stood_table : WarmTable → WarmTable
stood_table t = with_values t (stood t.bounds t.basis.high 0 t.basis.nonbasic t.values)

-- the shifts of all places; none where one is no quantity
unfoldable pub shifts_of : WarmTable → Option (List ℤ)
shifts_of t = each_from (shift_at t) 0 t.basis.nonbasic

-- the values after the shifts q; none where one is no quantity
unfoldable pub moved_values : WarmTable → List ℤ → Option (List ℤ)
moved_values t q = each_from (moved_value t.basis.places t.lines q) 0 t.values

-- the values of the basis of a table; none where one is no quantity
unfoldable pub refined : WarmTable → Option (List ℤ)
refined t = option_and_then (moved_values (stood_table t)) (shifts_of (stood_table t))
