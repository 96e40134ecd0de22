-- The point of a basis: nonbasic variables stand at their bounds, and basic columns are moved by the errors of the rows.
use Rattle.std.specs.Prelude.{◌≡◌, ℕ, suc, ◌-◌, ℤ, pos, ◌-ℤ◌, ◌*ℤ◌, Bool, false, List, [], ◌∷◌, length, get_or, slice_set, is_none, nat_lt, Option, Some, None, if◌then◌else◌}
use Rattle.std.specs.Option.{option_and_then, unwrap_or}
use Rattle.base_num.specs.Each.{each_from}
use Rattle.lp_wide_table.specs.Numbers.{sum_of, wide_down_of, wide_quantity_of, value_sum}
use Rattle.lp_wide_table.specs.Bounding.{wide_low_bound_of, wide_up_bound_of}
use Rattle.lp_wide_table.specs.SameParts.{wide_with_values}
use Rattle.lp_wide_table.specs.declared.table.WideBounds.{WideBounds}
use Rattle.lp_wide_table.specs.declared.table.WideTable.{WideTable}
use Rattle.lp_wide.specs.Activity.{wide_activity_of}

-- as many upper bounds and signs that there are bounds as lower bounds
pub record AreWideBoundsWhole (b : WideBounds) : Type 0 where
  pub ups : length b.ups ≡ length b.lows
  pub has_low : length b.has_low ≡ length b.lows
  pub has_up : length b.has_up ≡ length b.lows

-- the upper or the lower bound of a variable, 0 where it is absent
unfoldable pub wide_stand_of : WideBounds → Bool → ℕ → ℤ
wide_stand_of b high v = unwrap_or (if high then wide_up_bound_of b v else wide_low_bound_of b v) (pos 0)

-- the values x with that of the variable v at place j, where it is a column, at its bound
unfoldable pub wide_placed_at_bound : WideBounds → List Bool → ℕ → ℕ → List ℤ → List ℤ
wide_placed_at_bound b high j v x = if nat_lt v (length x) then slice_set x v (wide_stand_of b (get_or high j false) v) else x

-- the values of the variables from place j on
abbrev pub wide_stood : WideBounds → List Bool → ℕ → List ℕ → List ℤ → List ℤ
wide_stood b high j [] x = x
wide_stood b high j (v ∷ vs) x = wide_stood b high (suc j) vs (wide_placed_at_bound b high j v x)

-- by how much a stand is off the value of its row
abbrev pub wide_off : ℤ → Option ℤ → Option ℤ
wide_off stand found = option_and_then (λ a. wide_quantity_of (stand -ℤ a)) found

-- the shift at place j, where v stands: of a slack, by how much its row is off; of a column, 0
unfoldable pub wide_shift_at : WideTable → ℕ → ℕ → Option ℤ
wide_shift_at t j v = if nat_lt v (length t.costs) then Some (pos 0) else wide_off (wide_stand_of t.bounds (get_or t.basis.high j false) v) (wide_activity_of t (v - length t.costs))

-- s + the products of cells and shifts, one after the other, as far as both go; none where 256 bits do not hold a sum
abbrev pub shares_from : ℤ → List ℤ → List ℤ → Option ℤ
shares_from s [] q = Some s
shares_from s (c ∷ cs) [] = Some s
shares_from s (c ∷ cs) (x ∷ xs) = option_and_then (λ r. shares_from r cs xs) (sum_of s (c *ℤ x))

-- the value x of a column with this line after the shifts q
unfoldable pub shifted_value : List ℤ → List ℤ → ℤ → Option ℤ
shifted_value line q x = option_and_then (value_sum x) (option_and_then wide_down_of (shares_from (pos 0) line q))

-- the value of column v, which is x, after the shifts q
unfoldable pub wide_moved_value : List (Option ℕ) → List (List ℤ) → List ℤ → ℕ → ℤ → Option ℤ
wide_moved_value places lines q v x = if is_none (get_or places v None) then shifted_value (get_or lines v []) q x else Some x

-- the table with each nonbasic column at its bound
unfoldable pub wide_stood_table : WideTable → WideTable
wide_stood_table t = wide_with_values t (wide_stood t.bounds t.basis.high 0 t.basis.nonbasic t.values)

-- the shifts of all places; none where one is no quantity
unfoldable pub wide_shifts_of : WideTable → Option (List ℤ)
wide_shifts_of t = each_from (wide_shift_at t) 0 t.basis.nonbasic

-- the values after the shifts q; none where one is no quantity
unfoldable pub wide_moved_values : WideTable → List ℤ → Option (List ℤ)
wide_moved_values t q = each_from (wide_moved_value t.basis.places t.lines q) 0 t.values

-- the values of the basis of a table; none where one is no quantity
unfoldable pub wide_refined : WideTable → Option (List ℤ)
wide_refined t = option_and_then (wide_moved_values (wide_stood_table t)) (wide_shifts_of (wide_stood_table t))
