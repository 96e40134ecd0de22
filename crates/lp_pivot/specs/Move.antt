-- The point where a variable leaves for another, before the basis changes: it goes along the one that enters and along those that flip.
use Rattle.std.specs.Prelude.{ℕ, ◌^◌, ℤ, pos, neg_ℤ, ◌+ℤ◌, ◌-ℤ◌, ◌*ℤ◌, nat_abs, int_lt, nat_lt, Bool, false, not, ◌&&◌, ◌==◌, List, [], ◌∷◌, length, map, get_or, slice_set, is_none, Option, Some, None, if◌then◌else◌}
use Rattle.std.specs.Option.{option_map, option_and_then}
use Rattle.base_num.specs.Sums.{entry, at_terms}
use Rattle.base_num.specs.Each.{each_from}
use Rattle.lp_table.specs.Numbers.{down_of, quantity_of, quotient_of}
use Rattle.lp_table.specs.declared.table.WarmTable.{WarmTable}
use Rattle.lp_pivot.specs.Refine.{stand_of}

-- the number, with the other sign where it is turned
abbrev pub turned_by : Bool → ℤ → ℤ
turned_by turns q = if turns then neg_ℤ q else q

-- the distance that a variable with the cell x has to go for the violation that is left; none where that is no quantity
unfoldable pub length_of : ℤ → ℤ → Option ℤ
length_of tail x = quantity_of (quotient_of (tail *ℤ pos (2 ^ 40)) (pos (nat_abs x)))

-- the step with its direction: down where exactly one of these holds, that the violation is above a bound and that the cell is below 0
unfoldable pub step_of : List ℤ → Bool → ℕ → ℤ → Option ℤ
step_of line above e tail = option_map (λ q. turned_by above (turned_by (int_lt (entry line e) (pos 0)) q)) (length_of tail (entry line e))

-- how far it is from the bound where the variable v stands to its other one
unfoldable pub bound_span : WarmTable → Bool → ℕ → ℤ
bound_span t high v = stand_of t.bounds (not high) v -ℤ stand_of t.bounds high v

-- the span of the variable at place j
unfoldable pub span_at : WarmTable → ℕ → ℤ
span_at t j = bound_span t (get_or t.basis.high j false) (get_or t.basis.nonbasic j 0)

-- the place that enters and those that flip, each with how far its variable goes
abbrev pub steps_of : WarmTable → ℕ → ℤ → List ℕ → List (ℕ × ℤ)
steps_of t e q flips = (e, q) ∷ map (λ j. (j, span_at t j)) flips

-- the value of column k, which is x, after these steps: it changes where the column is basic and does not leave
unfoldable pub carried : List (Option ℕ) → List (List ℤ) → ℕ → List (ℕ × ℤ) → ℕ → ℤ → Option ℤ
carried places lines v steps k x = if is_none (get_or places k None) && not (k == v) then quantity_of (x +ℤ down_of (at_terms steps (entry (get_or lines k [])))) else Some x

-- the values x with that of the variable v, where it is a column, at its upper or at its lower bound
unfoldable pub put_at_bound : WarmTable → Bool → ℕ → List ℤ → List ℤ
put_at_bound t high v x = if nat_lt v (length x) then slice_set x v (stand_of t.bounds high v) else x

-- the values x with each column that flips at its other bound
abbrev pub passed : WarmTable → List ℕ → List ℤ → List ℤ
passed t [] x = x
passed t (j ∷ js) x = passed t js (put_at_bound t (not (get_or t.basis.high j false)) (get_or t.basis.nonbasic j 0) x)

-- the values x with that of the variable u, where it is a column, so far from its bound; none where that is no quantity
unfoldable pub reached_values : WarmTable → Bool → ℕ → ℤ → List ℤ → Option (List ℤ)
reached_values t high u q x = if nat_lt u (length x) then option_map (slice_set x u) (quantity_of (stand_of t.bounds high u +ℤ q)) else Some x

-- the values x of the basic columns after the steps, with those of the variables that flip, enter and leave
unfoldable pub arrived_values : WarmTable → ℕ → Bool → ℕ → ℤ → List ℕ → List ℤ → Option (List ℤ)
arrived_values t v above e q flips x = option_map (put_at_bound t above v) (reached_values t (get_or t.basis.high e false) (get_or t.basis.nonbasic e 0) q (passed t flips x))

-- the values where the variable at place e goes so far
unfoldable pub moved_along : WarmTable → ℕ → Bool → ℕ → List ℕ → ℤ → Option (List ℤ)
moved_along t v above e flips q = option_and_then (arrived_values t v above e q flips) (each_from (carried t.basis.places t.lines v (steps_of t e q flips)) 0 t.values)

-- the values after v, with the line given, leaves for the variable at place e, with `tail` of the violation left; none where a number is no
-- quantity
unfoldable pub moved_of : WarmTable → List ℤ → ℕ → Bool → ℕ → ℤ → List ℕ → Option (List ℤ)
moved_of t line v above e tail flips = option_and_then (moved_along t v above e flips) (step_of line above e tail)
