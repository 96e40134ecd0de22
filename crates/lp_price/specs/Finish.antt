-- The end of a run: reduced costs computed afresh from the duals of the rows, and whether they are to be trusted.
use Rattle.std.specs.Prelude.{ℕ, suc, ◌^◌, ◌-◌, ℤ, pos, ◌+ℤ◌, ◌-ℤ◌, ◌*ℤ◌, Bool, true, false, List, [], ◌∷◌, map, get_or, slice_set, length, Option, Some, None, int_lt, nat_lt, if◌then◌else◌}
use Rattle.std.specs.Option.{option_map}
use Rattle.base_num.specs.Sums.{Term, entry, floor_over}
use Rattle.lp_table.specs.declared.table.WarmTable.{WarmTable}
use Rattle.lp_table.specs.declared.table.Bounds.{Bounds}
use Rattle.lp_table.specs.Numbers.{down_of, cell_of}
use Rattle.base_num.specs.Each.{each_from}
use Rattle.lp_price.specs.Enter.{cell_magnitude}

-- whether a variable has the bound that a cost of this sign speaks of: the lower one of a positive cost
abbrev pub has_side : Bounds → ℕ → ℤ → Bool
has_side b v d = if int_lt (pos 0) d then get_or b.has_low v false else get_or b.has_up v false

-- the dual of the row whose slack v has the reduced cost d
unfoldable pub dual_of : WarmTable → ℕ → ℤ → ℤ
dual_of t v d = if has_side t.bounds v d then d else pos 0

abbrev pub is_column : WarmTable → ℕ → Bool
is_column t v = nat_lt v (length t.costs)

-- the terms of the row whose slack is v
abbrev pub terms_of_slack : WarmTable → ℕ → List Term
terms_of_slack t v = get_or t.rows (v - length t.costs) []

-- the rests of the columns' costs, less a term times the dual y
abbrev pub less_term : ℤ → List ℤ → Term → List ℤ
less_term y rests a = slice_set rests a.0 (entry rests a.0 -ℤ y *ℤ a.1)

abbrev pub less_terms : ℤ → List ℤ → List Term → List ℤ
less_terms y rests [] = rests
less_terms y rests (a ∷ ts) = less_terms y (less_term y rests a) ts

-- less the terms of the row whose slack v stands at place j; all of it where v is a column
unfoldable pub less_place : WarmTable → ℕ → List ℤ → ℕ → List ℤ
less_place t j rests v = if is_column t v then rests else less_terms (dual_of t v (entry t.reduced j)) rests (terms_of_slack t v)

abbrev pub less_places : WarmTable → ℕ → List ℤ → List ℕ → List ℤ
less_places t j rests [] = rests
less_places t j rests (v ∷ vs) = less_places t (suc j) (less_place t j rests v) vs

-- costs at scale 2^80
abbrev pub whole_costs : List ℤ → List ℤ
whole_costs costs = map (λ c. c *ℤ pos (2 ^ 40)) costs

-- the rest of each column's cost, less the terms of all rows times their duals, at scale 2^80
abbrev pub rests_of : WarmTable → List ℤ
rests_of t = less_places t 0 (whole_costs t.costs) t.basis.nonbasic

abbrev pub cell_at : ℕ → ℤ → Option ℤ
cell_at v tail = cell_of (down_of tail)

-- the reduced costs of all columns; none where one is no cell
abbrev pub reduced_costs_of : WarmTable → Option (List ℤ)
reduced_costs_of t = each_from cell_at 0 (rests_of t)

-- s + the sum of products
abbrev pub products_from : ℤ → List ℤ → List ℤ → ℤ
products_from s [] xs = s
products_from s (c ∷ cs) [] = s
products_from s (c ∷ cs) (x ∷ xs) = products_from (s +ℤ c *ℤ x) cs xs

-- the cost of the point
abbrev pub point_cost : WarmTable → ℤ
point_cost t = products_from (pos 0) t.costs t.values

-- the bound that a cost of this sign speaks of: the lower one of a positive cost
abbrev pub bound_by : Bounds → ℕ → ℤ → ℤ
bound_by b v y = if int_lt (pos 0) y then entry b.lows v else entry b.ups v

-- s + a cost times the bound that its sign speaks of
abbrev pub plus_bound : Bounds → ℤ → ℕ → ℤ → ℤ
plus_bound b s v y = s +ℤ y *ℤ bound_by b v y

-- s + the least cost of the columns from v on
abbrev pub columns_from : WarmTable → ℕ → ℤ → List ℤ → ℤ
columns_from t v s [] = s
columns_from t v s (q ∷ qs) = columns_from t (suc v) (plus_bound t.bounds s v q) qs

-- s + the least cost of the row whose slack v stands at place j
unfoldable pub plus_side : WarmTable → ℕ → ℤ → ℕ → ℤ
plus_side t j s v = if is_column t v then s else plus_bound t.bounds s v (dual_of t v (entry t.reduced j))

abbrev pub sides_from : WarmTable → ℕ → ℤ → List ℕ → ℤ
sides_from t j s [] = s
sides_from t j s (v ∷ vs) = sides_from t (suc j) (plus_side t j s v) vs

-- a lower bound on the cost of all points, by the duals
abbrev pub least_cost_by_duals : WarmTable → List ℤ → ℤ
least_cost_by_duals t qs = sides_from t 0 (columns_from t 0 (pos 0) qs) t.basis.nonbasic

-- whether the cost of the point exceeds the least one by more than a share of both and 2^-16
abbrev pub is_apart : ℕ → ℤ → ℤ → Bool
is_apart share p d = int_lt (floor_over (cell_magnitude p +ℤ cell_magnitude d) share +ℤ pos (2 ^ 56)) (p -ℤ d)

-- whether the cost of the point exceeds the least one by more than 2^-26 of both and 2^-16
abbrev pub is_weak : WarmTable → List ℤ → Bool
is_weak t qs = is_apart (2 ^ 26) (point_cost t) (least_cost_by_duals t qs)

-- whether the cost of the point exceeds the least one by more than 2^-18 of both and 2^-16
abbrev pub is_far_by : WarmTable → Option (List ℤ) → Bool
is_far_by t None = true
is_far_by t (Some qs) = is_apart (2 ^ 18) (point_cost t) (least_cost_by_duals t qs)

-- whether the cost of the point is far from the least one, by the duals of the rows
unfoldable pub is_far : WarmTable → Bool
is_far t = is_far_by t (reduced_costs_of t)

-- the reduced cost of the variable v
unfoldable pub new_cost : WarmTable → List ℤ → ℕ → ℤ → ℤ
new_cost t qs v d = if is_column t v then entry qs v else dual_of t v d

-- the reduced costs from place j on
abbrev pub new_costs : WarmTable → List ℤ → ℕ → List ℕ → List ℤ
new_costs t qs j [] = []
new_costs t qs j (v ∷ vs) = new_cost t qs v (entry t.reduced j) ∷ new_costs t qs (suc j) vs

abbrev pub finished : WarmTable → List ℤ → WarmTable
finished t qs = record t { reduced = new_costs t qs 0 t.basis.nonbasic; weak = is_weak t qs }

-- none where a reduced cost is no cell
unfoldable pub finish_of : WarmTable → Option WarmTable
finish_of t = option_map (finished t) (reduced_costs_of t)
