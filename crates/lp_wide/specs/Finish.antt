-- The end of a run: duals only of sides that exist, and the test that the reduced costs that follow from them are cells.
use Rattle.std.specs.Prelude.{ℕ, suc, ◌^◌, ◌-◌, ℤ, pos, ◌-ℤ◌, ◌*ℤ◌, Bool, false, List, [], ◌∷◌, map, get_or, slice_set, length, Option, Some, int_lt, nat_lt, if◌then◌else◌}
use Rattle.std.specs.Option.{option_map, option_and_then}
use Rattle.base_num.specs.Sums.{Term, entry}
use Rattle.base_num.specs.Each.{each_from}
use Rattle.lp_wide_table.specs.WideWhole.{held_wide}
use Rattle.lp_wide_table.specs.Numbers.{wide_down_of, wide_cell_of}
use Rattle.lp_wide_table.specs.declared.table.WideBounds.{WideBounds}
use Rattle.lp_wide_table.specs.declared.table.WideTable.{WideTable}

-- whether a variable has the bound that a cost of this sign speaks of: the lower one of a positive cost
abbrev pub wide_has_side : WideBounds → ℕ → ℤ → Bool
wide_has_side b v d = if int_lt (pos 0) d then get_or b.has_low v false else get_or b.has_up v false

-- the dual of the row whose slack v has the reduced cost d
unfoldable pub wide_dual_of : WideTable → ℕ → ℤ → ℤ
wide_dual_of t v d = if wide_has_side t.bounds v d then d else pos 0

abbrev pub is_wide_column : WideTable → ℕ → Bool
is_wide_column t v = nat_lt v (length t.costs)

-- the terms of the row whose slack is v
abbrev pub wide_terms_of_slack : WideTable → ℕ → List Term
wide_terms_of_slack t v = get_or t.rows (v - length t.costs) []

-- the rests of the columns' costs, less a term times the dual y; none where 256 bits do not hold one
unfoldable pub wide_less_term : ℤ → List ℤ → Term → Option (List ℤ)
wide_less_term y rests a = option_map (slice_set rests a.0) (held_wide 255 (entry rests a.0 -ℤ y *ℤ a.1))

abbrev pub wide_less_terms : ℤ → List ℤ → List Term → Option (List ℤ)
wide_less_terms y rests [] = Some rests
wide_less_terms y rests (a ∷ ts) = option_and_then (λ next. wide_less_terms y next ts) (wide_less_term y rests a)

-- less the terms of the row whose slack v stands at place j; all of it where v is a column
unfoldable pub wide_less_place : WideTable → ℕ → List ℤ → ℕ → Option (List ℤ)
wide_less_place t j rests v = if is_wide_column t v then Some rests else wide_less_terms (wide_dual_of t v (entry t.reduced j)) rests (wide_terms_of_slack t v)

abbrev pub wide_less_places : WideTable → ℕ → List ℤ → List ℕ → Option (List ℤ)
wide_less_places t j rests [] = Some rests
wide_less_places t j rests (v ∷ vs) = option_and_then (λ next. wide_less_places t (suc j) next vs) (wide_less_place t j rests v)

-- costs at scale 2^160
abbrev pub wide_whole_costs : List ℤ → List ℤ
wide_whole_costs costs = map (λ c. c *ℤ pos (2 ^ 80)) costs

-- the rest of each column's cost, less the terms of all rows times their duals, at scale 2^160
abbrev pub wide_rests_of : WideTable → Option (List ℤ)
wide_rests_of t = wide_less_places t 0 (wide_whole_costs t.costs) t.basis.nonbasic

abbrev pub wide_cell_at : ℕ → ℤ → Option ℤ
wide_cell_at v tail = option_and_then wide_cell_of (wide_down_of tail)

-- the reduced costs of all columns; none where one is no cell
unfoldable pub wide_reduced_costs_of : WideTable → Option (List ℤ)
wide_reduced_costs_of t = option_and_then (each_from wide_cell_at 0) (wide_rests_of t)
