-- The subproblem of a stage's text is read as that of the problem that the plants mean.
use Rattle.std.proofs.Common.{◌≡◌, ℕ, zero, suc, ◌<◌, ◌≤◌, ℤ, pos, List, [], ◌∷◌, ◌++◌, length, map, filter, slice_get, codes, Bool, true, false, Option, Some, None, Ok, unwrap_or, refl, sym, ap, ap₂, subst, ◌∙◌, arith, append-nil}
use Rattle.std.specs.List.{AllByRecursion, flat_map}
use Rattle.std.proofs.lemmas.Bool.{le-leb}
use Rattle.std.proofs.lemmas.List.{length-append, length-map, map-append}
use Rattle.std.proofs.lemmas.List.FromFn.{length-range_with_len}
use Rattle.serde_json.specs.Data.{Data, string}
use Rattle.serde_json.specs.View.{items_of}
use Rattle.base_graph.specs.Paths.{numbers}
use Rattle.problem.specs.declared.parts.Decision.{Decision}
use Rattle.problem.specs.declared.parts.Row.{Row}
use Rattle.problem.specs.declared.parts.Subproblem.{Subproblem}
use Rattle.problem.specs.declared.refusal.Part.TheVariants as part_kinds
use Rattle.problem.specs.declared.refusal.Place.{Place}
use Rattle.read_json.specs.Fields as fields
use Rattle.read_json.specs.Limits as limits
use Rattle.read_stage.specs.Boxes as boxes
use Rattle.read_stage.specs.Constraint as constraint
use Rattle.read_stage.specs.Objective as objective
use Rattle.read_stage.specs.Randoms as randoms
use Rattle.read_stage.specs.Roles as roles
use Rattle.read_stage.specs.Rows as rows
use Rattle.read_stage.specs.Sides as sides
use Rattle.read_stage.specs.StageParts.{StageParts, stage_parts_at, array_under, object_under}
use Rattle.read_stage.specs.Subproblem.{variables_at, decision_number_of, outs_of, few_rows_at, subproblem_from_parts, filled_at, read_subproblem_at}
use Rattle.hydro_form.specs.Stage as forms
use Rattle.hydro_read.specs.declared.plants.Plants.{Plants}
use Rattle.hydro_read.specs.Described.{IsPlants}
use Rattle.hydro_make.specs.Layout.{HydroStore, volume_of, way_of, Variable, after, turbine_of, spill_of, thermal_of, line_of, deficit_of, Chance, travel, all_reservoirs, all_buses, steps, stores, hydro_variables, chances, store_low, store_high, store_initial, store_place, variable_least, variable_greatest, cost_of}
use Rattle.hydro_make.specs.Rows as made
use Rattle.hydro_make.specs.Columns.{Column, before, random, decided, columns, chance_name, variable_name, column_name}
use Rattle.hydro_make.specs.Columns as text_names
use Rattle.hydro_make.specs.Stage as text
use Rattle.hydro_make.specs.Stage.{Sum, water_sum, way_sum, bus_sum, hydro_cost_sum}
use Rattle.hydro_make.proofs.Places.{map_map}
use Rattle.hydro_accept.proofs.Named.{Distinct, Stands, place, found_at, some_is, map_alike}
use Rattle.hydro_accept.proofs.Pairs.{Somewhere, all_append, all_weaker, all_flat_map, all_map, all_numbers, all_of}
use Rattle.hydro_accept.proofs.Functions.{factor, term_of, sum_read}
use Rattle.hydro_accept.proofs.Uses as uses
use Rattle.hydro_accept.proofs.Uses.{given, given_in, names_read, states_read, randoms_walk, picked_are, number_at}
use Rattle.hydro_accept.proofs.Constraints.{Sides, Constraints, between, zero_row, AllStand, IsSum, IsBounded, IsBox, constraints_read, boxes_read, ordered_read}
use Rattle.hydro_accept.proofs.Listing.{all_steps, OfStores, OfChances, OfVariables, OfColumns, each_store, each_chance, each_variable, each_column, somewhere}
use Rattle.hydro_accept.proofs.Rising.{distinct_used, distinct_random}
use Rattle.hydro_accept.proofs.Choices.{flat_ext, map_flat, is_choice, choices, placed, flat_length, travels_are}
use Rattle.hydro_accept.proofs.Stands.{standing, boxes as box_of, low_of, high_of, IsFew, terms_of, small_of, water_few, way_few, bus_few, cost_few}
use Rattle.hydro_accept.proofs.Sums.{water}
use Rattle.hydro_accept.proofs.Energy.{under_way, energy, costs}
use Rattle.hydro_accept.proofs.Used.{filter_at, all_passing, pair_filter, all_got, terms_same, role_of, respects, distinct, form_vars, roles_are, decisions_read, fits, random_fits, items_count, chances_count, states_are, short_names, decs, random_free, final, first, ps}

incoming_known : roles.is_random (Some uses.incoming) ≡ false
unfolding uses.incoming
incoming_known = refl

outgoing_known : roles.is_random (Some uses.outgoing) ≡ false
unfolding uses.outgoing
outgoing_known = refl

module _ (h : Plants) (i : IsPlants h) where
  abbrev xs : List Column
  xs = columns h

  -- ---- variables

  abbrev parts_of : StageParts
  parts_of = record {
    states = text.states h;
    randoms = items_of (text.random_variables h);
    variables = items_of (map (text.column_variable h) (columns h));
    objective = text.objective h;
    constraints = items_of (text.constraints h);
  }

  parts_read : (p : Place) → stage_parts_at p (text.subproblem h) ≡ Ok parts_of
  unfolding stage_parts_at array_under object_under fields.present_at fields.object_at fields.array_at limits.members_at limits.items_at text.subproblem text.program text.objective forms.subproblem_form forms.program_form forms.least_sum
  parts_read p = refl

  randoms_read : (p : ℕ) (is os : List ℕ) → randoms.randoms_at (map (column_name h) xs) p (uses.uses (map (first h i) xs) is os [] []) (items_of (text.random_variables h))
      ≡ Ok (uses.uses (map (final h i) xs) is os (map (λ c. place (column_name h) xs (random c)) (chances h)) (map (chance_name h) (chances h)))
  unfolding randoms.randoms_at randoms.each_random_at text.random_variables column_name
  randoms_read p is os =
      let few = chances_count h i in
      rw (items_count h i (map (λ c. string (chance_name h c)) (chances h)), length-map (chances h) (λ c. string (chance_name h c)), le-leb (length (chances h)) 50 few)
      (randoms_walk (column_name h) p role_of xs random (distinct h i) (chances h) (random_fits h i) (first h i) (all_of (λ c. uses.IsFree (first h i (random c))) (λ c. subst uses.IsFree (sym (random_free h i c)) refl) (chances h)) (distinct_random h i) is os [] [] 0)

  variables_read : (p : ℕ) → variables_at (states_are h i) p parts_of ≡ Ok (form_vars h i)
  unfolding variables_at text.states column_name variable_name
  variables_read p =
      rw (
        names_read (column_name h) p xs (distinct h i) (short_names h i),
        states_read (column_name h) p role_of xs (text_names.state_name h) before (λ s. decided (after s)) (store_initial h) (distinct h i) (stores h) (fits h i) (distinct_used h i),
        randoms_read p (map (λ s. place (column_name h) xs (before s)) (stores h)) (map (λ s. place (column_name h) xs (decided (after s))) (stores h)),
        roles_are h i,
        decisions_read h i p,
        map_map (place (column_name h) xs) before (stores h),
        map_map (place (column_name h) xs) (λ s. decided (after s)) (stores h),
        map_map (place (column_name h) xs) random (chances h),
      ) refl

  -- ---- costs

  costs_read : (p : ℕ) → objective.objective_at (map (column_name h) xs) p (text.objective h) ≡ Ok (record { single = None; coefficients = map (factor (column_name h) (hydro_cost_sum h)) xs; constant = pos 0 })
  unfolding objective.objective_at objective.costs_at fields.present_at fields.string_at text.objective forms.least_sum
  costs_read p = rw (sum_read, distinct h i, terms_of h i (hydro_cost_sum h) (cost_few h i), small_of h i (hydro_cost_sum h) (cost_few h i)) refl

  -- ---- rows and bounds

  abbrev pub sums : List Sum
  sums = map (water_sum h) (all_reservoirs h) ++ flat_map (λ j. map (way_sum h j) (steps (travel h j))) (all_reservoirs h) ++ map (bus_sum h) (all_buses h)

  abbrev pub row_of : Sum → Data
  row_of ts = forms.row 0 (map (term_of (column_name h)) ts)

  pub rows_are : text.rows h ≡ map row_of sums
  unfolding text.rows text.way_constraints text.zero_row
  rows_are =
      let a : List Sum = map (water_sum h) (all_reservoirs h) in
      let b : List Sum = flat_map (λ j. map (way_sum h j) (steps (travel h j))) (all_reservoirs h) in
      let c : List Sum = map (bus_sum h) (all_buses h) in
      sym (map-append row_of (a ++ b) c ∙ ap₂ ◌++◌ (map-append row_of a b
      ∙ ap₂ ◌++◌ (map_map row_of (water_sum h) (all_reservoirs h))
      (map_flat row_of (λ j. map (way_sum h j) (steps (travel h j))) (all_reservoirs h) ∙ flat_ext (λ j. map row_of (map (way_sum h j) (steps (travel h j)))) (λ j. map (λ k. row_of (way_sum h j k)) (steps (travel h j))) (all_reservoirs h) (λ j. map_map row_of (way_sum h j) (steps (travel h j)))))
      (map_map row_of (bus_sum h) (all_buses h)))

  abbrev pub is_bounded : Column → Bool
  is_bounded (before s) = true
  is_bounded (random c) = false
  is_bounded (decided v) = true

  abbrev pub bound_of : Column → Data
  bound_of c = forms.variable_bound (column_name h c) (low_of h i c) (high_of h i c)

  pub bounds_are : (cs : List Column) → flat_map (text.bounds_of h) cs ≡ map bound_of (filter is_bounded cs)
  unfolding text.bounds_of column_name
  bounds_are [] = refl
  bounds_are (before s ∷ cs) = ap (λ (ds : List Data). bound_of (before s) ∷ ds) (bounds_are cs)
  bounds_are (random c ∷ cs) = bounds_are cs
  bounds_are (decided v ∷ cs) = ap (λ (ds : List Data). bound_of (decided v) ∷ ds) (bounds_are cs)

  pub all_stand : AllStand (column_name h) role_of xs (map before (stores h)) (ps h i) (decs h i) (map (λ s. decided (after s)) (stores h)) (map (chance_name h) (chances h)) (distinct h i)
  all_stand = record {
    coming = all_map (Stands (column_name h) xs) before (stores h) (each_store h (λ s. Stands (column_name h) xs (before s)) (standing h i).stores);
    unknown = all_map (Stands (column_name h) xs) random (chances h) (each_chance h (λ c. Stands (column_name h) xs (random c)) (standing h i).chances);
    chosen = all_map (Stands (column_name h) xs) decided (hydro_variables h) (each_variable h (λ v. Stands (column_name h) xs (decided v)) (standing h i).variables);
  }

  abbrev pub IsRead : Sum → Type 0
  IsRead ts = IsSum (column_name h) role_of xs (map before (stores h)) (ps h i) (decs h i) (map (λ s. decided (after s)) (stores h)) (map (chance_name h) (chances h)) (distinct h i) all_stand ts

  is_read : (ts : Sum) → IsFew h i ts → IsRead ts
  is_read ts f = record { terms = terms_of h i ts f; small = small_of h i ts f }

  pub all_read : AllByRecursion IsRead sums
  all_read =
      all_append IsRead (map (water_sum h) (all_reservoirs h) ++ flat_map (λ j. map (way_sum h j) (steps (travel h j))) (all_reservoirs h)) (map (bus_sum h) (all_buses h))
      (all_append IsRead (map (water_sum h) (all_reservoirs h)) (flat_map (λ j. map (way_sum h j) (steps (travel h j))) (all_reservoirs h))
      (all_map IsRead (water_sum h) (all_reservoirs h) (all_numbers (λ j. IsRead (water_sum h j)) (length h.reservoirs) (λ j p. is_read (water_sum h j) (water_few h i j p))))
      (all_flat_map IsRead (λ j. map (way_sum h j) (steps (travel h j))) (all_reservoirs h) (all_numbers (λ j. AllByRecursion IsRead (map (way_sum h j) (steps (travel h j)))) (length h.reservoirs)
      (λ j p. all_map IsRead (way_sum h j) (steps (travel h j)) (all_steps (λ k. IsRead (way_sum h j k)) (travel h j) (λ k low high. is_read (way_sum h j k) (way_few h i j k p low high)))))))
      (all_map IsRead (bus_sum h) (all_buses h) (all_numbers (λ b. IsRead (bus_sum h b)) (length h.buses) (λ b p. is_read (bus_sum h b) (bus_few h i b p))))

  abbrev Bounds : Column → Type 0
  Bounds y = IsBounded (column_name h) role_of xs (map before (stores h)) (ps h i) (decs h i) (map (λ s. decided (after s)) (stores h)) (map (chance_name h) (chances h)) (distinct h i) all_stand (low_of h i) (high_of h i) y

  all_bounds : OfColumns h (λ y. is_bounded y ≡ true → Bounds y)
  all_bounds =
      let s = standing h i in
      let b = box_of h i in
      record {
        stores = record { volume = λ j p e. record { stands = s.stores.volume j p; known = incoming_known; box = b.stores.volume j p }; way = λ j k p low high e. record { stands = s.stores.way j k p low high; known = incoming_known; box = b.stores.way j k p low high } };
        chances = record { inflow = λ j p e. absurd cc; demand = λ n p e. absurd cc };
        variables = record {
          volume = λ j p e. record { stands = s.variables.volume j p; known = outgoing_known; box = b.variables.volume j p };
          way = λ j k p low high e. record { stands = s.variables.way j k p low high; known = outgoing_known; box = b.variables.way j k p low high };
          turbine = λ j p e. record { stands = s.variables.turbine j p; known = refl; box = b.variables.turbine j p };
          spill = λ j p e. record { stands = s.variables.spill j p; known = refl; box = b.variables.spill j p };
          thermal = λ n p e. record { stands = s.variables.thermal n p; known = refl; box = b.variables.thermal n p };
          line = λ l p e. record { stands = s.variables.line l p; known = refl; box = b.variables.line l p };
          deficit = λ n p e. record { stands = s.variables.deficit n p; known = refl; box = b.variables.deficit n p };
        };
      }

  abbrev bounded : List Column
  bounded = filter is_bounded xs

  -- the bounds that were read
  abbrev sides_of : Column → Sides
  sides_of = given (column_name h) (λ y. between (low_of h i y) (high_of h i y)) (λ y. sides.no_sides) bounded

  abbrev row_form : Sum → Row
  row_form ts = zero_row (column_name h) role_of xs (map before (stores h)) (ps h i) (decs h i) (map (λ s. decided (after s)) (stores h)) (map (chance_name h) (chances h)) (distinct h i) (factor (column_name h) ts)

  abbrev found : Constraints
  found = record { bounds = map sides_of xs; rows = map row_form sums }

  constraints_are : (p : ℕ) → constraint.constraints_at (form_vars h i) p (items_of (text.constraints h)) ≡ Ok found
  unfolding text.constraints
  constraints_are p =
      ap (λ (ds : List Data). constraint.constraints_at (form_vars h i) p (items_of ds)) (ap₂ ◌++◌ rows_are (bounds_are xs))
      ∙ constraints_read (column_name h) role_of xs (map before (stores h)) (ps h i) (decs h i) (map (λ s. decided (after s)) (stores h)) (map (chance_name h) (chances h)) (distinct h i) all_stand p sums (low_of h i) (high_of h i) bounded all_read
      (all_passing Bounds is_bounded xs (each_column h (λ y. is_bounded y ≡ true → Bounds y) all_bounds)) (pair_filter _ is_bounded xs (distinct h i))

  few_rows : length (map row_form sums) ≤ 200
  few_rows =
      let a : List Sum = map (water_sum h) (all_reservoirs h) in
      let b : List Sum = flat_map (λ j. map (way_sum h j) (steps (travel h j))) (all_reservoirs h) in
      let c : List Sum = map (bus_sum h) (all_buses h) in
      let n1 = length-map sums row_form in
      let n2 = length-append (a ++ b) c in
      let n3 = length-append a b in
      let n4 = length-map (all_reservoirs h) (water_sum h) in
      let n5 = length-map (all_buses h) (bus_sum h) in
      let n6 = length-range_with_len 0 (length h.reservoirs) in
      let n7 = length-range_with_len 0 (length h.buses) in
      let n8 = flat_length (λ j. map (way_sum h j) (steps (travel h j))) (travel h) (all_reservoirs h) (λ j. length-map (steps (travel h j)) (way_sum h j) ∙ length-map (numbers (travel h j)) suc ∙ length-range_with_len 0 (travel h j)) in
      let t = travels_are h in
      let s = i.few_states in
      let u = i.few_buses in
      omega (arith, n1, n2, n3, n4, n5, n6, n7, n8, t, s, u)

  -- ---- boxes

  abbrev pub choice_of : Variable → Decision
  choice_of v = record { name = variable_name h v; low = variable_least h v; high = variable_greatest h v; cost = cost_of h v }

  abbrev box : Column → List Decision
  box (before s) = []
  box (random c) = []
  box (decided v) = record { name = column_name h (decided v); low = variable_least h v; high = variable_greatest h v; cost = factor (column_name h) (hydro_cost_sum h) (decided v) } ∷ []

  -- where the bounds of a variable are between its sides
  bounded_at : (y : Column) (k : ℕ) → slice_get xs k ≡ Some y → is_bounded y ≡ true → sides_of y ≡ between (low_of h i y) (high_of h i y)
  bounded_at y k at e =
      let there = filter_at is_bounded xs k y at e in
      let all = all_weaker Bounds (Stands (column_name h) xs) (λ z b. b.stands) bounded (all_passing Bounds is_bounded xs (each_column h (λ z. is_bounded z ≡ true → Bounds z) all_bounds)) in
      let mine = all_got Bounds bounded there.0 y (all_passing Bounds is_bounded xs (each_column h (λ z. is_bounded z ≡ true → Bounds z) all_bounds)) there.1 in
      given_in (column_name h) (λ z. between (low_of h i z) (high_of h i z)) (λ z. sides.no_sides) bounded there.0 y there.1 (respects h i (λ z. between (low_of h i z) (high_of h i z)) y bounded mine.stands all)

  box_known : (y : Column) (k : ℕ) → slice_get xs k ≡ Some y → IsBox (low_of h i y) (high_of h i y)
  box_known y k at = all_got (λ c. IsBox (low_of h i c) (high_of h i c)) xs k y (each_column h (λ c. IsBox (low_of h i c) (high_of h i c)) (box_of h i)) at

  decision_read : (at : Place) (found : List Decision) (n : List ℕ) (low high cost : ℤ) → IsBox low high → boxes.decision_at at found n (between low high) cost ≡ Ok (found ++ record { name = n; low = low; high = high; cost = cost } ∷ [])
  unfolding boxes.decision_at boxes.bound_at
  decision_read at found n low high cost b = rw (ordered_read at low high b.order) refl

  incoming_read : (at : Place) (found : List Decision) (low high : ℤ) → IsBox low high → boxes.incoming_at at found (between low high) ≡ Ok found
  unfolding boxes.incoming_at
  incoming_read at found low high b = rw (ordered_read at low high b.order) refl

  box_read : (found : List Decision) (at : Place) (y : Column) (k : ℕ) → slice_get xs k ≡ Some y → boxes.box_at at found (Some (role_of y)) (column_name h y) (sides_of y) (factor (column_name h) (hydro_cost_sum h) y) ≡ Ok (found ++ box y)
  unfolding boxes.box_at uses.incoming uses.outgoing uses.random
  box_read found at (before s) k there = rw (bounded_at (before s) k there refl) (incoming_read at found (store_low h s) (store_high h s) (box_known (before s) k there) ∙ ap Ok (sym (append-nil found)))
  box_read found at (random c) k there = ap Ok (sym (append-nil found))
  box_read found at (decided (after s)) k there = rw (bounded_at (decided (after s)) k there refl) (decision_read at found (column_name h (decided (after s))) (store_low h s) (store_high h s) (factor (column_name h) (hydro_cost_sum h) (decided (after s))) (box_known (decided (after s)) k there))
  box_read found at (decided (turbine_of j)) k there = rw (bounded_at (decided (turbine_of j)) k there refl) (decision_read at found (column_name h (decided (turbine_of j))) (pos 0) (variable_greatest h (turbine_of j)) (factor (column_name h) (hydro_cost_sum h) (decided (turbine_of j))) (box_known (decided (turbine_of j)) k there))
  box_read found at (decided (spill_of j)) k there = rw (bounded_at (decided (spill_of j)) k there refl) (decision_read at found (column_name h (decided (spill_of j))) (pos 0) (variable_greatest h (spill_of j)) (factor (column_name h) (hydro_cost_sum h) (decided (spill_of j))) (box_known (decided (spill_of j)) k there))
  box_read found at (decided (thermal_of n)) k there = rw (bounded_at (decided (thermal_of n)) k there refl) (decision_read at found (column_name h (decided (thermal_of n))) (pos 0) (variable_greatest h (thermal_of n)) (factor (column_name h) (hydro_cost_sum h) (decided (thermal_of n))) (box_known (decided (thermal_of n)) k there))
  box_read found at (decided (line_of l)) k there = rw (bounded_at (decided (line_of l)) k there refl) (decision_read at found (column_name h (decided (line_of l))) (pos 0) (variable_greatest h (line_of l)) (factor (column_name h) (hydro_cost_sum h) (decided (line_of l))) (box_known (decided (line_of l)) k there))
  box_read found at (decided (deficit_of b)) k there = rw (bounded_at (decided (deficit_of b)) k there refl) (decision_read at found (column_name h (decided (deficit_of b))) (pos 0) (variable_greatest h (deficit_of b)) (factor (column_name h) (hydro_cost_sum h) (decided (deficit_of b))) (box_known (decided (deficit_of b)) k there))

  boxes_are : (p : ℕ) → boxes.boxes_at (form_vars h i) p (map sides_of xs) (map (factor (column_name h) (hydro_cost_sum h)) xs) ≡ Ok (flat_map box xs)
  boxes_are p =
      boxes_read (column_name h) role_of xs (map before (stores h)) (ps h i) (decs h i) (map (λ s. decided (after s)) (stores h)) (map (chance_name h) (chances h)) (distinct h i) all_stand p sides_of (factor (column_name h) (hydro_cost_sum h)) box box_read

  boxes_kept : (cs : List Column) → flat_map box cs ≡ flat_map box (filter is_choice cs)
  boxes_kept [] = refl
  boxes_kept (before s ∷ cs) = boxes_kept cs
  boxes_kept (random c ∷ cs) = boxes_kept cs
  boxes_kept (decided v ∷ cs) = ap (λ (ds : List Decision). box (decided v) ++ ds) (boxes_kept cs)

  boxes_chosen : (vs : List Variable) → AllByRecursion (λ v. factor (column_name h) (hydro_cost_sum h) (decided v) ≡ cost_of h v) vs → flat_map box (map decided vs) ≡ map choice_of vs
  unfolding column_name
  boxes_chosen [] a = refl
  boxes_chosen (v ∷ vs) a = ap₂ (λ (c : ℤ) (ds : List Decision). record { name = variable_name h v; low = variable_least h v; high = variable_greatest h v; cost = c } ∷ ds) a.0 (boxes_chosen vs a.1)

  choices_are : flat_map box xs ≡ map choice_of (hydro_variables h)
  choices_are =
      boxes_kept xs ∙ ap (flat_map box) (choices h)
      ∙ boxes_chosen (hydro_variables h) (each_variable h (λ v. factor (column_name h) (hydro_cost_sum h) (decided v) ≡ cost_of h v) (costs h i).variables)

  -- ---- the whole

  -- the subproblem that is read
  abbrev pub form : Subproblem
  form = record {
    decisions = map choice_of (hydro_variables h);
    outs = map (store_place h) (stores h);
    randoms = map (chance_name h) (chances h);
    rows = made.all_rows h;
    constant = pos 0;
    state_costs = map made.no_store (stores h);
    random_costs = map made.no_chance (chances h);
    low = map (λ s. Some (store_low h s)) (stores h);
    high = map (λ s. Some (store_high h s)) (stores h);
  }

  row_made : (ts : Sum) (a : Variable → ℤ) (b : HydroStore → ℤ) (g : Chance → ℤ) → AllByRecursion (λ v. factor (column_name h) ts (decided v) ≡ a v) (hydro_variables h) → AllByRecursion (λ s. factor (column_name h) ts (before s) ≡ b s) (stores h)
      → AllByRecursion (λ c. factor (column_name h) ts (random c) ≡ g c) (chances h) → row_form ts ≡ made.row_with h a b g
  row_made ts a b g e1 e2 e3 =
      let f = factor (column_name h) ts in
      let one = map_map f decided (hydro_variables h) ∙ map_alike (λ v. f (decided v)) a (hydro_variables h) e1 in
      let two = map_map f before (stores h) ∙ map_alike (λ s. f (before s)) b (stores h) e2 in
      let three = map_map f random (chances h) ∙ map_alike (λ c. f (random c)) g (chances h) e3 in
      ap₂ (λ (x : List (ℕ × ℤ)) (y : List (ℕ × ℤ) × List (ℕ × ℤ)). record { low = Some (pos 0); high = Some (pos 0); decisions = x; states = y.0; randoms = y.1 })
      (ap (rows.terms_from 0) one ∙ terms_same 0 (map a (hydro_variables h)))
      (ap₂ (λ (y z : List (ℕ × ℤ)). (y, z)) (ap (rows.terms_from 0) two ∙ terms_same 0 (map b (stores h))) (ap (rows.terms_from 0) three ∙ terms_same 0 (map g (chances h))))

  row_of_columns : (ts : Sum) (a : Variable → ℤ) (b : HydroStore → ℤ) (g : Chance → ℤ) → OfVariables h (λ v. factor (column_name h) ts (decided v) ≡ a v) → OfStores h (λ s. factor (column_name h) ts (before s) ≡ b s)
      → OfChances h (λ c. factor (column_name h) ts (random c) ≡ g c) → row_form ts ≡ made.row_with h a b g
  row_of_columns ts a b g e1 e2 e3 = row_made ts a b g (each_variable h _ e1) (each_store h _ e2) (each_chance h _ e3)

  alike_numbers : {A : Type 0} (f g : ℕ → A) (n : ℕ) → ((j : ℕ) → j < n → f j ≡ g j) → map f (numbers n) ≡ map g (numbers n)
  alike_numbers f g n e = map_alike f g (numbers n) (all_numbers (λ j. f j ≡ g j) n e)

  flat_numbers : {A : Type 0} (f g : ℕ → List A) (ns : List ℕ) → AllByRecursion (λ j. f j ≡ g j) ns → flat_map f ns ≡ flat_map g ns
  flat_numbers f g [] a = refl
  flat_numbers f g (n ∷ ns) a = ap₂ ◌++◌ a.0 (flat_numbers f g ns a.1)

  rows_made : map row_form sums ≡ made.all_rows h
  rows_made =
      let a : List Sum = map (water_sum h) (all_reservoirs h) in
      let b : List Sum = flat_map (λ j. map (way_sum h j) (steps (travel h j))) (all_reservoirs h) in
      let c : List Sum = map (bus_sum h) (all_buses h) in
      map-append row_form (a ++ b) c
      ∙ ap₂ ◌++◌ (map-append row_form a b
      ∙ ap₂ ◌++◌ (map_map row_form (water_sum h) (all_reservoirs h) ∙ alike_numbers (λ j. row_form (water_sum h j)) (made.water_row h) (length h.reservoirs)
      (λ j p. let w = water h i j p in row_of_columns (water_sum h j) (made.water_decided h j) (made.water_before h j) (made.water_flowing j) w.variables w.stores w.chances))
      (map_flat row_form (λ j. map (way_sum h j) (steps (travel h j))) (all_reservoirs h)
      ∙ flat_numbers (λ j. map row_form (map (way_sum h j) (steps (travel h j)))) (made.way_rows h) (all_reservoirs h) (all_numbers _ (length h.reservoirs) (λ j p.
      map_map row_form (way_sum h j) (steps (travel h j)) ∙ map_alike (λ k. row_form (way_sum h j k)) (made.way_row h j) (steps (travel h j)) (all_steps _ (travel h j)
      (λ k low high. let w = under_way h i j k p low high in row_of_columns (way_sum h j k) (made.way_decided h j k) (made.way_before j k) made.no_chance w.variables w.stores w.chances))))))
      (map_map row_form (bus_sum h) (all_buses h) ∙ alike_numbers (λ b. row_form (bus_sum h b)) (made.bus_row h) (length h.buses)
      (λ b p. let w = energy h i b p in row_of_columns (bus_sum h b) (made.bus_decided h b) made.no_store (made.bus_asked b) w.variables w.stores w.chances))

  pub rows_few : length (made.all_rows h) ≤ 200
  rows_few = subst (λ (rs : List Row). length rs ≤ 200) rows_made few_rows

  -- ---- where states come from and go to

  abbrev chosen : Variable → Column → Variable
  chosen w (before s) = w
  chosen w (random c) = w
  chosen w (decided v) = v

  unmapped : (vs : List Variable) (k : ℕ) (v : Variable) → slice_get (map decided vs) k ≡ Some (decided v) → slice_get vs k ≡ Some v
  unmapped [] k v at = absurd cc
  unmapped (w ∷ vs) zero v at = ap (λ (c : Column). Some (chosen w c)) (some_is (decided w) (decided v) at)
  unmapped (w ∷ vs) (suc k) v at = unmapped vs k v at

  distinct_choices : Distinct (column_name h) (decs h i)
  distinct_choices = subst (Distinct (column_name h)) (choices h) (pair_filter _ is_choice xs (distinct h i))

  after_number : (z : HydroStore) → (k : ℕ) × (slice_get xs k ≡ Some (decided (after z))) → Stands (column_name h) xs (decided (after z)) → decision_number_of (map (place (column_name h) xs) (decs h i)) (place (column_name h) xs (decided (after z))) ≡ store_place h z
  after_number z s stands =
      let there : Somewhere (decs h i) (decided (after z)) = subst (λ (cs : List Column). Somewhere cs (decided (after z))) (choices h) (filter_at is_choice xs s.0 (decided (after z)) s.1 refl) in
      number_at (column_name h) xs (decs h i) there.0 (decided (after z)) all_stand.chosen distinct_choices stands there.1 ∙ sym (placed h (after z) there.0 (unmapped (hydro_variables h) there.0 (after z) there.1))

  after_at : (z : HydroStore) → (k : ℕ) × (slice_get xs k ≡ Some (decided (after z))) → slice_get (hydro_variables h) (store_place h z) ≡ Some (after z)
  after_at z s =
      let there : Somewhere (decs h i) (decided (after z)) = subst (λ (cs : List Column). Somewhere cs (decided (after z))) (choices h) (filter_at is_choice xs s.0 (decided (after z)) s.1 refl) in
      let back = unmapped (hydro_variables h) there.0 (after z) there.1 in
      subst (λ (k : ℕ). slice_get (hydro_variables h) k ≡ Some (after z)) (sym (placed h (after z) there.0 back)) back

  -- each state after the stage stands at its place
  pub after_there : OfStores h (λ z. slice_get (hydro_variables h) (store_place h z) ≡ Some (after z))
  after_there =
      let w = somewhere h in
      record { volume = λ j p. after_at (volume_of j) (w.variables.volume j p); way = λ j k p low high. after_at (way_of j k) (w.variables.way j k p low high) }

  outs_are : outs_of (map (place (column_name h) xs) (decs h i)) (map (place (column_name h) xs) (map (λ s. decided (after s)) (stores h))) ≡ map (store_place h) (stores h)
  unfolding outs_of
  outs_are =
      let w = somewhere h in
      let s = standing h i in
      let f : ℕ → ℕ = decision_number_of (map (place (column_name h) xs) (decs h i)) in
      ap (map f) (map_map (place (column_name h) xs) (λ z. decided (after z)) (stores h)) ∙ map_map f (λ z. place (column_name h) xs (decided (after z))) (stores h)
      ∙ map_alike (λ z. f (place (column_name h) xs (decided (after z)))) (store_place h) (stores h)
      (each_store h (λ z. f (place (column_name h) xs (decided (after z))) ≡ store_place h z) (record {
        volume = λ j p. after_number (volume_of j) (w.variables.volume j p) (s.variables.volume j p);
        way = λ j k p low high. after_number (way_of j k) (w.variables.way j k p low high) (s.variables.way j k p low high);
      }))

  side_at : (z : HydroStore) → Stands (column_name h) xs (before z) → boxes.sides_of (map sides_of xs) (place (column_name h) xs (before z)) ≡ between (store_low h z) (store_high h z)
  side_at z stands = ap (λ (o : Option Sides). unwrap_or o sides.no_sides) (found_at (column_name h) sides_of (before z) xs (place (column_name h) xs (before z)) stands) ∙ bounded_at (before z) (place (column_name h) xs (before z)) stands refl

  all_before : AllByRecursion (λ s. Stands (column_name h) xs (before s)) (stores h)
  all_before = each_store h (λ s. Stands (column_name h) xs (before s)) (standing h i).stores

  lows_are : boxes.given_low_bounds (map sides_of xs) (map (place (column_name h) xs) (map before (stores h))) ≡ map (λ s. Some (store_low h s)) (stores h)
  unfolding boxes.given_low_bounds
  lows_are =
      let f : ℕ → Option ℤ = λ v. (boxes.sides_of (map sides_of xs) v).low in
      ap (map f) (map_map (place (column_name h) xs) before (stores h)) ∙ map_map f (λ z. place (column_name h) xs (before z)) (stores h)
      ∙ map_alike (λ z. f (place (column_name h) xs (before z))) (λ s. Some (store_low h s)) (stores h) (all_weaker (λ z. Stands (column_name h) xs (before z)) (λ z. f (place (column_name h) xs (before z)) ≡ Some (store_low h z)) (λ z s. ap (λ (r : Sides). r.low) (side_at z s)) (stores h) all_before)

  highs_are : boxes.given_high_bounds (map sides_of xs) (map (place (column_name h) xs) (map before (stores h))) ≡ map (λ s. Some (store_high h s)) (stores h)
  unfolding boxes.given_high_bounds
  highs_are =
      let f : ℕ → Option ℤ = λ v. (boxes.sides_of (map sides_of xs) v).high in
      ap (map f) (map_map (place (column_name h) xs) before (stores h)) ∙ map_map f (λ z. place (column_name h) xs (before z)) (stores h)
      ∙ map_alike (λ z. f (place (column_name h) xs (before z))) (λ s. Some (store_high h s)) (stores h) (all_weaker (λ z. Stands (column_name h) xs (before z)) (λ z. f (place (column_name h) xs (before z)) ≡ Some (store_high h z)) (λ z s. ap (λ (r : Sides). r.high) (side_at z s)) (stores h) all_before)

  state_costs_are : rows.picked_coefficients (map (place (column_name h) xs) (map before (stores h))) (map (factor (column_name h) (hydro_cost_sum h)) xs) ≡ map made.no_store (stores h)
  unfolding rows.picked_coefficients
  state_costs_are =
      picked_are (column_name h) (factor (column_name h) (hydro_cost_sum h)) xs (map before (stores h)) all_stand.coming ∙ map_map (factor (column_name h) (hydro_cost_sum h)) before (stores h)
      ∙ map_alike (λ s. factor (column_name h) (hydro_cost_sum h) (before s)) made.no_store (stores h) (each_store h _ (costs h i).stores)

  random_costs_are : rows.picked_coefficients (map (place (column_name h) xs) (ps h i)) (map (factor (column_name h) (hydro_cost_sum h)) xs) ≡ map made.no_chance (chances h)
  unfolding rows.picked_coefficients
  random_costs_are =
      picked_are (column_name h) (factor (column_name h) (hydro_cost_sum h)) xs (ps h i) all_stand.unknown ∙ map_map (factor (column_name h) (hydro_cost_sum h)) random (chances h)
      ∙ map_alike (λ c. factor (column_name h) (hydro_cost_sum h) (random c)) made.no_chance (chances h) (each_chance h _ (costs h i).chances)

  pub subproblem_read : (p : ℕ) → read_subproblem_at (states_are h i) p (codes "p") (text.subproblem h) ≡ Ok form
  unfolding read_subproblem_at filled_at few_rows_at subproblem_from_parts fields.key_at
  subproblem_read p =
      rw (parts_read (fields.place part_kinds.Subproblem p 0 0), variables_read p, costs_read p, constraints_are p, le-leb (length (map row_form sums)) 200 few_rows, boxes_are p)
      (rw (choices_are, outs_are, rows_made, state_costs_are, random_costs_are, lows_are, highs_are) refl)
