-- The text of the problem made from hydro plants is fair.
use Rattle.std.proofs.Common.{◌≡◌, ℕ, zero, suc, ◌+◌, ◌/◌, ◌<◌, ◌≤◌, ◌⊎◌, inl, inr, ℤ, pos, List, [], ◌∷◌, ◌++◌, length, map, filter, get_or, Bool, true, false, nat_lt, if◌then◌else◌, IsUtf8, Less, nat_cmp, sym, ap, subst, ◌∙◌, arith}
use Rattle.std.specs.Cmp.Lexicographic.{slice_cmp}
use Rattle.std.specs.List.{AllByRecursion, flat_map}
use Rattle.std.proofs.lemmas.Bool.{cases_lt}
use Rattle.std.proofs.lemmas.Int.{ints}
use Rattle.std.proofs.lemmas.Str.{IsUtf8-from_ascii}
use Rattle.serde_json.specs.Data.{Data, string, no_members, member}
use Rattle.hydro_form.specs.Listed.{members_from, members_by, whole_data, integer, digit}
use Rattle.hydro_read.specs.declared.plants.Inflow.{Inflow}
use Rattle.hydro_read.specs.declared.plants.Plants.{Plants}
use Rattle.hydro_read.specs.Stages.{least_inflow}
use Rattle.hydro_read.specs.Described.{IsInflow, IsPlants, AreEntries}
use Rattle.hydro_make.specs.Layout.{way_of, inflow_of, demand_of, all_reservoirs, all_buses, stores, chances, chance_value, store_initial}
use Rattle.hydro_make.specs.Columns.{Column, columns, state_name, chance_name, variable_name, column_name}
use Rattle.hydro_make.specs.Stage as text
use Rattle.hydro_make.specs.Stage.{Sum, hydro_cost_sum}
use Rattle.hydro_make.specs.Nodes as made
use Rattle.hydro_make.specs.Nodes.{node_name, successor_to, hydro_stage}
use Rattle.hydro_make.specs.Text.{hydro_initial_values, hydro_root, hydro_data}
use Rattle.hydro_accept.specs.Fair.{AllAbove, Fair, FairMembers}
use Rattle.hydro_accept.proofs.Named.{place}
use Rattle.hydro_accept.proofs.Functions.{IsTerm, term_of}
use Rattle.hydro_accept.proofs.Constraints.{IsBox}
use Rattle.hydro_accept.proofs.Pairs.{first_less, later_less, Before, all_append, all_weaker, all_map, all_numbers}
use Rattle.hydro_accept.proofs.Listing.{OfColumns, each_store, each_chance, each_column}
use Rattle.hydro_accept.proofs.Rising.{stores_rise, supports, supports_rise}
use Rattle.hydro_accept.proofs.Fit.{IsFit, fit_columns, fit_stores, fit_chances}
use Rattle.hydro_accept.proofs.Stands.{more_of, boxes, low_of, high_of, terms_of, cost_few}
use Rattle.hydro_accept.proofs.Used.{all_got, all_passing}
use Rattle.hydro_accept.proofs.Subproblems.{sums, IsRead, all_read, rows_are, bounds_are, is_bounded, row_of, bound_of}
use Rattle.hydro_accept.proofs.AllParts.{entry_small, initial_small, stage_is, weight_within, weights_small}
use Rattle.hydro_accept.proofs.Fairness.{whole_fair, integer_fair, members_fair, variable_fair, term_fair, row_fair, bound_fair, least_sum_fair, state_fair, program_fair, subproblem_fair, realization_fair, node_fair, root_fair, problem_fair}

-- ---- names of nodes rise

same_first : (x y : ℕ) (xs ys : List ℕ) → x ≡ y → slice_cmp nat_cmp xs ys ≡ Less → slice_cmp nat_cmp (x ∷ xs) (y ∷ ys) ≡ Less
same_first x y xs ys e h = ap (λ (z : ℕ). slice_cmp nat_cmp (x ∷ xs) (z ∷ ys)) (sym e) ∙ later_less x xs ys h

three_digits : (a b c d e f : ℕ) → (a < d) ⊎ (d ≤ a) → (b < e) ⊎ (e ≤ b) → a ≤ d → (d ≤ a → b ≤ e) → (d ≤ a → e ≤ b → c < f) → slice_cmp nat_cmp (a ∷ b ∷ c ∷ []) (d ∷ e ∷ f ∷ []) ≡ Less
three_digits a b c d e f (inl p) q m1 m2 m3 = first_less a d (b ∷ c ∷ []) (e ∷ f ∷ []) p
three_digits a b c d e f (inr p) (inl q) m1 m2 m3 = same_first a d (b ∷ c ∷ []) (e ∷ f ∷ []) (omega (arith, p, m1)) (first_less b e (c ∷ []) (f ∷ []) q)
three_digits a b c d e f (inr p) (inr q) m1 m2 m3 =
    let l = m2 p in
    same_first a d (b ∷ c ∷ []) (e ∷ f ∷ []) (omega (arith, p, m1)) (same_first b e (c ∷ []) (f ∷ []) (omega (arith, q, l)) (first_less c f [] [] (m3 p q)))

first_digits : (j k : ℕ) → j < k → k < 999 → digit (suc j / 100) ≤ digit (suc k / 100)
first_digits j k p q = omega arith

second_digits : (j k : ℕ) → j < k → k < 999 → digit (suc k / 100) ≤ digit (suc j / 100) → digit (suc j / 10) ≤ digit (suc k / 10)
second_digits j k p q e = omega arith

third_digits : (j k : ℕ) → j < k → k < 999 → digit (suc k / 100) ≤ digit (suc j / 100) → digit (suc k / 10) ≤ digit (suc j / 10) → digit (suc j) < digit (suc k)
third_digits j k p q e f = omega arith

nodes_rise : (j k : ℕ) → j < k → k < 999 → Before node_name j k
unfolding node_name
nodes_rise j k p q =
    later_less 115 (digit (suc j / 100) ∷ digit (suc j / 10) ∷ digit (suc j) ∷ []) (digit (suc k / 100) ∷ digit (suc k / 10) ∷ digit (suc k) ∷ [])
    (three_digits (digit (suc j / 100)) (digit (suc j / 10)) (digit (suc j)) (digit (suc k / 100)) (digit (suc k / 10)) (digit (suc k)) (cases_lt _ _) (cases_lt _ _) (first_digits j k p q) (second_digits j k p q) (third_digits j k p q))

node_utf8 : (j : ℕ) → IsUtf8 (node_name j)
unfolding node_name
node_utf8 j = IsUtf8-from_ascii (115 ∷ digit (suc j / 100) ∷ digit (suc j / 10) ∷ digit (suc j) ∷ []) at
  where
    at : (n : ℕ) → get_or (115 ∷ digit (suc j / 100) ∷ digit (suc j / 10) ∷ digit (suc j) ∷ []) n 0 < 128
    at zero = omega arith
    at (suc zero) = omega arith
    at (suc (suc zero)) = omega arith
    at (suc (suc (suc zero))) = omega arith
    at (suc (suc (suc (suc n)))) = omega arith

above : (value : ℕ → Data) (a b n : ℕ) → a < b → b + n ≤ 999 → AllAbove (node_name a) (members_from node_name value b n)
above value a b zero p q = tt
above value a b (suc n) p q = (nodes_rise a b p (omega arith), above value a (suc b) n (omega arith) (omega arith))

numbered_fair : (value : ℕ → Data) (a n : ℕ) → a + n ≤ 999 → ((m : ℕ) → m < a + n → Fair (value m)) → FairMembers (members_from node_name value a n)
numbered_fair value a zero q f = tt
numbered_fair value a (suc n) q f = (node_utf8 a, above value a (suc a) n (omega arith) (omega arith), f a (omega arith), numbered_fair value (suc a) n (omega arith) (λ m p. f m (omega arith)))

module _ (h : Plants) (i : IsPlants h) where
  -- ---- the subproblem

  utf8_columns : OfColumns h (λ c. IsUtf8 (column_name h c))
  utf8_columns = more_of h (λ c. IsFit (column_name h c)) (λ c. IsUtf8 (column_name h c)) (λ c f. f.utf8) (fit_columns h i)

  all_utf8 : AllByRecursion (λ c. IsUtf8 (column_name h c)) (columns h)
  all_utf8 = each_column h (λ c. IsUtf8 (column_name h c)) utf8_columns

  terms_fair : (ts : Sum) → AllByRecursion (IsTerm (column_name h) (columns h)) ts → AllByRecursion Fair (map (term_of (column_name h)) ts)
  terms_fair ts a =
      all_map Fair (term_of (column_name h)) ts (all_weaker (IsTerm (column_name h) (columns h)) (λ t. Fair (term_of (column_name h) t))
      (λ t s. term_fair t.0 (column_name h t.1) s.0 (all_got (λ c. IsUtf8 (column_name h c)) (columns h) (place (column_name h) (columns h) t.1) t.1 all_utf8 s.1)) ts a)

  rows_fair : AllByRecursion Fair (text.rows h)
  rows_fair = subst (AllByRecursion Fair) (sym (rows_are h i)) (all_map Fair (row_of h i) (sums h i) (all_weaker (IsRead h i) (λ ts. Fair (row_of h i ts)) (λ ts r. row_fair (map (term_of (column_name h)) ts) (terms_fair ts r.terms)) (sums h i) (all_read h i)))

  bound_facts : OfColumns h (λ c. Fair (bound_of h i c))
  bound_facts =
      let u = utf8_columns in
      let b = boxes h i in
      record {
        stores = record { volume = λ j p. one _ (u.stores.volume j p) (b.stores.volume j p); way = λ j k p low high. one _ (u.stores.way j k p low high) (b.stores.way j k p low high) };
        chances = record { inflow = λ j p. one _ (u.chances.inflow j p) (b.chances.inflow j p); demand = λ n p. one _ (u.chances.demand n p) (b.chances.demand n p) };
        variables = record {
          volume = λ j p. one _ (u.variables.volume j p) (b.variables.volume j p);
          way = λ j k p low high. one _ (u.variables.way j k p low high) (b.variables.way j k p low high);
          turbine = λ j p. one _ (u.variables.turbine j p) (b.variables.turbine j p);
          spill = λ j p. one _ (u.variables.spill j p) (b.variables.spill j p);
          thermal = λ n p. one _ (u.variables.thermal n p) (b.variables.thermal n p);
          line = λ l p. one _ (u.variables.line l p) (b.variables.line l p);
          deficit = λ n p. one _ (u.variables.deficit n p) (b.variables.deficit n p);
        };
      }
    where
      one : (c : Column) → IsUtf8 (column_name h c) → IsBox (low_of h i c) (high_of h i c) → Fair (bound_of h i c)
      one c u b = bound_fair (column_name h c) (low_of h i c) (high_of h i c) u b.low_small b.high_small

  bounds_fair : AllByRecursion Fair (flat_map (text.bounds_of h) (columns h))
  bounds_fair =
      subst (AllByRecursion Fair) (sym (bounds_are h i (columns h))) (all_map Fair (bound_of h i) (filter (is_bounded h i) (columns h))
      (all_passing (λ c. Fair (bound_of h i c)) (is_bounded h i) (columns h) (all_weaker (λ c. Fair (bound_of h i c)) (λ c. is_bounded h i c ≡ true → Fair (bound_of h i c)) (λ c f e. f) (columns h) (each_column h (λ c. Fair (bound_of h i c)) bound_facts))))

  program_is_fair : Fair (text.program h)
  unfolding text.program text.constraints text.objective
  program_is_fair =
      program_fair (text.rows h ++ flat_map (text.bounds_of h) (columns h)) (text.objective h) (map (text.column_variable h) (columns h))
      (all_append Fair (text.rows h) (flat_map (text.bounds_of h) (columns h)) rows_fair bounds_fair)
      (least_sum_fair (map (text.column_term h) (hydro_cost_sum h)) (terms_fair (hydro_cost_sum h) (terms_of h i (hydro_cost_sum h) (cost_few h i))))
      (all_map Fair (text.column_variable h) (columns h) (all_weaker (λ c. IsUtf8 (column_name h c)) (λ c. Fair (text.column_variable h c)) (λ c u. variable_fair (column_name h c) u) (columns h) all_utf8))

  states_fair : FairMembers (text.states h)
  unfolding text.states column_name variable_name
  states_fair =
      let f = fit_stores h i in
      let c = utf8_columns in
      members_fair (state_name h) (text.state h) (stores h) (stores_rise h i) (each_store h (λ s. IsUtf8 (state_name h s) × Fair (text.state h s)) (record {
        volume = λ j p. ((f.volume j p).utf8, state_fair _ _ (c.stores.volume j p) (c.variables.volume j p));
        way = λ j k p low high. ((f.way j k p low high).utf8, state_fair _ _ (c.stores.way j k p low high) (c.variables.way j k p low high));
      }))

  subproblem_is_fair : Fair (text.subproblem h)
  unfolding text.subproblem text.random_variables
  subproblem_is_fair =
      let f = fit_chances h i in
      subproblem_fair (map (λ c. string (chance_name h c)) (chances h)) (text.states h) (text.program h)
      (all_map Fair (λ c. string (chance_name h c)) (chances h) (each_chance h (λ c. IsUtf8 (chance_name h c)) (record { inflow = λ j p. (f.inflow j p).utf8; demand = λ b p. (f.demand b p).utf8 })))
      states_fair program_is_fair

  -- ---- nodes and the root

  successor_fair : (m : ℕ) → FairMembers (successor_to h m)
  unfolding successor_to
  successor_fair m = by (nat_lt m (length h.stages))
    where
      by : (b : Bool) → FairMembers (if b then member (node_name m) (whole_data 1) no_members else no_members)
      by true = (node_utf8 m, tt, whole_fair 1 (omega arith), tt)
      by false = tt

  support_fair : (demand water : List ℤ) → AreEntries (length h.buses) (pos 0) demand → AreEntries (length h.reservoirs) least_inflow water → FairMembers (made.support h demand water)
  unfolding made.support
  support_fair demand water d w =
      let f = fit_chances h i in
      members_fair (chance_name h) (λ c. integer (chance_value demand water c)) (supports h i) (supports_rise h i)
      (all_append (λ c. IsUtf8 (chance_name h c) × Fair (integer (chance_value demand water c))) (map demand_of (all_buses h)) (map inflow_of (all_reservoirs h))
      (all_map _ demand_of (all_buses h) (all_numbers (λ b. IsUtf8 (chance_name h (demand_of b)) × Fair (integer (chance_value demand water (demand_of b)))) (length h.buses) (λ b p. ((f.demand b p).utf8, integer_fair _ (entry_small h i (length h.buses) (pos 0) demand b d (omega (arith, ints)) p)))))
      (all_map _ inflow_of (all_reservoirs h) (all_numbers (λ j. IsUtf8 (chance_name h (inflow_of j)) × Fair (integer (chance_value demand water (inflow_of j)))) (length h.reservoirs) (λ j p. ((f.inflow j p).utf8, integer_fair _ (entry_small h i (length h.reservoirs) least_inflow water j w (omega (arith, ints)) p))))))

  inflows_fair : (demand : List ℤ) (fs : List Inflow) → AreEntries (length h.buses) (pos 0) demand → AllByRecursion (IsInflow (length h.reservoirs)) fs → AllByRecursion (λ (f : Inflow). f.weight ≤ 65535) fs → AllByRecursion Fair (map (made.node_realization h demand) fs)
  unfolding made.node_realization
  inflows_fair demand [] d a b = tt
  inflows_fair demand (f ∷ fs) d a b = (realization_fair f.weight (made.support h demand f.water) (let w = b.0 in omega (arith, w)) (support_fair demand f.water d a.0.water), inflows_fair demand fs d a.1 b.1)

  node_is_fair : (m : ℕ) → m < length h.stages → Fair (made.node h m)
  unfolding made.node
  node_is_fair m p =
      let s = stage_is h i m p in
      node_fair (map (made.node_realization h (hydro_stage h m).demand) (hydro_stage h m).inflows) (successor_to h (suc m))
      (inflows_fair (hydro_stage h m).demand (hydro_stage h m).inflows s.demand s.inflows (weight_within h i (hydro_stage h m).inflows 65535 (weights_small h i m p))) (successor_fair (suc m))

  nodes_fair : FairMembers (made.nodes h)
  unfolding made.nodes
  nodes_fair = numbered_fair (made.node h) 0 (length h.stages) (let f = i.few_stages in omega (arith, f)) (λ m p. node_is_fair m (omega (arith, p)))

  root_is_fair : Fair (hydro_root h)
  unfolding hydro_root hydro_initial_values
  root_is_fair =
      let f = fit_stores h i in
      let s = initial_small h i in
      root_fair (members_by (state_name h) (λ z. integer (store_initial h z)) (stores h)) (successor_to h 0)
      (members_fair (state_name h) (λ z. integer (store_initial h z)) (stores h) (stores_rise h i) (each_store h (λ z. IsUtf8 (state_name h z) × Fair (integer (store_initial h z))) (record {
        volume = λ j p. ((f.volume j p).utf8, integer_fair _ (s.volume j p));
        way = λ j k p low high. ((f.way j k p low high).utf8, integer_fair (store_initial h (way_of j k)) (s.way j k p low high));
      })))
      (successor_fair 0)

  pub hydro_fair : Fair (hydro_data h)
  unfolding hydro_data
  hydro_fair = problem_fair (made.nodes h) (hydro_root h) (text.subproblem h) nodes_fair root_is_fair subproblem_is_fair
