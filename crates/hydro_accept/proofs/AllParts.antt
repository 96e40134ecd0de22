-- The reader's answer on the whole text of a hydro problem, before its graph is looked at.
use Rattle.std.proofs.Common.{◌≡◌, ℕ, zero, suc, ◌+◌, ◌<◌, ◌≤◌, ℤ, pos, ◌≤ℤ◌, List, [], ◌∷◌, ◌++◌, length, map, codes, All, sum, Bool, true, false, nat_lt, nat_le, if◌then◌else◌, None, Ok, refl, ap, ◌∙◌, arith}
use Rattle.std.specs.List.{AllByRecursion, flat_map}
use Rattle.std.proofs.lemmas.Bool.{le-leb, lt-ltb, ltb-true}
use Rattle.std.proofs.lemmas.Int.{ints}
use Rattle.std.proofs.lemmas.List.{length-append, length-map}
use Rattle.std.proofs.lemmas.List.Elements.{All-from_recursion}
use Rattle.std.proofs.lemmas.List.FromFn.{length-range_with_len}
use Rattle.std.proofs.lemmas.List.Sums.{sum_by-cons}
use Rattle.serde_json.specs.Data.{Data, object, no_items, Members, no_members, member}
use Rattle.serde_json.specs.Events.{members_len}
use Rattle.base_num.specs.Sums.{entry}
use Rattle.base_graph.specs.Paths.{numbers}
use Rattle.problem.specs.declared.parts.State.{State}
use Rattle.problem.specs.declared.parts.Node.{Node}
use Rattle.problem.specs.declared.parts.ProblemParts.{ProblemParts}
use Rattle.problem.specs.declared.refusal.Part.{Part}
use Rattle.problem.specs.declared.refusal.Part.TheVariants as part_kinds
use Rattle.read_json.specs.Steps.{walk_members, walk_items}
use Rattle.read_json.specs.Fields as fields
use Rattle.read_json.specs.Limits as limits
use Rattle.read_json.proofs.Distinct.{each-at}
use Rattle.read_file.specs.Root as roots
use Rattle.read_file.specs.Nodes as nodes
use Rattle.read_file.specs.Successors as successors
use Rattle.read_file.specs.Subproblems as subproblems
use Rattle.read_file.specs.Weights.{bounded_weights_at}
use Rattle.read_file.specs.Version.{version_at}
use Rattle.read_file.specs.Tables.{Tables, table_at, sizes_at, tables_at}
use Rattle.read_file.specs.Scenarios.{scenarios_at}
use Rattle.read_file.specs.Read.{graph_at, problem_parts_of}
use Rattle.hydro_form.specs.Listed.{members_by, whole_data, integer}
use Rattle.hydro_form.specs.Nodes as forms
use Rattle.hydro_form.proofs.Walked.{members_walk, appended}
use Rattle.hydro_form.proofs.Found.{members_len-from}
use Rattle.hydro_read.specs.declared.plants.Inflow.{Inflow}
use Rattle.hydro_read.specs.declared.plants.Stage.{Stage}
use Rattle.hydro_read.specs.declared.plants.Plants.{Plants}
use Rattle.hydro_read.specs.Described.{IsInflow, IsStage, IsPlants, AreEntries}
use Rattle.hydro_read.specs.Fields.{Within, greatest_number}
use Rattle.hydro_read.specs.Stages.{least_inflow, total_inflow_weight}
use Rattle.hydro_make.specs.Layout.{HydroStore, volume_of, way_of, inflow_of, demand_of, travel, all_reservoirs, all_buses, steps, ways, stores, chances, chance_value, store_initial}
use Rattle.hydro_make.specs.Columns.{state_name, chance_name}
use Rattle.hydro_make.specs.Stage as text
use Rattle.hydro_make.specs.Nodes as made
use Rattle.hydro_make.specs.Nodes.{node_name, successor_to, hydro_stage}
use Rattle.hydro_make.specs.Text.{hydro_initial_values, hydro_root, hydro_data}
use Rattle.hydro_make.proofs.Described.{short}
use Rattle.hydro_make.proofs.Lists.{All-left, All-right, each_all}
use Rattle.hydro_accept.proofs.Types.{Finds}
use Rattle.hydro_accept.proofs.Functions.{IsSmall, integer_read}
use Rattle.hydro_accept.proofs.Pairs.{Somewhere, all_somewhere}
use Rattle.hydro_accept.proofs.Walks.{members_grow}
use Rattle.hydro_accept.proofs.Listing.{OfStores, OfChances, each_store, each_chance}
use Rattle.hydro_accept.proofs.Choices.{travels_are}
use Rattle.hydro_accept.proofs.Rising.{supports, supports_rise}
use Rattle.hydro_accept.proofs.Fit.{fit_stores}
use Rattle.hydro_accept.proofs.Stands.{reservoir_is}
use Rattle.hydro_accept.proofs.Used.{states_are}
use Rattle.hydro_accept.proofs.Subproblems.{form, subproblem_read}
use Rattle.hydro_accept.proofs.Stages.{SubproblemTable, HasValue, values_read, IsRead, realizations_read, weight_read, node_known, keys_are}

abbrev Transitions : Type 0
Transitions = Finds (nodes.transitions_at [] 0 no_members None)

abbrev Root : Type 0
Root = Finds (roots.root_at [] no_members)

-- ---- how many states there are

three_tests : {A : Type 0} (t : ℕ) (x y z : A) → t ≤ 3 → length (if nat_le 1 t then x ∷ [] else []) + (length (if nat_le 2 t then y ∷ [] else []) + length (if nat_le 3 t then z ∷ [] else [])) ≡ t
three_tests zero x y z h = refl
three_tests (suc zero) x y z h = refl
three_tests (suc (suc zero)) x y z h = refl
three_tests (suc (suc (suc zero))) x y z h = refl
three_tests (suc (suc (suc (suc t)))) x y z h = absurd (omega arith)

module _ (h : Plants) (i : IsPlants h) where
  abbrev at_way : ℕ → ℕ → List HydroStore
  at_way k j = if nat_le k (travel h j) then way_of j k ∷ [] else []

  three_ways : (ns : List ℕ) → length (flat_map (at_way 1) ns) + (length (flat_map (at_way 2) ns) + length (flat_map (at_way 3) ns)) ≡ sum (map (travel h) ns)
  three_ways [] = refl
  three_ways (n ∷ ns) =
      let a = length-append (at_way 1 n) (flat_map (at_way 1) ns) in
      let b = length-append (at_way 2 n) (flat_map (at_way 2) ns) in
      let c = length-append (at_way 3 n) (flat_map (at_way 3) ns) in
      let here = three_tests (travel h n) (way_of n 1) (way_of n 2) (way_of n 3) (short h i n) in
      let tail = three_ways ns in
      let all = sum_by-cons (λ k. k) (travel h n) (map (travel h) ns) in
      omega (arith, a, b, c, here, tail, all)

  pub few_stores : length (stores h) ≤ 50
  few_stores =
      let a = length-append (flat_map (ways h) (steps 3)) (map volume_of (all_reservoirs h)) in
      let b = length-append (ways h 1) (ways h 2 ++ (ways h 3 ++ [])) in
      let c = length-append (ways h 2) (ways h 3 ++ []) in
      let d = length-append (ways h 3) [] in
      let e = length-map (all_reservoirs h) volume_of in
      let f = length-range_with_len 0 (length h.reservoirs) in
      let t = three_ways (all_reservoirs h) in
      let u = travels_are h in
      let s = i.few_states in
      omega (arith, a, b, c, d, e, f, t, u, s)

  -- ---- the root

  abbrev many : ℕ
  many = length h.stages

  abbrev names : List (List ℕ)
  names = map node_name (numbers many)

  pub initial_small : OfStores h (λ s. IsSmall (store_initial h s))
  initial_small = record {
    volume = λ j p.
        let r = reservoir_is h i j p in
        let a = r.initial.low in
        let b = r.initial.high in
        let c = r.low.low in
        let d = r.high.high in
        omega (arith, ints, a, b, c, d);
    way = λ j k p low high. omega arith;
  }

  state_fits : OfStores h (λ s. (length (state_name h s) ≤ 128) × IsSmall (store_initial h s))
  state_fits =
      let f = fit_stores h i in
      record { volume = λ j p. ((f.volume j p).few, initial_small.volume j p); way = λ j k p low high. ((f.way j k p low high).few, initial_small.way j k p low high) }

  state_read : (found : List State) (s : ℕ) (z : HydroStore) → (length (state_name h z) ≤ 128) × IsSmall (store_initial h z) → roots.state_at found s (state_name h z) (integer (store_initial h z)) ≡ Ok (found ++ record { name = state_name h z; initial = store_initial h z } ∷ [])
  unfolding roots.state_at roots.initial_at fields.key_at
  state_read found s z f = rw (le-leb (length (state_name h z)) 128 f.0, integer_read (roots.at_state s) (store_initial h z) f.1) refl

  states_read : roots.states_at (hydro_initial_values h) ≡ Ok (states_are h i)
  unfolding roots.states_at hydro_initial_values
  states_read =
      members_grow (λ z. (length (state_name h z) ≤ 128) × IsSmall (store_initial h z)) (λ z. record { name = state_name h z; initial = store_initial h z }) roots.state_at (state_name h) (λ z. integer (store_initial h z))
      state_read (stores h) (each_store h _ state_fits) [] 0

  members_count : {A : Type 0} (key : A → List ℕ) (value : A → Data) (xs : List A) → members_len (members_by key value xs) ≡ length xs
  members_count key value [] = refl
  members_count key value (x ∷ xs) = ap suc (members_count key value xs)

  abbrev successors_of : ℕ → List ℕ
  successors_of m = if nat_lt m many then m ∷ [] else []

  abbrev weights_of : ℕ → List ℕ
  weights_of m = if nat_lt m many then 1 ∷ [] else []

  few_many : many ≤ 999
  few_many = let f = i.few_stages in omega (arith, f)

  successor_by : (part : Part) (a m : ℕ) (b : Bool) → (b ≡ true → m < many) → successors.read_successors_at part a names (if b then member (node_name m) (whole_data 1) no_members else no_members) ≡ Ok (record { nodes = if b then m ∷ [] else []; weights = if b then 1 ∷ [] else [] })
  unfolding successors.read_successors_at successors.successor_at walk_members limits.known_at
  successor_by part a m true h = rw (weight_read (fields.place part a 0 0) 1 (omega arith) (omega arith), node_known many m few_many (h refl)) refl
  successor_by part a m false h = refl

  successor_read : (part : Part) (a m : ℕ) → successors.read_successors_at part a names (successor_to h m) ≡ Ok (record { nodes = successors_of m; weights = weights_of m })
  unfolding successor_to
  successor_read part a m = successor_by part a m (nat_lt m many) (λ e. ltb-true m many e)

  first_successor : members_len (successor_to h 0) ≡ 1
  unfolding successor_to
  first_successor = ap (λ b. members_len (if b then member (node_name 0) (whole_data 1) no_members else no_members)) (lt-ltb 0 many i.some_stages)

  first_successors : successors_of 0 ≡ 0 ∷ []
  first_successors = ap (λ b. if b then 0 ∷ [] else []) (lt-ltb 0 many i.some_stages)

  first_weights : weights_of 0 ≡ 1 ∷ []
  first_weights = ap (λ b. if b then 1 ∷ [] else []) (lt-ltb 0 many i.some_stages)

  counts_read : roots.counts_at roots.root (members_len (hydro_initial_values h)) (members_len (successor_to h 0)) ≡ Ok tt
  unfolding roots.counts_at hydro_initial_values
  counts_read = rw (first_successor, members_count (state_name h) (λ z. integer (store_initial h z)) (stores h), le-leb (length (stores h)) 50 few_stores) refl

  abbrev root_members : Members
  root_members = member (codes "state_variables") (object (hydro_initial_values h)) (member (codes "successors") (object (successor_to h 0)) no_members)

  abbrev root_form : Root
  root_form = record { states = states_are h i; nodes = 0 ∷ []; weights = 1 ∷ [] }

  root_read : roots.root_at names root_members ≡ Ok root_form
  unfolding roots.root_at fields.present_at fields.object_at limits.members_at bounded_weights_at
  root_read = rw (counts_read, states_read, successor_read part_kinds.Root 2 0, first_successors, first_weights) refl

  -- ---- nodes

  abbrev pub node_form : ℕ → Node
  node_form m = record {
    name = node_name m;
    sub = 0;
    weights = map (λ (f : Inflow). f.weight) (hydro_stage h m).inflows;
    values = map (λ (f : Inflow). map (chance_value (hydro_stage h m).demand f.water) (chances h)) (hydro_stage h m).inflows;
    successors = successors_of (suc m);
    successor_weights = weights_of (suc m);
    stop = 0;
  }

  abbrev table : SubproblemTable
  table = record { names = codes "p" ∷ []; subs = form h i ∷ [] }

  pub stage_is : (m : ℕ) → m < many → IsStage (length h.buses) (length h.reservoirs) (hydro_stage h m)
  stage_is m p = each-at (IsStage (length h.buses) (length h.reservoirs)) h.stages m _ i.stages p

  pub entry_small : (count : ℕ) (least : ℤ) (zs : List ℤ) (j : ℕ) → AreEntries count least zs → least_inflow ≤ℤ least → j < count → IsSmall (entry zs j)
  entry_small count least zs j a low p =
      let many = a.many in
      let w = each-at (Within least greatest_number) zs j (pos 0) a.each (omega (arith, many, p)) in
      let wl = w.low in
      let wh = w.high in
      omega (arith, ints, low, wl, wh)

  supports_at : OfChances h (Somewhere (supports h i))
  supports_at =
      let all : All (Somewhere (supports h i)) (map demand_of (all_buses h) ++ map inflow_of (all_reservoirs h)) = All-from_recursion (Somewhere (supports h i)) (supports h i) (all_somewhere (supports h i)) in
      record {
        inflow = each_all (Somewhere (supports h i)) inflow_of (length h.reservoirs) (All-right (Somewhere (supports h i)) (map demand_of (all_buses h)) (map inflow_of (all_reservoirs h)) all);
        demand = each_all (Somewhere (supports h i)) demand_of (length h.buses) (All-left (Somewhere (supports h i)) (map demand_of (all_buses h)) (map inflow_of (all_reservoirs h)) all);
      }

  have_values : (demand water : List ℤ) → AreEntries (length h.buses) (pos 0) demand → AreEntries (length h.reservoirs) least_inflow water → AllByRecursion (HasValue (chance_name h) (chance_value demand water) (supports h i)) (chances h)
  have_values demand water d w = each_chance h (HasValue (chance_name h) (chance_value demand water) (supports h i)) (record {
    inflow = λ j p. let s = supports_at.inflow j p in record { number = s.0; there = s.1; small = entry_small (length h.reservoirs) least_inflow water j w (omega (arith, ints)) p };
    demand = λ b p. let s = supports_at.demand b p in record { number = s.0; there = s.1; small = entry_small (length h.buses) (pos 0) demand b d (omega (arith, ints)) p };
  })

  abbrev Reads : ℕ → List ℤ → Inflow → Type 0
  Reads m demand f = IsRead (λ (g : Inflow). g.weight) (λ (g : Inflow). made.support h demand g.water) (λ (g : Inflow). map (chance_value demand g.water) (chances h)) (map (chance_name h) (chances h)) m f

  inflow_read : (m : ℕ) (demand : List ℤ) (f : Inflow) → AreEntries (length h.buses) (pos 0) demand → IsInflow (length h.reservoirs) f → f.weight ≤ 65535 → Reads m demand f
  unfolding made.support
  inflow_read m demand f d is few =
      record { some = is.weight; few = omega (arith, few); values = λ k. values_read (chance_name h) (chance_value demand f.water) (supports h i) part_kinds.Support m k (supports_rise h i) (chances h) (have_values demand f.water d is.water) }

  pub weight_within : (fs : List Inflow) (most : ℕ) → sum (map (λ (f : Inflow). f.weight) fs) ≤ most → AllByRecursion (λ (f : Inflow). f.weight ≤ most) fs
  weight_within [] most e = tt
  weight_within (f ∷ fs) most e =
      let all = sum_by-cons (λ k. k) f.weight (map (λ (g : Inflow). g.weight) fs) in
      (omega (arith, all, e), weight_within fs most (omega (arith, all, e)))

  inflows_read : (m : ℕ) (s : Stage) (fs : List Inflow) → AreEntries (length h.buses) (pos 0) s.demand → AllByRecursion (IsInflow (length h.reservoirs)) fs → AllByRecursion (λ (f : Inflow). f.weight ≤ 65535) fs → AllByRecursion (Reads m s.demand) fs
  inflows_read m s [] d a b = tt
  inflows_read m s (f ∷ fs) d a b = (inflow_read m s.demand f d a.0 b.0, inflows_read m s fs d a.1 b.1)

  pub weights_small : (m : ℕ) → m < many → sum (map (λ (f : Inflow). f.weight) (hydro_stage h m).inflows) ≤ 65535
  unfolding total_inflow_weight
  weights_small m p = (stage_is m p).weights

  one_weight : (b : Bool) → nat_le (0 + sum (if b then 1 ∷ [] else [])) 65535 ≡ true
  one_weight true = refl
  one_weight false = refl

  node_read : (found : List Node) (m : ℕ) → m < many → nodes.read_node_at names table found m (node_name m) (made.node h m) ≡ Ok (found ++ node_form m ∷ [])
  unfolding nodes.read_node_at nodes.transitions_at nodes.stop_at fields.key_at node_name fields.object_at fields.present_at fields.string_at fields.array_at limits.items_at limits.members_at limits.known_at made.node made.node_realization forms.node_form bounded_weights_at
  node_read found m p =
      let s = stage_is m p in
      let all : AllByRecursion (Reads m (hydro_stage h m).demand) (hydro_stage h m).inflows = inflows_read m (hydro_stage h m) (hydro_stage h m).inflows s.demand s.inflows (weight_within (hydro_stage h m).inflows 65535 (weights_small m p)) in
      let read = realizations_read (λ (g : Inflow). g.weight) (λ (g : Inflow). made.support h (hydro_stage h m).demand g.water) (λ (g : Inflow). map (chance_value (hydro_stage h m).demand g.water) (chances h)) (map (chance_name h) (chances h)) m (hydro_stage h m).inflows s.some_inflows s.few_inflows all in
      let total : 0 + sum (map (λ (f : Inflow). f.weight) (hydro_stage h m).inflows) ≤ 65535 = let w = weights_small m p in omega (arith, w) in
      rw (read, le-leb (0 + sum (map (λ (f : Inflow). f.weight) (hydro_stage h m).inflows)) 65535 total, successor_read part_kinds.Successor m (suc m), one_weight (nat_lt (suc m) many)) refl

  nodes_read : nodes.nodes_at names table (made.nodes h) ≡ Ok (map node_form (numbers many))
  unfolding nodes.nodes_at made.nodes
  nodes_read =
      members_walk (nodes.read_node_at names table) (λ (found : List Node) (m : ℕ). found ++ node_form m ∷ []) node_name (made.node h) many (λ found m p. node_read found m p) 0 many [] (omega arith)
      ∙ ap Ok (appended node_form 0 many [])

  -- ---- the whole

  abbrev tables_of : Tables
  tables_of = record { root = root_members; nodes = made.nodes h; subproblems = member (codes "p") (text.subproblem h) no_members; scenarios = no_items }

  sizes_read : sizes_at (made.nodes h) (member (codes "p") (text.subproblem h) no_members) no_items ≡ Ok tt
  unfolding sizes_at made.nodes
  sizes_read = rw (members_len-from node_name (made.node h) 0 many, le-leb many 1000 (let f = few_many in omega (arith, f))) refl

  tables_read : tables_at (hydro_data h) ≡ Ok tables_of
  unfolding tables_at table_at version_at fields.object_at fields.present_at fields.array_at limits.items_at hydro_data forms.problem_form hydro_root forms.root_of forms.version
  tables_read = rw sizes_read refl

  subproblems_read : subproblems.subproblems_at (states_are h i) (member (codes "p") (text.subproblem h) no_members) ≡ Ok table
  unfolding subproblems.subproblems_at subproblems.listed_subproblems_at subproblems.another_at walk_members
  subproblems_read = rw (subproblem_read h i 0) refl

  -- the part_kinds as they are read
  abbrev pub parts_form : ProblemParts
  parts_form = record {
    states = states_are h i;
    root = 0 ∷ [];
    root_weights = 1 ∷ [];
    nodes = map node_form (numbers many);
    subs = form h i ∷ [];
    scenarios = [];
  }

  keys_of_nodes : fields.keys_of (made.nodes h) ≡ names
  unfolding made.nodes
  keys_of_nodes = keys_are (made.node h) many

  graph_read : graph_at (fields.keys_of (made.nodes h)) tables_of ≡ Ok parts_form
  unfolding graph_at
  graph_read = rw (keys_of_nodes, root_read, subproblems_read, nodes_read) refl

  pub problem_parts_read : (bytes : List ℕ) → fields.json_at bytes ≡ Ok (hydro_data h) → problem_parts_of bytes ≡ Ok parts_form
  unfolding problem_parts_of scenarios_at walk_items
  problem_parts_read bytes json = rw (json, tables_read, graph_read) refl
