-- The reader's answers on the part_kinds of a generated problem.
use Rattle.std.proofs.Common.{◌≡◌, ℕ, zero, suc, ◌+◌, ◌*◌, ◌%◌, ◌^◌, ◌<◌, ◌≤◌, ◌==◌, ℤ, pos, List, [], ◌∷◌, ◌++◌, map, codes, Bool, true, false, cond, nat_lt, Some, None, position, bytes_eq, sum, Result, Ok, refl, ap, ◌∙◌, arith}
use Rattle.std.proofs.lemmas.Bool.{le-leb, ltb-true}
use Rattle.serde_json.specs.Data.{Data, object, Members, no_items, no_members, member}
use Rattle.serde_json.specs.Events.{members_len}
use Rattle.serde_json.specs.Find.{get_member}
use Rattle.serde_json.specs.View.{items_of}
use Rattle.problem.specs.declared.parts.State.{State}
use Rattle.problem.specs.declared.parts.Node.{Node}
use Rattle.problem.specs.declared.parts.ProblemParts.{ProblemParts}
use Rattle.problem.specs.declared.refusal.Part.{Part}
use Rattle.problem.specs.declared.refusal.Place.{Place}
use Rattle.problem.specs.declared.refusal.Part.TheVariants as part_kinds
use Rattle.base_graph.specs.Paths.{numbers}
use Rattle.read_json.specs.Steps.{walk_members, walk_items}
use Rattle.read_json.specs.Fields as fields
use Rattle.read_json.specs.Limits as limits
use Rattle.read_file.specs.Values as values
use Rattle.read_file.specs.Realizations as realizations
use Rattle.read_file.specs.Successors as successors
use Rattle.read_file.specs.Root as roots
use Rattle.read_file.specs.Nodes as nodes
use Rattle.read_file.specs.Version.{version_at}
use Rattle.read_file.specs.Tables.{Tables, table_at, sizes_at, tables_at}
use Rattle.read_file.specs.Scenarios.{scenarios_at}
use Rattle.read_file.specs.Read.{graph_at, problem_parts_of}
use Rattle.read_file.specs.Subproblems as subproblems
use Rattle.read_file.specs.Weights.{bounded_weights_at}
use Rattle.hydro_gen.specs.Names.{generated_node_name, stage_number, kind_of, reservoir_name}
use Rattle.hydro_form.specs.Listed.{members_from, whole_data}
use Rattle.hydro_gen.specs.Stage.{inflow_name, reservoir_state_name, generated_subproblem}
use Rattle.hydro_gen.specs.Nodes as made
use Rattle.hydro_form.specs.Nodes as forms
use Rattle.hydro_gen.specs.Generated.{generated_initial_values, first_nodes, generated_root, problem}
use Rattle.hydro_form.proofs.Found.{members_len-from, known_from, member_at}
use Rattle.hydro_gen.proofs.Orders.{reservoir_above, node_above}
use Rattle.hydro_gen.proofs.Subproblems.{form, state_list, subproblem_read}
use Rattle.hydro_form.proofs.Walked.{members_walk, items_walk, list_walk, appended}

-- the type of a value, and of what a step finds
abbrev TypeOf : {A : Type 0} → A → Type 0
TypeOf {A} a = A

abbrev Finds : {A E : Type 0} → Result A E → Type 0
Finds {A} r = A

abbrev Realizations : Type 0
Realizations = TypeOf realizations.no_realizations

abbrev Transitions : Type 0
Transitions = Finds (nodes.transitions_at [] 0 no_members None)

-- ---- inflows

one_or_other : (b : Bool) (x y : ℕ) → x ≤ 30 → y ≤ 30 → cond b x y ≤ 30
one_or_other true x y h k = h
one_or_other false x y h k = k

pub small_inflow : (kind word : ℕ) → made.inflow kind word ≤ 30
unfolding made.inflow
small_inflow kind word = one_or_other (kind == 0) (word % 11) (10 + word % 21) (omega arith) (omega arith)

-- a value that is found under a name
value_read : (p : Place) (support : Members) (found : List ℤ) (name : List ℕ) (x : ℕ) → x ≤ 30 → get_member name support ≡ Some (whole_data x) → values.random_value_at p support found name ≡ Ok (found ++ pos x ∷ [])
unfolding values.random_value_at fields.whole_at fields.present_at
value_read p support found name x small here = rw (here, le-leb x (2 ^ 40) (omega arith)) refl

abbrev pub inflows : (ℕ → ℕ) → ℕ → List ℤ
inflows x count = map (λ j. pos (x j)) (numbers count)

values_read : (part : Part) (a b count : ℕ) (x : ℕ → ℕ) → count ≤ 10 → ((j : ℕ) → x j ≤ 30)
    → values.values_at part a b (map inflow_name (numbers count)) (members_from inflow_name (λ j. whole_data (x j)) 0 count) ≡ Ok (inflows x count)
unfolding values.values_at
values_read part a b count x few small =
    let support = members_from inflow_name (λ j. whole_data (x j)) 0 count in
    list_walk (λ (found : List ℤ) (i : ℕ) (name : List ℕ). values.random_value_at (fields.place part a b i) support found name) (λ (found : List ℤ) (j : ℕ). found ++ pos (x j) ∷ []) inflow_name count
    (λ found i h. value_read (fields.place part a b i) support found (inflow_name i) (x i) (small i) (member_at inflow_name (λ j. whole_data (x j)) 10 (reservoir_above 119) i count h (omega arith)))
    0 count [] (omega arith)
    ∙ ap Ok (appended (λ (j : ℕ). pos (x j)) 0 count [])

-- ---- realizations

abbrev pub values_of : (ℕ → ℕ) → ℕ → ℕ → ℕ → ℕ → List ℤ
values_of word first kind count k = inflows (λ j. made.inflow kind (word (first + k * count + j))) count

abbrev pub ten_ones : List ℕ
ten_ones = 1 ∷ 1 ∷ 1 ∷ 1 ∷ 1 ∷ 1 ∷ 1 ∷ 1 ∷ 1 ∷ 1 ∷ []

module _ (word : ℕ → ℕ) (first kind count : ℕ) (few : count ≤ 10) where
  abbrev grown : Realizations → ℕ → Realizations
  grown found k = record { weights = found.weights ++ 1 ∷ []; values = found.values ++ values_of word first kind count k ∷ [] }

  realization_read : (n : ℕ) (found : Realizations) (k : ℕ) → realizations.realization_at n (map inflow_name (numbers count)) found k (made.generated_realization word (first + k * count) kind count) ≡ Ok (grown found k)
  unfolding realizations.realization_at made.generated_realization made.inflow_support forms.realization_form fields.object_at fields.present_at fields.weight_at fields.whole_at limits.members_at
  realization_read n found k =
      rw (values_read part_kinds.Support n k count (λ j. made.inflow kind (word (first + k * count + j))) few (λ j. small_inflow kind (word (first + k * count + j)))) refl

  pub realizations_read : (n : ℕ) → realizations.realizations_at n (map inflow_name (numbers count)) (items_of (made.realizations word first kind count)) ≡ Ok (record { weights = ten_ones; values = map (values_of word first kind count) (numbers 10) })
  unfolding realizations.realizations_at made.realizations
  realizations_read n =
      items_walk (realizations.realization_at n (map inflow_name (numbers count))) grown (λ (k : ℕ). made.generated_realization word (first + k * count) kind count) 10 (λ found i h. realization_read n found i) 0 10 realizations.no_realizations (omega arith)

-- ---- successors

weight_read : (p : Place) (w : ℕ) → 1 ≤ w → w ≤ 3 → fields.weight_at p (whole_data w) ≡ Ok (pos w)
unfolding fields.weight_at fields.whole_at
weight_read p zero some few = absurd (omega arith)
weight_read p (suc zero) some few = refl
weight_read p (suc (suc zero)) some few = refl
weight_read p (suc (suc (suc zero))) some few = refl
weight_read p (suc (suc (suc (suc w)))) some few = absurd (omega arith)

-- where a path may go on after the node i
abbrev pub successor_by : Bool → ℕ → Transitions
successor_by b i = cond b
    (record { nodes = (2 * stage_number i) ∷ (2 * stage_number i + 1) ∷ []; weights = made.kind_weight (kind_of i) 0 ∷ made.kind_weight (kind_of i) 1 ∷ []; stop = 0 })
    (record { nodes = []; weights = []; stop = 0 })

abbrev pub successor_form : ℕ → ℕ → Transitions
successor_form stages i = successor_by (nat_lt (stage_number i) stages) i

module _ (stages : ℕ) (most : stages ≤ 500) (value : ℕ → Data) where
  abbrev pub names : List (List ℕ)
  names = fields.keys_of (members_from generated_node_name value 0 (2 * stages))

  known : (m : ℕ) → m < 2 * stages → position (bytes_eq (generated_node_name m)) names ≡ Some m
  known m h = known_from generated_node_name value 1000 node_above m (2 * stages) h (omega arith)

  pub pair_read : (part : Part) (a m dry wet : ℕ) → m + 1 < 2 * stages → 1 ≤ dry → dry ≤ 3 → 1 ≤ wet → wet ≤ 3
      → successors.read_successors_at part a names (made.pair m dry wet) ≡ Ok (record { nodes = m ∷ (m + 1) ∷ []; weights = dry ∷ wet ∷ [] })
  unfolding successors.read_successors_at successors.successor_at walk_members made.pair limits.known_at
  pair_read part a m dry wet h d1 d2 w1 w2 =
      rw (weight_read (fields.place part a 0 0) dry d1 d2, known m (omega arith), weight_read (fields.place part a 1 0) wet w1 w2, known (m + 1) h) refl

  weighs : (b : Bool) → (1 ≤ cond b 3 1) × (cond b 3 1 ≤ 3)
  weighs true = (omega arith, omega arith)
  weighs false = (omega arith, omega arith)

  -- the two weights together are at most 6
  sums : (p : Place) (a b : ℕ) → a ≤ 3 → b ≤ 3 → bounded_weights_at p 0 (a ∷ b ∷ []) ≡ Ok (a ∷ b ∷ [])
  unfolding bounded_weights_at
  sums p a b h k =
      let small : 0 + sum (a ∷ b ∷ []) ≤ 65535 = omega arith in
      rw (le-leb (0 + sum (a ∷ b ∷ [])) 65535 small) refl

  pair_transitions : (i m dry wet : ℕ) → m + 1 < 2 * stages → 1 ≤ dry → dry ≤ 3 → 1 ≤ wet → wet ≤ 3
      → nodes.transitions_at names i (made.pair m dry wet) None ≡ Ok (record { nodes = m ∷ (m + 1) ∷ []; weights = dry ∷ wet ∷ []; stop = 0 })
  unfolding nodes.transitions_at nodes.stop_at
  pair_transitions i m dry wet h d1 d2 w1 w2 = rw (pair_read part_kinds.Successor i m dry wet h d1 d2 w1 w2, sums (realizations.at_node i) dry wet d2 w2) refl

  no_transitions : (i : ℕ) → nodes.transitions_at names i no_members None ≡ Ok (record { nodes = []; weights = []; stop = 0 })
  unfolding nodes.transitions_at nodes.stop_at successors.read_successors_at walk_members bounded_weights_at
  no_transitions i = refl

  either_read : (i : ℕ) (b : Bool) → (b ≡ true → stage_number i < stages)
      → nodes.transitions_at names i (cond b (made.pair (2 * stage_number i) (made.kind_weight (kind_of i) 0) (made.kind_weight (kind_of i) 1)) no_members) None
      ≡ Ok (cond b (record { nodes = (2 * stage_number i) ∷ (2 * stage_number i + 1) ∷ []; weights = made.kind_weight (kind_of i) 0 ∷ made.kind_weight (kind_of i) 1 ∷ []; stop = 0 }) (record { nodes = []; weights = []; stop = 0 }))
  either_read i true h =
      let l : stage_number i < stages = h refl in
      let dry = weighs (kind_of i == 0) in
      let wet = weighs (kind_of i == 1) in
      pair_transitions i (2 * stage_number i) (made.kind_weight (kind_of i) 0) (made.kind_weight (kind_of i) 1) (omega arith) dry.0 dry.1 wet.0 wet.1
  either_read i false h = no_transitions i

  pub transitions_read : (i : ℕ) → nodes.transitions_at names i (made.successors stages i) None ≡ Ok (successor_form stages i)
  unfolding made.successors
  transitions_read i = either_read i (nat_lt (stage_number i) stages) (λ e. ltb-true (stage_number i) stages e)

-- ---- nodes

abbrev SubproblemTable : Type 0
SubproblemTable = Finds (subproblems.subproblems_at [] no_members)

abbrev pub table : ℕ → SubproblemTable
table count = record { names = codes "p" ∷ []; subs = form count ∷ [] }

-- the node i as it is read
abbrev pub node_form : (ℕ → ℕ) → ℕ → ℕ → ℕ → Node
node_form word stages count i = record {
  name = generated_node_name i;
  sub = 0;
  weights = ten_ones;
  values = map (values_of word (i * (10 * count)) (kind_of i) count) (numbers 10);
  successors = (successor_form stages i).nodes;
  successor_weights = (successor_form stages i).weights;
  stop = (successor_form stages i).stop;
}

module _ (word : ℕ → ℕ) (stages count : ℕ) (most : stages ≤ 500) (few : count ≤ 10) where
  node_read : (found : List Node) (i : ℕ) → nodes.read_node_at (fields.keys_of (members_from generated_node_name (made.generated_node word stages count) 0 (2 * stages))) (table count) found i (generated_node_name i) (made.generated_node word stages count i) ≡ Ok (found ++ node_form word stages count i ∷ [])
  unfolding nodes.read_node_at fields.key_at generated_node_name fields.object_at fields.present_at fields.string_at fields.array_at limits.items_at limits.members_at limits.known_at made.generated_node forms.node_form bounded_weights_at
  node_read found i =
      rw (realizations_read word (i * (10 * count)) (kind_of i) count few i, transitions_read stages most (made.generated_node word stages count) i) refl

  pub nodes_read : nodes.nodes_at (fields.keys_of (made.generated_nodes word stages count)) (table count) (made.generated_nodes word stages count) ≡ Ok (map (node_form word stages count) (numbers (2 * stages)))
  unfolding nodes.nodes_at made.generated_nodes
  nodes_read =
      members_walk (nodes.read_node_at (fields.keys_of (members_from generated_node_name (made.generated_node word stages count) 0 (2 * stages))) (table count)) (λ (found : List Node) (i : ℕ). found ++ node_form word stages count i ∷ [])
      generated_node_name (made.generated_node word stages count) (2 * stages) (λ found i h. node_read found i) 0 (2 * stages) [] (omega arith)
      ∙ ap Ok (appended (node_form word stages count) 0 (2 * stages) [])

-- ---- the root

state_read : (found : List State) (s : ℕ) → roots.state_at found s (reservoir_state_name s) (whole_data 50) ≡ Ok (found ++ record { name = reservoir_state_name s; initial = pos 50 } ∷ [])
unfolding roots.state_at roots.initial_at fields.key_at reservoir_name fields.whole_at
state_read found s = refl

states_read : (count : ℕ) → roots.states_at (members_from reservoir_state_name (λ j. whole_data 50) 0 count) ≡ Ok (state_list count)
unfolding roots.states_at
states_read count =
    members_walk roots.state_at (λ (found : List State) (s : ℕ). found ++ record { name = reservoir_state_name s; initial = pos 50 } ∷ []) reservoir_state_name (λ j. whole_data 50) count (λ found i h. state_read found i) 0 count [] (omega arith)
    ∙ ap Ok (appended (λ (s : ℕ). record { name = reservoir_state_name s; initial = pos 50 }) 0 count [])

counts_read : (count : ℕ) → count ≤ 10 → roots.counts_at roots.root (members_len (generated_initial_values count)) (members_len first_nodes) ≡ Ok tt
unfolding roots.counts_at made.pair
counts_read count few = rw (members_len-from reservoir_state_name (λ j. whole_data 50) 0 count, le-leb count 50 (omega arith)) refl

abbrev Root : Type 0
Root = Finds (roots.root_at [] no_members)

-- the root as it is read
abbrev pub root_form : ℕ → Root
root_form count = record { states = state_list count; nodes = 0 ∷ 1 ∷ []; weights = 1 ∷ 1 ∷ [] }

abbrev pub root_members : ℕ → Members
root_members count = member (codes "state_variables") (object (generated_initial_values count)) (member (codes "successors") (object first_nodes) no_members)

pub root_read : (stages count : ℕ) (value : ℕ → Data) → 1 ≤ stages → stages ≤ 500 → count ≤ 10
    → roots.root_at (fields.keys_of (members_from generated_node_name value 0 (2 * stages))) (root_members count) ≡ Ok (root_form count)
unfolding roots.root_at fields.present_at fields.object_at limits.members_at bounded_weights_at
root_read stages count value some most few =
    rw (counts_read count few, states_read count, pair_read stages most value part_kinds.Root 2 0 1 1 (omega arith) (omega arith) (omega arith) (omega arith) (omega arith)) refl

-- ---- the whole

abbrev tables_of : (ℕ → ℕ) → ℕ → ℕ → Tables
tables_of word stages count = record { root = root_members count; nodes = made.generated_nodes word stages count; subproblems = member (codes "p") (generated_subproblem count) no_members; scenarios = no_items }

sizes_read : (word : ℕ → ℕ) (stages count : ℕ) (d : Data) → stages ≤ 500 → sizes_at (made.generated_nodes word stages count) (member (codes "p") d no_members) no_items ≡ Ok tt
unfolding sizes_at made.generated_nodes
sizes_read word stages count d most = rw (members_len-from generated_node_name (made.generated_node word stages count) 0 (2 * stages), le-leb (2 * stages) 1000 (omega arith)) refl

tables_read : (word : ℕ → ℕ) (stages count : ℕ) → stages ≤ 500 → tables_at (problem word stages count) ≡ Ok (tables_of word stages count)
unfolding tables_at table_at version_at fields.object_at fields.present_at fields.array_at limits.items_at problem generated_root forms.problem_form forms.root_of forms.version
tables_read word stages count most = rw (sizes_read word stages count (generated_subproblem count) most) refl

subproblems_read : (count : ℕ) → 1 ≤ count → count ≤ 10 → subproblems.subproblems_at (state_list count) (member (codes "p") (generated_subproblem count) no_members) ≡ Ok (table count)
unfolding subproblems.subproblems_at subproblems.listed_subproblems_at subproblems.another_at walk_members
subproblems_read count some few = rw (subproblem_read count some few) refl

-- the part_kinds as they are read
abbrev pub parts_form : (ℕ → ℕ) → ℕ → ℕ → ProblemParts
parts_form word stages count = record {
  states = state_list count;
  root = 0 ∷ 1 ∷ [];
  root_weights = 1 ∷ 1 ∷ [];
  nodes = map (node_form word stages count) (numbers (2 * stages));
  subs = form count ∷ [];
  scenarios = [];
}

root_there : (word : ℕ → ℕ) (stages count : ℕ) → 1 ≤ stages → stages ≤ 500 → count ≤ 10 → roots.root_at (fields.keys_of (made.generated_nodes word stages count)) (root_members count) ≡ Ok (root_form count)
unfolding made.generated_nodes
root_there word stages count s1 s2 c2 = root_read stages count (made.generated_node word stages count) s1 s2 c2

graph_read : (word : ℕ → ℕ) (stages count : ℕ) → 1 ≤ stages → stages ≤ 500 → 1 ≤ count → count ≤ 10
    → graph_at (fields.keys_of (made.generated_nodes word stages count)) (tables_of word stages count) ≡ Ok (parts_form word stages count)
unfolding graph_at
graph_read word stages count s1 s2 c1 c2 = rw (root_there word stages count s1 s2 c2, subproblems_read count c1 c2, nodes_read word stages count s2 c2) refl

pub problem_parts_read : (word : ℕ → ℕ) (stages count : ℕ) (text : List ℕ) → 1 ≤ stages → stages ≤ 500 → 1 ≤ count → count ≤ 10 → fields.json_at text ≡ Ok (problem word stages count)
    → problem_parts_of text ≡ Ok (parts_form word stages count)
unfolding problem_parts_of scenarios_at walk_items
problem_parts_read word stages count text s1 s2 c1 c2 json = rw (json, tables_read word stages count s2, graph_read word stages count s1 s2 c1 c2) refl
