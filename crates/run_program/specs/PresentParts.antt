-- The part_kinds that there are in the bytes of a problem. A part is there where what it is read from is there and its own reading refuses
-- nothing; what stands before it in the file, and is not needed for it, may be refused.
use Rattle.std.specs.Prelude.{ℕ, List, [], length, slice_get, Option, Some, None, Result, codes, position}
use Rattle.std.specs.Str.{bytes_eq}
use Rattle.serde_json.specs.Data.{Data, Items, Members, no_members}
use Rattle.serde_json.specs.Events.{items_len, members_len}
use Rattle.serde_json.specs.Find.{get, get_member}
use Rattle.problem.specs.declared.parts.Moment.{Moment}
use Rattle.problem.specs.declared.parts.Node.{Node}
use Rattle.problem.specs.declared.parts.ProblemParts.{ProblemParts}
use Rattle.problem.specs.declared.parts.State.{State}
use Rattle.problem.specs.declared.refusal.Part.TheVariants as part_kinds
use Rattle.problem.specs.declared.refusal.Refusal.{Refusal}
use Rattle.problem.specs.Validated.{Validated}
use Rattle.read_profile.specs.File.{◌>>=◌}
use Rattle.read_json.specs.Fields.{keys_of, place, whole, json_at, present_at, string_at, object_at}
use Rattle.read_json.specs.Limits.{known_at, members_at, items_at}
use Rattle.read_stage.specs.Variables.{names_at}
use Rattle.read_stage.specs.Roles.{unused}
use Rattle.read_stage.specs.States.{each_state_at}
use Rattle.read_stage.specs.Randoms.{each_random_at}
use Rattle.read_stage.specs.Decisions.{decisions_at}
use Rattle.read_stage.specs.Function.{zero_function}
use Rattle.read_stage.specs.Objective.{objective_at}
use Rattle.read_stage.specs.Sides.{no_sides}
use Rattle.read_stage.specs.Constraint.{no_constraints, constraints_at}
use Rattle.read_stage.specs.StageParts.{StageParts, stage_parts_at}
use Rattle.read_file.specs.Tables.{table_at}
use Rattle.read_file.specs.Root.{root, states_at, root_at}
use Rattle.read_file.specs.Successors.{no_successors, read_successors_at}
use Rattle.read_file.specs.Weights.{bounded_weights_at}
use Rattle.read_file.specs.Subproblems.{subproblems_at}
use Rattle.read_file.specs.Values.{randoms_of}
use Rattle.read_file.specs.Realizations.{at_node, no_realizations, realizations_at}
use Rattle.read_file.specs.Nodes.{stop_at, nodes_at}
use Rattle.read_file.specs.Scenarios.{at_scenario, scenario_steps_at, scenarios_at}
use Rattle.problem.specs.Arranged.{arranged}
use Rattle.policy_robust.specs.Alternatives.{at_weight}
use Rattle.run_program.specs.FirstRefusal.{there, nth_item, nth_member}

-- ---- the reader's own types, by values and functions of them

abbrev pub TypeOf : {A : Type 0} → A → Type 0
TypeOf {A = A} x = A

abbrev pub TakenType : {A B : Type 0} → (A → B) → Type 0
TakenType {A = A} f = A

abbrev pub GivenType : {A : Type 0} → Result A Refusal → Type 0
GivenType {A = A} r = A

abbrev pub Root : Type 0
Root = GivenType (root_at [] no_members)

abbrev pub Uses : Type 0
Uses = TypeOf (unused 0)

abbrev pub Variables : Type 0
Variables = TakenType constraints_at

abbrev pub ReadFunction : Type 0
ReadFunction = TypeOf (zero_function 0)

abbrev pub Constraints : Type 0
Constraints = TypeOf (no_constraints 0)

abbrev pub Sides : Type 0
Sides = TypeOf no_sides

abbrev pub Successors : Type 0
Successors = TypeOf no_successors

abbrev pub Realizations : Type 0
Realizations = TypeOf no_realizations

abbrev pub SubproblemTable : Type 0
SubproblemTable = TakenType (nodes_at [])

-- ---- counts; 0 where there is nothing to count

abbrev pub members_in : Option Members → ℕ
members_in None = 0
members_in (Some ms) = members_len ms

abbrev pub items_in : Option Items → ℕ
items_in None = 0
items_in (Some ds) = items_len ds

abbrev pub nodes_in : Option ProblemParts → ℕ
nodes_in None = 0
nodes_in (Some parts) = length parts.nodes

-- ---- the document and its tables

unfoldable pub document : List ℕ → Option Data
document bytes = there (json_at bytes)

-- the object under a key of the whole
unfoldable pub table_there : List ℕ → List ℕ → Option Members
table_there key bytes = do
  d ← document bytes
  there (table_at key d)

-- the member n of such an object, with its key
unfoldable pub entry_there : List ℕ → ℕ → List ℕ → Option (List ℕ × Data)
entry_there key n bytes = do
  ms ← table_there key bytes
  nth_member n ms

-- how many there are
unfoldable pub entries : List ℕ → List ℕ → ℕ
entries key bytes = members_in (table_there key bytes)

unfoldable pub stored : List ℕ → Option Items
stored bytes = do
  d ← document bytes
  there (items_at whole (get (codes "validation_scenarios") d))

-- ---- the root

unfoldable pub state_members : List ℕ → Option Members
state_members bytes = do
  ms ← table_there (codes "root") bytes
  there (members_at root (get_member (codes "state_variables") ms))

unfoldable pub start_value : List ℕ → Option Data
start_value bytes = do
  ms ← table_there (codes "root") bytes
  there (present_at root (get_member (codes "successors") ms))

unfoldable pub start_members : List ℕ → Option Members
start_members bytes = do
  d ← start_value bytes
  there (object_at root d)

unfoldable pub states_there : List ℕ → Option (List State)
states_there bytes = do
  ms ← state_members bytes
  there (states_at ms)

unfoldable pub start : List ℕ → Option Successors
start bytes = do
  nodes ← table_there (codes "nodes") bytes
  ms ← start_members bytes
  there (read_successors_at part_kinds.Root 2 (keys_of nodes) ms)

unfoldable pub start_weights : List ℕ → Option (List ℕ)
start_weights bytes = do
  successors ← start bytes
  there (bounded_weights_at root 0 successors.weights)

-- ---- the subproblem p

unfoldable pub stage_there : ℕ → List ℕ → Option StageParts
stage_there p bytes = do
  it ← entry_there (codes "subproblems") p bytes
  there (stage_parts_at (place part_kinds.Subproblem p 0 0) it.1)

unfoldable pub names : ℕ → List ℕ → Option (List (List ℕ))
names p bytes = do
  st ← stage_there p bytes
  there (names_at p st.variables)

unfoldable pub state_uses : ℕ → List ℕ → Option Uses
state_uses p bytes = do
  st ← stage_there p bytes
  ns ← names p bytes
  there (each_state_at ns p (unused (length ns)) st.states)

unfoldable pub uses : ℕ → List ℕ → Option Uses
uses p bytes = do
  st ← stage_there p bytes
  ns ← names p bytes
  found ← state_uses p bytes
  there (each_random_at ns p found st.randoms)

unfoldable pub variables_there : ℕ → List ℕ → Option Variables
variables_there p bytes = do
  ns ← names p bytes
  used ← uses p bytes
  decisions ← there (decisions_at p used.roles)
  Some (record { names = ns; uses = used; decisions = decisions })

unfoldable pub costs_there : ℕ → List ℕ → Option ReadFunction
costs_there p bytes = do
  st ← stage_there p bytes
  ns ← names p bytes
  there (objective_at ns p st.objective)

unfoldable pub constraint_items : ℕ → List ℕ → Option Items
constraint_items p bytes = do
  st ← stage_there p bytes
  Some st.constraints

unfoldable pub constraint : ℕ → ℕ → List ℕ → Option Data
constraint p i bytes = do
  ds ← constraint_items p bytes
  nth_item i ds

unfoldable pub constraint_count : ℕ → List ℕ → ℕ
constraint_count p bytes = items_in (constraint_items p bytes)

unfoldable pub constraints_there : ℕ → List ℕ → Option Constraints
constraints_there p bytes = do
  st ← stage_there p bytes
  vars ← variables_there p bytes
  there (constraints_at vars p st.constraints)

unfoldable pub subproblems : List ℕ → Option SubproblemTable
subproblems bytes = do
  qs ← states_there bytes
  ms ← table_there (codes "subproblems") bytes
  there (subproblems_at qs ms)

-- ---- the node n

unfoldable pub own_name : ℕ → List ℕ → Option Data
own_name n bytes = do
  it ← entry_there (codes "nodes") n bytes
  there (present_at (at_node n) (get (codes "subproblem") it.1))

unfoldable pub own_text : ℕ → List ℕ → Option (List ℕ)
own_text n bytes = do
  d ← own_name n bytes
  there (string_at (at_node n) d)

unfoldable pub own_subproblem_there : ℕ → List ℕ → Option ℕ
own_subproblem_there n bytes = do
  name ← own_text n bytes
  ms ← table_there (codes "subproblems") bytes
  there (known_at (at_node n) (position (bytes_eq name) (keys_of ms)))

unfoldable pub outcomes : ℕ → List ℕ → Option Items
outcomes n bytes = do
  it ← entry_there (codes "nodes") n bytes
  there (items_at (at_node n) (get (codes "realizations") it.1))

unfoldable pub outcome : ℕ → ℕ → List ℕ → Option Data
outcome n r bytes = do
  ds ← outcomes n bytes
  nth_item r ds

unfoldable pub next_members : ℕ → List ℕ → Option Members
next_members n bytes = do
  it ← entry_there (codes "nodes") n bytes
  there (members_at (at_node n) (get (codes "successors") it.1))

unfoldable pub next_entry : ℕ → ℕ → List ℕ → Option (List ℕ × Data)
next_entry n i bytes = do
  ms ← next_members n bytes
  nth_member i ms

-- its random variables, which are those of its subproblem
unfoldable pub randoms : ℕ → List ℕ → Option (List (List ℕ))
randoms n bytes = do
  sub ← own_subproblem_there n bytes
  all ← subproblems bytes
  Some (randoms_of all.subs sub)

unfoldable pub realizations_there : ℕ → List ℕ → Option Realizations
realizations_there n bytes = do
  ns ← randoms n bytes
  ds ← outcomes n bytes
  there (realizations_at n ns ds)

unfoldable pub next : ℕ → List ℕ → Option Successors
next n bytes = do
  nodes ← table_there (codes "nodes") bytes
  ms ← next_members n bytes
  there (read_successors_at part_kinds.Successor n (keys_of nodes) ms)

unfoldable pub stop : ℕ → List ℕ → Option ℕ
stop n bytes = do
  it ← entry_there (codes "nodes") n bytes
  there (stop_at (at_node n) (get (codes "stop") it.1))

unfoldable pub nodes_there : List ℕ → Option (List Node)
nodes_there bytes = do
  ms ← table_there (codes "nodes") bytes
  all ← subproblems bytes
  there (nodes_at (keys_of ms) all ms)

-- ---- the graph, without stored scenarios and with them

unfoldable pub graph : List ℕ → Option ProblemParts
graph bytes = do
  qs ← states_there bytes
  successors ← start bytes
  weights ← start_weights bytes
  all ← subproblems bytes
  ns ← nodes_there bytes
  Some (record { states = qs; root = successors.nodes; root_weights = weights; nodes = ns; subs = all.subs; scenarios = [] })

-- the steps of the scenario k
unfoldable pub steps_there : ℕ → List ℕ → Option Items
steps_there k bytes = do
  ds ← stored bytes
  d ← nth_item k ds
  there (scenario_steps_at (at_scenario k) d)

unfoldable pub scenarios : List ℕ → Option (List (List Moment))
scenarios bytes = do
  ms ← table_there (codes "nodes") bytes
  parts ← graph bytes
  ds ← stored bytes
  there (scenarios_at (keys_of ms) parts ds)

unfoldable pub validated : List ℕ → Option Validated
validated bytes = do
  parts ← graph bytes
  paths ← scenarios bytes
  there (arranged (record parts { scenarios = paths }))

-- ---- the weights that are listed at the node n

unfoldable pub lister : ℕ → List ℕ → Option Node
lister n bytes = do
  parts ← graph bytes
  slice_get parts.nodes n

unfoldable pub lister_value : ℕ → List ℕ → Option Data
lister_value n bytes = do
  node ← lister n bytes
  ms ← table_there (codes "nodes") bytes
  there (present_at whole (get_member node.name ms))

unfoldable pub lists : ℕ → List ℕ → Option Items
lists n bytes = do
  d ← lister_value n bytes
  there (items_at (at_weight n 0 0) (get (codes "alternatives") d))

unfoldable pub alternative : ℕ → ℕ → List ℕ → Option Data
alternative n i bytes = do
  ds ← lists n bytes
  nth_item i ds
