-- A part is there where what it is read from is there and its reading gives a value.
use Rattle.std.proofs.Common.{◌≡◌, ℕ, List, [], length, codes, position, bytes_eq, slice_get, Some, Ok, refl}
use Rattle.serde_json.specs.Data.{Data, Items, Members}
use Rattle.serde_json.specs.Find.{get, get_member}
use Rattle.problem.specs.declared.parts.Moment.{Moment}
use Rattle.problem.specs.declared.parts.Node.{Node}
use Rattle.problem.specs.declared.parts.ProblemParts.{ProblemParts}
use Rattle.problem.specs.declared.parts.State.{State}
use Rattle.problem.specs.declared.refusal.Part.TheVariants as part_kinds
use Rattle.problem.specs.Validated.{Validated}
use Rattle.read_json.specs.Fields.{keys_of, place, whole, json_at, present_at, string_at, object_at}
use Rattle.read_json.specs.Limits.{known_at, members_at, items_at}
use Rattle.read_stage.specs.Variables.{names_at}
use Rattle.read_stage.specs.Roles.{unused}
use Rattle.read_stage.specs.States.{each_state_at}
use Rattle.read_stage.specs.Randoms.{each_random_at}
use Rattle.read_stage.specs.Decisions.{decisions_at}
use Rattle.read_stage.specs.Objective.{objective_at}
use Rattle.read_stage.specs.Constraint.{constraints_at}
use Rattle.read_stage.specs.StageParts.{StageParts, stage_parts_at}
use Rattle.read_file.specs.Tables.{table_at}
use Rattle.read_file.specs.Root.{root, states_at}
use Rattle.read_file.specs.Successors.{read_successors_at}
use Rattle.read_file.specs.Weights.{bounded_weights_at}
use Rattle.read_file.specs.Subproblems.{subproblems_at}
use Rattle.read_file.specs.Values.{randoms_of}
use Rattle.read_file.specs.Realizations.{at_node, realizations_at}
use Rattle.read_file.specs.Nodes.{stop_at, nodes_at}
use Rattle.read_file.specs.Scenarios.{at_scenario, scenario_steps_at, scenarios_at}
use Rattle.problem.specs.Arranged.{arranged}
use Rattle.policy_robust.specs.Alternatives.{at_weight}
use Rattle.run_program.specs.FirstRefusal.{nth_item, nth_member}
use Rattle.run_program.specs.PresentParts

module _ (bytes : List ℕ) where
  pub document-is : (d : Data) → json_at bytes ≡ Ok d → PresentParts.document bytes ≡ Some d
  unfolding PresentParts.document
  document-is d e = rw e refl

  pub table-is : (key : List ℕ) (d : Data) (ms : Members) → PresentParts.document bytes ≡ Some d → table_at key d ≡ Ok ms → PresentParts.table_there key bytes ≡ Some ms
  unfolding PresentParts.table_there
  table-is key d ms a e = rw (a, e) refl

  pub entry-is : (key : List ℕ) (n : ℕ) (ms : Members) (it : List ℕ × Data) → PresentParts.table_there key bytes ≡ Some ms → nth_member n ms ≡ Some it → PresentParts.entry_there key n bytes ≡ Some it
  unfolding PresentParts.entry_there
  entry-is key n ms it a e = rw (a, e) refl

  pub stored-is : (d : Data) (ds : Items) → PresentParts.document bytes ≡ Some d → items_at whole (get (codes "validation_scenarios") d) ≡ Ok ds → PresentParts.stored bytes ≡ Some ds
  unfolding PresentParts.stored
  stored-is d ds a e = rw (a, e) refl

  -- ---- the root

  module _ (ms : Members) (a : PresentParts.table_there (codes "root") bytes ≡ Some ms) where
    pub state_members-is : (v : Members) → members_at root (get_member (codes "state_variables") ms) ≡ Ok v → PresentParts.state_members bytes ≡ Some v
    unfolding PresentParts.state_members
    state_members-is v e = rw (a, e) refl

    pub start_value-is : (d : Data) → present_at root (get_member (codes "successors") ms) ≡ Ok d → PresentParts.start_value bytes ≡ Some d
    unfolding PresentParts.start_value
    start_value-is d e = rw (a, e) refl

  pub start_members-is : (d : Data) (ms : Members) → PresentParts.start_value bytes ≡ Some d → object_at root d ≡ Ok ms → PresentParts.start_members bytes ≡ Some ms
  unfolding PresentParts.start_members
  start_members-is d ms a e = rw (a, e) refl

  pub states-is : (ms : Members) (qs : List State) → PresentParts.state_members bytes ≡ Some ms → states_at ms ≡ Ok qs → PresentParts.states_there bytes ≡ Some qs
  unfolding PresentParts.states_there
  states-is ms qs a e = rw (a, e) refl

  pub start-is : (ns ms : Members) (v : PresentParts.Successors) → PresentParts.table_there (codes "nodes") bytes ≡ Some ns → PresentParts.start_members bytes ≡ Some ms
      → read_successors_at part_kinds.Root 2 (keys_of ns) ms ≡ Ok v → PresentParts.start bytes ≡ Some v
  unfolding PresentParts.start
  start-is ns ms v a b e = rw (a, b, e) refl

  pub start_weights-is : (v : PresentParts.Successors) (ws : List ℕ) → PresentParts.start bytes ≡ Some v → bounded_weights_at root 0 v.weights ≡ Ok ws → PresentParts.start_weights bytes ≡ Some ws
  unfolding PresentParts.start_weights
  start_weights-is v ws a e = rw (a, e) refl

  -- ---- the subproblem p

  pub stage-is : (p : ℕ) (it : List ℕ × Data) (st : StageParts) → PresentParts.entry_there (codes "subproblems") p bytes ≡ Some it → stage_parts_at (place part_kinds.Subproblem p 0 0) it.1 ≡ Ok st → PresentParts.stage_there p bytes ≡ Some st
  unfolding PresentParts.stage_there
  stage-is p it st a e = rw (a, e) refl

  module _ (p : ℕ) (st : StageParts) (a : PresentParts.stage_there p bytes ≡ Some st) where
    pub names-is : (ns : List (List ℕ)) → names_at p st.variables ≡ Ok ns → PresentParts.names p bytes ≡ Some ns
    unfolding PresentParts.names
    names-is ns e = rw (a, e) refl

    module _ (ns : List (List ℕ)) (b : PresentParts.names p bytes ≡ Some ns) where
      pub state_uses-is : (u : PresentParts.Uses) → each_state_at ns p (unused (length ns)) st.states ≡ Ok u → PresentParts.state_uses p bytes ≡ Some u
      unfolding PresentParts.state_uses
      state_uses-is u e = rw (a, b, e) refl

      pub uses-is : (found u : PresentParts.Uses) → PresentParts.state_uses p bytes ≡ Some found → each_random_at ns p found st.randoms ≡ Ok u → PresentParts.uses p bytes ≡ Some u
      unfolding PresentParts.uses
      uses-is found u c e = rw (a, b, c, e) refl

      pub variables-is : (u : PresentParts.Uses) (ds : List ℕ) → PresentParts.uses p bytes ≡ Some u → decisions_at p u.roles ≡ Ok ds → PresentParts.variables_there p bytes ≡ Some (record { names = ns; uses = u; decisions = ds })
      unfolding PresentParts.variables_there
      variables-is u ds c e = rw (b, c, e) refl

      pub costs-is : (f : PresentParts.ReadFunction) → objective_at ns p st.objective ≡ Ok f → PresentParts.costs_there p bytes ≡ Some f
      unfolding PresentParts.costs_there
      costs-is f e = rw (a, b, e) refl

    pub constraint_items-is : PresentParts.constraint_items p bytes ≡ Some st.constraints
    unfolding PresentParts.constraint_items
    constraint_items-is = rw a refl

    pub constraints-is : (vars : PresentParts.Variables) (found : PresentParts.Constraints) → PresentParts.variables_there p bytes ≡ Some vars → constraints_at vars p st.constraints ≡ Ok found → PresentParts.constraints_there p bytes ≡ Some found
    unfolding PresentParts.constraints_there
    constraints-is vars found b e = rw (a, b, e) refl

  pub constraint-is : (p i : ℕ) (ds : Items) (d : Data) → PresentParts.constraint_items p bytes ≡ Some ds → nth_item i ds ≡ Some d → PresentParts.constraint p i bytes ≡ Some d
  unfolding PresentParts.constraint
  constraint-is p i ds d a e = rw (a, e) refl

  pub subproblems-is : (qs : List State) (ms : Members) (v : PresentParts.SubproblemTable) → PresentParts.states_there bytes ≡ Some qs → PresentParts.table_there (codes "subproblems") bytes ≡ Some ms
      → subproblems_at qs ms ≡ Ok v → PresentParts.subproblems bytes ≡ Some v
  unfolding PresentParts.subproblems
  subproblems-is qs ms v a b e = rw (a, b, e) refl

  -- ---- the node n

  module _ (n : ℕ) (it : List ℕ × Data) (a : PresentParts.entry_there (codes "nodes") n bytes ≡ Some it) where
    pub own_name-is : (d : Data) → present_at (at_node n) (get (codes "subproblem") it.1) ≡ Ok d → PresentParts.own_name n bytes ≡ Some d
    unfolding PresentParts.own_name
    own_name-is d e = rw (a, e) refl

    pub outcomes-is : (ds : Items) → items_at (at_node n) (get (codes "realizations") it.1) ≡ Ok ds → PresentParts.outcomes n bytes ≡ Some ds
    unfolding PresentParts.outcomes
    outcomes-is ds e = rw (a, e) refl

    pub next_members-is : (ms : Members) → members_at (at_node n) (get (codes "successors") it.1) ≡ Ok ms → PresentParts.next_members n bytes ≡ Some ms
    unfolding PresentParts.next_members
    next_members-is ms e = rw (a, e) refl

    pub stop-is : (w : ℕ) → stop_at (at_node n) (get (codes "stop") it.1) ≡ Ok w → PresentParts.stop n bytes ≡ Some w
    unfolding PresentParts.stop
    stop-is w e = rw (a, e) refl

  pub own_text-is : (n : ℕ) (d : Data) (name : List ℕ) → PresentParts.own_name n bytes ≡ Some d → string_at (at_node n) d ≡ Ok name → PresentParts.own_text n bytes ≡ Some name
  unfolding PresentParts.own_text
  own_text-is n d name a e = rw (a, e) refl

  pub own_subproblem-is : (n : ℕ) (name : List ℕ) (ms : Members) (sub : ℕ) → PresentParts.own_text n bytes ≡ Some name → PresentParts.table_there (codes "subproblems") bytes ≡ Some ms
      → known_at (at_node n) (position (bytes_eq name) (keys_of ms)) ≡ Ok sub → PresentParts.own_subproblem_there n bytes ≡ Some sub
  unfolding PresentParts.own_subproblem_there
  own_subproblem-is n name ms sub a b e = rw (a, b, e) refl

  pub randoms-is : (n sub : ℕ) (all : PresentParts.SubproblemTable) → PresentParts.own_subproblem_there n bytes ≡ Some sub → PresentParts.subproblems bytes ≡ Some all → PresentParts.randoms n bytes ≡ Some (randoms_of all.subs sub)
  unfolding PresentParts.randoms
  randoms-is n sub all a b = rw (a, b) refl

  pub outcome-is : (n r : ℕ) (ds : Items) (d : Data) → PresentParts.outcomes n bytes ≡ Some ds → nth_item r ds ≡ Some d → PresentParts.outcome n r bytes ≡ Some d
  unfolding PresentParts.outcome
  outcome-is n r ds d a e = rw (a, e) refl

  pub realizations-is : (n : ℕ) (ns : List (List ℕ)) (ds : Items) (v : PresentParts.Realizations) → PresentParts.randoms n bytes ≡ Some ns → PresentParts.outcomes n bytes ≡ Some ds → realizations_at n ns ds ≡ Ok v → PresentParts.realizations_there n bytes ≡ Some v
  unfolding PresentParts.realizations_there
  realizations-is n ns ds v a b e = rw (a, b, e) refl

  pub next_entry-is : (n i : ℕ) (ms : Members) (it : List ℕ × Data) → PresentParts.next_members n bytes ≡ Some ms → nth_member i ms ≡ Some it → PresentParts.next_entry n i bytes ≡ Some it
  unfolding PresentParts.next_entry
  next_entry-is n i ms it a e = rw (a, e) refl

  pub next-is : (n : ℕ) (ns ms : Members) (v : PresentParts.Successors) → PresentParts.table_there (codes "nodes") bytes ≡ Some ns → PresentParts.next_members n bytes ≡ Some ms
      → read_successors_at part_kinds.Successor n (keys_of ns) ms ≡ Ok v → PresentParts.next n bytes ≡ Some v
  unfolding PresentParts.next
  next-is n ns ms v a b e = rw (a, b, e) refl

  pub nodes-is : (ms : Members) (all : PresentParts.SubproblemTable) (ns : List Node) → PresentParts.table_there (codes "nodes") bytes ≡ Some ms → PresentParts.subproblems bytes ≡ Some all
      → nodes_at (keys_of ms) all ms ≡ Ok ns → PresentParts.nodes_there bytes ≡ Some ns
  unfolding PresentParts.nodes_there
  nodes-is ms all ns a b e = rw (a, b, e) refl

  -- ---- the graph

  pub graph-is : (qs : List State) (v : PresentParts.Successors) (ws : List ℕ) (all : PresentParts.SubproblemTable) (ns : List Node) → PresentParts.states_there bytes ≡ Some qs → PresentParts.start bytes ≡ Some v → PresentParts.start_weights bytes ≡ Some ws
      → PresentParts.subproblems bytes ≡ Some all → PresentParts.nodes_there bytes ≡ Some ns
      → PresentParts.graph bytes ≡ Some (record { states = qs; root = v.nodes; root_weights = ws; nodes = ns; subs = all.subs; scenarios = [] })
  unfolding PresentParts.graph
  graph-is qs v ws all ns a b c d e = rw (a, b, c, d, e) refl

  pub steps-is : (k : ℕ) (ds : Items) (d : Data) (es : Items) → PresentParts.stored bytes ≡ Some ds → nth_item k ds ≡ Some d → scenario_steps_at (at_scenario k) d ≡ Ok es → PresentParts.steps_there k bytes ≡ Some es
  unfolding PresentParts.steps_there
  steps-is k ds d es a b e = rw (a, b, e) refl

  pub scenarios-is : (ms : Members) (parts : ProblemParts) (ds : Items) (paths : List (List Moment)) → PresentParts.table_there (codes "nodes") bytes ≡ Some ms → PresentParts.graph bytes ≡ Some parts → PresentParts.stored bytes ≡ Some ds
      → scenarios_at (keys_of ms) parts ds ≡ Ok paths → PresentParts.scenarios bytes ≡ Some paths
  unfolding PresentParts.scenarios
  scenarios-is ms parts ds paths a b c e = rw (a, b, c, e) refl

  pub validated-is : (parts : ProblemParts) (paths : List (List Moment)) (p : Validated) → PresentParts.graph bytes ≡ Some parts → PresentParts.scenarios bytes ≡ Some paths → arranged (record parts { scenarios = paths }) ≡ Ok p → PresentParts.validated bytes ≡ Some p
  unfolding PresentParts.validated
  validated-is parts paths p a b e = rw (a, b, e) refl

  -- ---- the weights that are listed at the node n

  pub lister-is : (n : ℕ) (parts : ProblemParts) (node : Node) → PresentParts.graph bytes ≡ Some parts → slice_get parts.nodes n ≡ Some node → PresentParts.lister n bytes ≡ Some node
  unfolding PresentParts.lister
  lister-is n parts node a e = rw (a, e) refl

  pub lister_value-is : (n : ℕ) (node : Node) (ms : Members) (d : Data) → PresentParts.lister n bytes ≡ Some node → PresentParts.table_there (codes "nodes") bytes ≡ Some ms → present_at whole (get_member node.name ms) ≡ Ok d → PresentParts.lister_value n bytes ≡ Some d
  unfolding PresentParts.lister_value
  lister_value-is n node ms d a b e = rw (a, b, e) refl

  pub lists-is : (n : ℕ) (d : Data) (ds : Items) → PresentParts.lister_value n bytes ≡ Some d → items_at (at_weight n 0 0) (get (codes "alternatives") d) ≡ Ok ds → PresentParts.lists n bytes ≡ Some ds
  unfolding PresentParts.lists
  lists-is n d ds a e = rw (a, e) refl

  pub alternative-is : (n i : ℕ) (ds : Items) (d : Data) → PresentParts.lists n bytes ≡ Some ds → nth_item i ds ≡ Some d → PresentParts.alternative n i bytes ≡ Some d
  unfolding PresentParts.alternative
  alternative-is n i ds d a e = rw (a, e) refl
