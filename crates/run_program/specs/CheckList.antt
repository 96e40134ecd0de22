-- The checks of a problem file, in their order. docs/use/FORMAT.md has the same list in words.
use Rattle.std.specs.Prelude.{ℕ, suc, ◌==◌, List, [], ◌∷◌, ◌++◌, length, None, option_map, nat_le, codes, position, if◌then◌else◌}
use Rattle.std.specs.Str.{bytes_eq}
use Rattle.serde_json.specs.Events.{items_len, members_len}
use Rattle.serde_json.specs.Find.{get, get_member}
use Rattle.base_graph.specs.Paths.{numbers, first_in_cycle, first_unreached}
use Rattle.problem.specs.declared.refusal.Refusal.{Refusal}
use Rattle.problem.specs.declared.refusal.RefusalKind.TheVariants as kinds
use Rattle.problem.specs.declared.refusal.Part.TheVariants as part_kinds
use Rattle.problem.specs.Validated.{graph_of}
use Rattle.read_profile.specs.File.{◌>>=◌}
use Rattle.read_json.specs.Fields.{keys_of, place, whole, key_at, json_at, present_at, string_at, object_at}
use Rattle.read_json.specs.Limits.{known_at, members_at, items_at}
use Rattle.read_stage.specs.Variables.{names_at}
use Rattle.read_stage.specs.Roles.{unused}
use Rattle.read_stage.specs.States.{are_keys, each_state_at}
use Rattle.read_stage.specs.Randoms.{each_random_at}
use Rattle.read_stage.specs.Decisions.{decisions_at}
use Rattle.read_stage.specs.Objective.{objective_at}
use Rattle.read_stage.specs.Constraint.{no_constraints, constraint_at}
use Rattle.read_stage.specs.Boxes.{boxes_at}
use Rattle.read_stage.specs.StageParts.{stage_parts_at}
use Rattle.read_stage.specs.Subproblem.{few_rows_at}
use Rattle.read_file.specs.Version.{version_at}
use Rattle.read_file.specs.Tables.{table_at, sizes_at}
use Rattle.read_file.specs.Root.{root, state_at, counts_at}
use Rattle.read_file.specs.Successors.{no_successors, successor_at}
use Rattle.read_file.specs.Weights.{bounded_weights_at}
use Rattle.read_file.specs.Realizations.{at_node, no_realizations, realization_at, certain_at}
use Rattle.read_file.specs.Nodes.{stop_at}
use Rattle.read_file.specs.Scenarios.{at_scenario, scenario_steps_at, some_at, path_at}
use Rattle.problem.specs.Hull.{first_gap}
use Rattle.policy_robust.specs.Alternatives.{at_weight, alternative_at}
use Rattle.run_program.specs.Outcome.{based_of}
use Rattle.run_program.specs.FirstRefusal.{Check, check, of_each, nth_item, nth_member, refusal_of, failing}
use Rattle.run_program.specs.PresentParts as there
use Rattle.run_words.specs.declared.command.Command.{Command}
use Rattle.run_words.specs.Traits.{traits}

-- 1. the whole
unfoldable pub whole_checks : List (Check Refusal)
whole_checks =
    check (codes "JSON") [] (λ b. refusal_of (json_at b))
    ∷ check (codes "an object") [] (λ b. there.document b >>= λ d. refusal_of (object_at whole d))
    ∷ check (codes "version") [] (λ b. there.document b >>= λ d. refusal_of (version_at d))
    ∷ check (codes "type of root") [] (λ b. there.document b >>= λ d. refusal_of (table_at (codes "root") d))
    ∷ check (codes "type of nodes") [] (λ b. there.document b >>= λ d. refusal_of (table_at (codes "nodes") d))
    ∷ check (codes "type of subproblems") [] (λ b. there.document b >>= λ d. refusal_of (table_at (codes "subproblems") d))
    ∷ check (codes "type of scenarios") [] (λ b. there.document b >>= λ d. refusal_of (items_at whole (get (codes "validation_scenarios") d)))
    ∷ check (codes "counts") [] (λ b. there.table_there (codes "nodes") b >>= λ ns. there.table_there (codes "subproblems") b >>= λ ss. there.stored b >>= λ ds. refusal_of (sizes_at ns ss ds))
    ∷ []

-- 2. the root, with each state s and each successor i
unfoldable pub initial_checks : ℕ → List (Check Refusal)
initial_checks s = check (codes "initial value") (s ∷ []) (λ b. there.state_members b >>= λ ms. nth_member s ms >>= λ it. refusal_of (state_at [] s it.0 it.1)) ∷ []

unfoldable pub start_checks : ℕ → List (Check Refusal)
start_checks i =
    check (codes "successor of the root") (i ∷ [])
    (λ b. there.table_there (codes "nodes") b >>= λ ns. there.start_members b >>= λ ms. nth_member i ms >>= λ it. refusal_of (successor_at (place part_kinds.Root 2 i 0) (keys_of ns) no_successors it.0 it.1))
    ∷ []

unfoldable pub root_checks : List ℕ → List (Check Refusal)
root_checks bytes =
    check (codes "type of states") [] (λ b. there.table_there (codes "root") b >>= λ ms. refusal_of (members_at root (get_member (codes "state_variables") ms)))
    ∷ check (codes "successors are there") [] (λ b. there.table_there (codes "root") b >>= λ ms. refusal_of (present_at root (get_member (codes "successors") ms)))
    ∷ check (codes "type of successors") [] (λ b. there.start_value b >>= λ d. refusal_of (object_at root d))
    ∷ check (codes "counts of the root") [] (λ b. there.state_members b >>= λ ss. there.start_members b >>= λ ms. refusal_of (counts_at root (members_len ss) (members_len ms)))
    ∷ (of_each initial_checks 0 (there.members_in (there.state_members bytes)) ++ (of_each start_checks 0 (there.members_in (there.start_members bytes))
    ++ (check (codes "weights of the root") [] (λ b. there.start b >>= λ successors. refusal_of (bounded_weights_at root 0 successors.weights)) ∷ [])))

-- 3. each subproblem p, with each constraint i
unfoldable pub constraint_checks : ℕ → ℕ → List (Check Refusal)
constraint_checks p i =
    check (codes "constraint") (p ∷ i ∷ []) (λ b. there.variables_there p b >>= λ vars. there.constraint p i b >>= λ d. refusal_of (constraint_at vars p (no_constraints (length vars.names)) i d)) ∷ []

unfoldable pub filled_checks : ℕ → List ℕ → List (Check Refusal)
filled_checks p bytes =
    of_each (constraint_checks p) 0 (there.constraint_count p bytes)
    ++ (check (codes "count of rows") (p ∷ []) (λ b. there.constraints_there p b >>= λ found. refusal_of (few_rows_at p found))
    ∷ check (codes "bounds of variables") (p ∷ []) (λ b. there.variables_there p b >>= λ vars. there.costs_there p b >>= λ f. there.constraints_there p b >>= λ found. refusal_of (boxes_at vars p found.bounds f.coefficients))
    ∷ [])

unfoldable pub subproblem_checks : List ℕ → ℕ → List (Check Refusal)
subproblem_checks bytes p =
    check (codes "name of a subproblem") (p ∷ []) (λ b. there.entry_there (codes "subproblems") p b >>= λ it. refusal_of (key_at (place part_kinds.Subproblem p 0 0) it.0))
    ∷ check (codes "types of its members") (p ∷ []) (λ b. there.entry_there (codes "subproblems") p b >>= λ it. refusal_of (stage_parts_at (place part_kinds.Subproblem p 0 0) it.1))
    ∷ check (codes "variables") (p ∷ []) (λ b. there.stage_there p b >>= λ st. refusal_of (names_at p st.variables))
    ∷ check (codes "states of the root") (p ∷ []) (λ b. there.states_there b >>= λ qs. there.stage_there p b >>= λ st. failing (are_keys qs st.states) kinds.States (place part_kinds.Subproblem p 0 0))
    ∷ check (codes "in and out of states") (p ∷ []) (λ b. there.stage_there p b >>= λ st. there.names p b >>= λ ns. refusal_of (each_state_at ns p (unused (length ns)) st.states))
    ∷ check (codes "count of random variables") (p ∷ []) (λ b. there.stage_there p b >>= λ st. failing (nat_le (items_len st.randoms) 50) kinds.TooLarge (place part_kinds.Subproblem p 0 0))
    ∷ check (codes "random variables") (p ∷ []) (λ b. there.stage_there p b >>= λ st. there.names p b >>= λ ns. there.state_uses p b >>= λ found. refusal_of (each_random_at ns p found st.randoms))
    ∷ check (codes "count of decisions") (p ∷ []) (λ b. there.uses p b >>= λ used. refusal_of (decisions_at p used.roles))
    ∷ check (codes "objective") (p ∷ []) (λ b. there.stage_there p b >>= λ st. there.names p b >>= λ ns. refusal_of (objective_at ns p st.objective))
    ∷ filled_checks p bytes

-- 4. each node n, with each realization r and each successor i
unfoldable pub realization_checks : ℕ → ℕ → List (Check Refusal)
realization_checks n r =
    check (codes "realization") (n ∷ r ∷ []) (λ b. there.randoms n b >>= λ ns. there.outcome n r b >>= λ d. refusal_of (realization_at n ns no_realizations r d)) ∷ []

unfoldable pub next_checks : ℕ → ℕ → List (Check Refusal)
next_checks n i =
    check (codes "successor") (n ∷ i ∷ []) (λ b. there.table_there (codes "nodes") b >>= λ ns. there.next_entry n i b >>= λ it. refusal_of (successor_at (place part_kinds.Successor n i 0) (keys_of ns) no_successors it.0 it.1)) ∷ []

-- their count, and each
unfoldable pub outcome_checks : List ℕ → ℕ → List (Check Refusal)
outcome_checks bytes n =
    check (codes "count of realizations") (n ∷ []) (λ b. there.outcomes n b >>= λ ds. failing (nat_le (items_len ds) 100) kinds.TooLarge (at_node n))
    ∷ check (codes "none is needed") (n ∷ []) (λ b. there.randoms n b >>= λ ns. there.outcomes n b >>= λ ds. if items_len ds == 0 then refusal_of (certain_at (at_node n) ns) else None)
    ∷ of_each (realization_checks n) 0 (there.items_in (there.outcomes n bytes))

-- each successor, `stop`, and their total
unfoldable pub transition_checks : List ℕ → ℕ → List (Check Refusal)
transition_checks bytes n =
    of_each (next_checks n) 0 (there.members_in (there.next_members n bytes))
    ++ (check (codes "stop") (n ∷ []) (λ b. there.entry_there (codes "nodes") n b >>= λ it. refusal_of (stop_at (at_node n) (get (codes "stop") it.1)))
    ∷ check (codes "weights of successors") (n ∷ []) (λ b. there.next n b >>= λ successors. there.stop n b >>= λ stop. refusal_of (bounded_weights_at (at_node n) stop successors.weights))
    ∷ [])

unfoldable pub node_checks : List ℕ → ℕ → List (Check Refusal)
node_checks bytes n =
    check (codes "name of a node") (n ∷ []) (λ b. there.entry_there (codes "nodes") n b >>= λ it. refusal_of (key_at (at_node n) it.0))
    ∷ check (codes "a node is an object") (n ∷ []) (λ b. there.entry_there (codes "nodes") n b >>= λ it. refusal_of (object_at (at_node n) it.1))
    ∷ check (codes "its subproblem is there") (n ∷ []) (λ b. there.entry_there (codes "nodes") n b >>= λ it. refusal_of (present_at (at_node n) (get (codes "subproblem") it.1)))
    ∷ check (codes "type of its subproblem") (n ∷ []) (λ b. there.own_name n b >>= λ d. refusal_of (string_at (at_node n) d))
    ∷ check (codes "type of realizations") (n ∷ []) (λ b. there.entry_there (codes "nodes") n b >>= λ it. refusal_of (items_at (at_node n) (get (codes "realizations") it.1)))
    ∷ check (codes "type of successors") (n ∷ []) (λ b. there.entry_there (codes "nodes") n b >>= λ it. refusal_of (members_at (at_node n) (get (codes "successors") it.1)))
    ∷ check (codes "its subproblem is known") (n ∷ [])
    (λ b. there.own_text n b >>= λ name. there.table_there (codes "subproblems") b >>= λ ms. refusal_of (known_at (at_node n) (position (bytes_eq name) (keys_of ms))))
    ∷ (outcome_checks bytes n
    ++ (check (codes "weights of realizations") (n ∷ []) (λ b. there.realizations_there n b >>= λ found. refusal_of (bounded_weights_at (at_node n) 0 found.weights)) ∷ transition_checks bytes n))

-- 5. each stored scenario k
unfoldable pub scenario_checks : ℕ → List (Check Refusal)
scenario_checks k =
    check (codes "type of a scenario") (k ∷ []) (λ b. there.stored b >>= λ ds. nth_item k ds >>= λ d. refusal_of (scenario_steps_at (at_scenario k) d))
    ∷ check (codes "at least one step") (k ∷ []) (λ b. there.steps_there k b >>= λ ds. refusal_of (some_at (at_scenario k) ds))
    ∷ check (codes "each step") (k ∷ []) (λ b. there.table_there (codes "nodes") b >>= λ ns. there.graph b >>= λ parts. there.steps_there k b >>= λ ds. refusal_of (path_at (keys_of ns) parts k ds))
    ∷ []

-- 6. the graph
unfoldable pub graph_checks : List (Check Refusal)
graph_checks =
    check (codes "cycles") [] (λ b. there.graph b >>= λ parts. option_map (λ m. record { kind = kinds.Cycle; place = at_node m }) (first_in_cycle (graph_of parts)))
    ∷ check (codes "nodes that are not reached") [] (λ b. there.graph b >>= λ parts. option_map (λ m. record { kind = kinds.Unreachable; place = at_node m }) (first_unreached (graph_of parts) parts.root))
    ∷ check (codes "boxes of incoming states") []
    (λ b. there.graph b >>= λ parts. option_map (λ (at : ℕ × ℕ). record { kind = kinds.BoxGap; place = place part_kinds.Node at.0 at.1 0 }) (first_gap parts (numbers (length parts.nodes))))
    ∷ []

-- 7. the base cuts
unfoldable pub base_checks : List (Check Refusal)
base_checks = check (codes "base cuts") [] (λ b. there.validated b >>= λ p. refusal_of (based_of p)) ∷ []

-- 8. for `robust` alone the weights that are listed at each node n, with each alternative i
unfoldable pub alternative_checks : ℕ → ℕ → List (Check Refusal)
alternative_checks n i =
    check (codes "alternative") (n ∷ i ∷ []) (λ b. there.lister n b >>= λ node. there.alternative n i b >>= λ d. refusal_of (alternative_at n (suc i) (length node.weights) d)) ∷ []

unfoldable pub lister_checks : List ℕ → ℕ → List (Check Refusal)
lister_checks bytes n =
    check (codes "the node is there") (n ∷ []) (λ b. there.lister n b >>= λ node. there.table_there (codes "nodes") b >>= λ ms. refusal_of (present_at whole (get_member node.name ms)))
    ∷ check (codes "type of alternatives") (n ∷ []) (λ b. there.lister_value n b >>= λ d. refusal_of (items_at (at_weight n 0 0) (get (codes "alternatives") d)))
    ∷ check (codes "count of alternatives") (n ∷ []) (λ b. there.lists n b >>= λ ds. failing (nat_le (items_len ds) 10) kinds.TooLarge (at_weight n 0 0))
    ∷ of_each (alternative_checks n) 0 (there.items_in (there.lists n bytes))

-- the checks of a problem
unfoldable pub checks : List ℕ → List (Check Refusal)
checks bytes =
    whole_checks ++ root_checks bytes ++ of_each (subproblem_checks bytes) 0 (there.entries (codes "subproblems") bytes) ++ of_each (node_checks bytes) 0 (there.entries (codes "nodes") bytes)
    ++ of_each scenario_checks 0 (there.items_in (there.stored bytes)) ++ graph_checks ++ base_checks

-- and then of the weights that it lists
unfoldable pub list_checks : List ℕ → List (Check Refusal)
list_checks bytes = of_each (lister_checks bytes) 0 (there.nodes_in (there.graph bytes))

-- the checks for a command
abbrev pub checks_of : Command → List ℕ → List (Check Refusal)
checks_of command bytes = if (traits command).lists_weights then checks bytes ++ list_checks bytes else checks bytes
