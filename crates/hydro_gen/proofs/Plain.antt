-- A generated problem has no float, and its parts are nested in few levels.
use Rattle.std.proofs.Common.{ℕ, ◌+◌, ◌*◌, pos, [], ◌∷◌, ◌++◌, map, nat_lt}
use Rattle.std.specs.List.{flat_map}
use Rattle.serde_json.specs.Data.{Data, string}
use Rattle.base_graph.specs.Paths.{numbers}
use Rattle.hydro_form.specs.Listed.{whole_data}
use Rattle.hydro_form.specs.Stage.{term, row}
use Rattle.hydro_form.proofs.Plain as plain
use Rattle.hydro_form.proofs.Plain.{Plain, PlainList, PlainMembers, plain_whole, plain_string, none, empty, with_member, with_item, appended, mapped, flattened, listed, either, either_members, variable_plain, term_plain, row_plain, bound_plain}
use Rattle.hydro_gen.specs.Names.{generated_node_name, stage_number, kind_of}
use Rattle.hydro_gen.specs.Stage as stage
use Rattle.hydro_gen.specs.Nodes as nodes
use Rattle.hydro_gen.specs.Generated.{generated_root, problem}

three : (k : ℕ) (a b c : Data) → Plain k a → Plain k b → Plain k c → PlainList k (a ∷ b ∷ c ∷ [])
three k a b c p q r = with_item k a _ p (with_item k b _ q (with_item k c _ r (empty k)))

variables_plain : (count : ℕ) → PlainList 1 (stage.generated_variables count)
unfolding stage.generated_variables stage.reservoir_variables
variables_plain count =
    appended 1 (flat_map stage.reservoir_variables (numbers count)) _
    (flattened 1 stage.reservoir_variables (λ j. with_item 1 _ _ (variable_plain _) (with_item 1 _ _ (variable_plain _) (three 1 _ _ _ (variable_plain _) (variable_plain _) (variable_plain _)))) (numbers count))
    (three 1 _ _ _ (variable_plain _) (variable_plain _) (variable_plain _))

balance_plain : (j : ℕ) → PlainList 1 (stage.balance_terms j)
unfolding stage.balance_terms stage.from_above
balance_plain j =
    with_item 1 _ _ (term_plain _ _) (with_item 1 _ _ (term_plain _ _) (with_item 1 _ _ (term_plain _ _) (with_item 1 _ _ (term_plain _ _) (with_item 1 _ _ (term_plain _ _)
    (either 1 (nat_lt 0 j) _ (with_item 1 _ _ (term_plain _ _) (with_item 1 _ _ (term_plain _ _) (empty 1))))))))

power_plain : (count : ℕ) → PlainList 1 (stage.power_terms count)
unfolding stage.power_terms
power_plain count = appended 1 (map (λ j. term (pos 1) (stage.turbined j)) (numbers count)) _ (mapped 1 (λ j. term (pos 1) (stage.turbined j)) (λ j. term_plain _ _) (numbers count)) (three 1 _ _ _ (term_plain _ _) (term_plain _ _) (term_plain _ _))

bounds_plain : (j : ℕ) → PlainList 4 (stage.reservoir_bounds j)
unfolding stage.reservoir_bounds
bounds_plain j = with_item 4 _ _ (bound_plain _ _ _) (three 4 _ _ _ (bound_plain _ _ _) (bound_plain _ _ _) (bound_plain _ _ _))

constraints_plain : (count : ℕ) → PlainList 4 (stage.generated_constraints count)
unfolding stage.generated_constraints
constraints_plain count =
    let balances = map stage.balance (numbers count) in
    let load = row (25 * count) (stage.power_terms count) in
    let bounds = flat_map stage.reservoir_bounds (numbers count) in
    appended 4 (balances ++ load ∷ [] ++ bounds) _
    (appended 4 (balances ++ load ∷ []) bounds
    (appended 4 balances (load ∷ []) (mapped 4 stage.balance (λ j. row_plain 0 (stage.balance_terms j) (balance_plain j)) (numbers count)) (with_item 4 load [] (row_plain (25 * count) (stage.power_terms count) (power_plain count)) (empty 4)))
    (flattened 4 stage.reservoir_bounds bounds_plain (numbers count)))
    (three 4 _ _ _ (bound_plain _ _ _) (bound_plain _ _ _) (bound_plain _ _ _))

objective_plain : Plain 4 stage.generated_objective
unfolding stage.generated_objective
objective_plain = plain.least_sum_plain _ (three 1 _ _ _ (term_plain _ _) (term_plain _ _) (term_plain _ _))

program_plain : (count : ℕ) → Plain 6 (stage.generated_program count)
unfolding stage.generated_program
program_plain count = plain.program_plain (stage.generated_constraints count) stage.generated_objective (stage.generated_variables count) (constraints_plain count) objective_plain (variables_plain count)

subproblem_plain : (count : ℕ) → Plain 7 (stage.generated_subproblem count)
unfolding stage.generated_subproblem
subproblem_plain count =
    plain.subproblem_plain (stage.generated_random_variables count) (stage.generated_states count) (stage.generated_program count) (mapped 0 (λ j. string (stage.inflow_name j)) (λ j. plain_string 0 _) (numbers count))
    (listed 1 stage.reservoir_state_name stage.generated_state (λ j. plain.state_plain _ _) 0 count) (program_plain count)

-- ---- the nodes

support_plain : (word : ℕ → ℕ) (first kind count : ℕ) → PlainMembers 0 (nodes.inflow_support word first kind count)
unfolding nodes.inflow_support
support_plain word first kind count = listed 0 stage.inflow_name (λ j. whole_data (nodes.inflow kind (word (first + j)))) (λ j. plain_whole 0 _) 0 count

realization_plain : (word : ℕ → ℕ) (first kind count : ℕ) → Plain 2 (nodes.generated_realization word first kind count)
unfolding nodes.generated_realization
realization_plain word first kind count = plain.realization_plain 1 (nodes.inflow_support word first kind count) (support_plain word first kind count)

pair_plain : (i dry wet : ℕ) → PlainMembers 0 (nodes.pair i dry wet)
unfolding nodes.pair
pair_plain i dry wet = with_member 0 _ _ _ (plain_whole 0 dry) (with_member 0 _ _ _ (plain_whole 0 wet) (none 0))

successors_plain : (stages i : ℕ) → PlainMembers 0 (nodes.successors stages i)
unfolding nodes.successors
successors_plain stages i = either_members 0 (nat_lt (stage_number i) stages) _ (pair_plain _ _ _)

node_plain : (word : ℕ → ℕ) (stages count i : ℕ) → Plain 4 (nodes.generated_node word stages count i)
unfolding nodes.generated_node nodes.realizations
node_plain word stages count i =
    plain.node_plain (nodes.realizations word (i * (10 * count)) (kind_of i) count) (nodes.successors stages i)
    (mapped 2 (λ k. nodes.generated_realization word (i * (10 * count) + k * count) (kind_of i) count) (λ k. realization_plain word _ _ _) (numbers 10)) (successors_plain stages i)

nodes_plain : (word : ℕ → ℕ) (stages count : ℕ) → PlainMembers 4 (nodes.generated_nodes word stages count)
unfolding nodes.generated_nodes
nodes_plain word stages count = listed 4 generated_node_name (nodes.generated_node word stages count) (node_plain word stages count) 0 (2 * stages)

root_plain : (count : ℕ) → Plain 2 (generated_root count)
unfolding generated_root
root_plain count = plain.root_plain _ _ (listed 0 stage.reservoir_state_name (λ j. whole_data 50) (λ j. plain_whole 0 50) 0 count) (pair_plain 0 1 1)

pub problem_plain : (word : ℕ → ℕ) (stages count : ℕ) → Plain 9 (problem word stages count)
unfolding problem
problem_plain word stages count = plain.problem_plain (nodes.generated_nodes word stages count) (generated_root count) (stage.generated_subproblem count) (nodes_plain word stages count) (root_plain count) (subproblem_plain count)
