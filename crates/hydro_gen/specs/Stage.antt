-- The subproblem of each stage: a chain of reservoirs that serves a load together with three sources of power.
use Rattle.std.specs.Prelude.{ℕ, ◌-◌, ◌*◌, pos, negsuc, List, [], ◌∷◌, ◌++◌, map, codes, nat_lt, if◌then◌else◌}
use Rattle.std.specs.List.{flat_map}
use Rattle.serde_json.specs.Data.{Data, string, Members}
use Rattle.base_graph.specs.Paths.{numbers}
use Rattle.hydro_gen.specs.Names.{reservoir_name}
use Rattle.hydro_form.specs.Listed.{members_from}
use Rattle.hydro_form.specs.Stage.{variable, term, row, variable_bound, least_sum, state_between, program_form, subproblem_form}

-- ---- variables: of each reservoir the volumes before and after, inflow, turbined water and spill; then three sources of power

abbrev pub incoming_name : ℕ → List ℕ
incoming_name j = reservoir_name (codes "i") j

abbrev pub inflow_name : ℕ → List ℕ
inflow_name j = reservoir_name (codes "w") j

abbrev pub outgoing : ℕ → List ℕ
outgoing j = reservoir_name (codes "o") j

abbrev pub turbined : ℕ → List ℕ
turbined j = reservoir_name (codes "q") j

abbrev pub spilled : ℕ → List ℕ
spilled j = reservoir_name (codes "z") j

abbrev pub reservoir_state_name : ℕ → List ℕ
reservoir_state_name j = reservoir_name (codes "v") j

unfoldable pub reservoir_variables : ℕ → List Data
reservoir_variables j = variable (incoming_name j) ∷ variable (inflow_name j) ∷ variable (outgoing j) ∷ variable (turbined j) ∷ variable (spilled j) ∷ []

unfoldable pub generated_variables : ℕ → List Data
generated_variables count = flat_map reservoir_variables (numbers count) ++ variable (codes "g") ∷ variable (codes "h") ∷ variable (codes "k") ∷ []

-- ---- constraints

-- the water that the reservoir above lets down; there is none above the first
unfoldable pub from_above : ℕ → List Data
from_above j = if nat_lt 0 j then term (negsuc 0) (turbined (j - 1)) ∷ term (negsuc 0) (spilled (j - 1)) ∷ [] else []

-- the water of the reservoir j: the volume after, turbined and spilled water, less the volume before, the inflow and the water from above
unfoldable pub balance_terms : ℕ → List Data
balance_terms j =
    term (pos 1) (outgoing j) ∷ term (pos 1) (turbined j) ∷ term (pos 1) (spilled j) ∷ term (negsuc 0) (incoming_name j) ∷ term (negsuc 0) (inflow_name j) ∷ [] ++ from_above j

abbrev pub balance : ℕ → Data
balance j = row 0 (balance_terms j)

-- all power
unfoldable pub power_terms : ℕ → List Data
power_terms count = map (λ j. term (pos 1) (turbined j)) (numbers count) ++ term (pos 1) (codes "g") ∷ term (pos 1) (codes "h") ∷ term (pos 1) (codes "k") ∷ []

-- the load is 25 for each reservoir
abbrev pub load : ℕ → Data
load count = row (25 * count) (power_terms count)

unfoldable pub reservoir_bounds : ℕ → List Data
reservoir_bounds j = variable_bound (incoming_name j) (pos 0) (pos 100) ∷ variable_bound (outgoing j) (pos 0) (pos 100) ∷ variable_bound (turbined j) (pos 0) (pos 30) ∷ variable_bound (spilled j) (pos 0) (pos 10000) ∷ []

unfoldable pub generated_constraints : ℕ → List Data
generated_constraints count =
    map balance (numbers count) ++ load count ∷ [] ++ flat_map reservoir_bounds (numbers count)
    ++ variable_bound (codes "g") (pos 0) (pos (10 * count)) ∷ variable_bound (codes "h") (pos 0) (pos (10 * count)) ∷ variable_bound (codes "k") (pos 0) (pos (40 * count)) ∷ []

-- ---- objective, states and random variables

unfoldable pub generated_objective : Data
generated_objective = least_sum (term (pos 5) (codes "g") ∷ term (pos 20) (codes "h") ∷ term (pos 200) (codes "k") ∷ [])

abbrev pub generated_state : ℕ → Data
generated_state j = state_between (incoming_name j) (outgoing j)

abbrev pub generated_states : ℕ → Members
generated_states count = members_from reservoir_state_name generated_state 0 count

abbrev pub generated_random_variables : ℕ → List Data
generated_random_variables count = map (λ j. string (inflow_name j)) (numbers count)

unfoldable pub generated_program : ℕ → Data
generated_program count = program_form (generated_constraints count) generated_objective (generated_variables count)

unfoldable pub generated_subproblem : ℕ → Data
generated_subproblem count = subproblem_form (generated_random_variables count) (generated_states count) (generated_program count)
