-- The nodes: at each stage a dry one and a wet one.
use Rattle.std.specs.Prelude.{ℕ, ◌+◌, ◌*◌, ◌%◌, ◌==◌, List, map, nat_lt, if◌then◌else◌}
use Rattle.serde_json.specs.Data.{Data, Members, no_members, member}
use Rattle.base_graph.specs.Paths.{numbers}
use Rattle.hydro_gen.specs.Names.{generated_node_name, stage_number, kind_of}
use Rattle.hydro_form.specs.Listed.{members_from, whole_data}
use Rattle.hydro_form.specs.Nodes.{realization_form, node_form}
use Rattle.hydro_gen.specs.Stage.{inflow_name}

-- the inflow of a dry node, and of a wet one, that a word gives
unfoldable pub inflow : ℕ → ℕ → ℕ
inflow kind word = if kind == 0 then word % 11 else 10 + word % 21

-- one inflow per reservoir, from the words at `first` on
unfoldable pub inflow_support : (ℕ → ℕ) → ℕ → ℕ → ℕ → Members
inflow_support word first kind count = members_from inflow_name (λ j. whole_data (inflow kind (word (first + j)))) 0 count

unfoldable pub generated_realization : (ℕ → ℕ) → ℕ → ℕ → ℕ → Data
generated_realization word first kind count = realization_form 1 (inflow_support word first kind count)

-- ten realizations, one after another
unfoldable pub realizations : (ℕ → ℕ) → ℕ → ℕ → ℕ → List Data
realizations word first kind count = map (λ k. generated_realization word (first + k * count) kind count) (numbers 10)

-- a node of one kind is followed three times as often by one of the same kind as by one of the other
abbrev pub kind_weight : ℕ → ℕ → ℕ
kind_weight kind next = if kind == next then 3 else 1

-- the nodes i and i + 1, with these weights
unfoldable pub pair : ℕ → ℕ → ℕ → Members
pair i dry wet = member (generated_node_name i) (whole_data dry) (member (generated_node_name (i + 1)) (whole_data wet) no_members)

-- both nodes of the next stage, which begins with the node 2 * stage_of i; none after the last stage
unfoldable pub successors : ℕ → ℕ → Members
successors stages i = if nat_lt (stage_number i) stages then pair (2 * stage_number i) (kind_weight (kind_of i) 0) (kind_weight (kind_of i) 1) else no_members

-- the node i. The nodes before it take ten words per reservoir each.
unfoldable pub generated_node : (ℕ → ℕ) → ℕ → ℕ → ℕ → Data
generated_node word stages count i = node_form (realizations word (i * (10 * count)) (kind_of i) count) (successors stages i)

unfoldable pub generated_nodes : (ℕ → ℕ) → ℕ → ℕ → Members
generated_nodes word stages count = members_from generated_node_name (generated_node word stages count) 0 (2 * stages)
