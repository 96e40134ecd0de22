-- The parts of a problem from the bytes of its file.
use Rattle.std.specs.Prelude.{ℕ, List, [], Result, Ok}
use Rattle.problem.specs.declared.parts.ProblemParts.{ProblemParts}
use Rattle.problem.specs.declared.refusal.Refusal.{Refusal}
use Rattle.read_json.specs.Steps.{◌>>=◌}
use Rattle.read_json.specs.Fields.{keys_of, json_at}
use Rattle.read_file.specs.Nodes.{nodes_at}
use Rattle.read_file.specs.Root.{root_at}
use Rattle.read_file.specs.Scenarios.{scenarios_at}
use Rattle.read_file.specs.Subproblems.{subproblems_at}
use Rattle.read_file.specs.Tables.{Tables, tables_at}

-- the root, the subproblems and the nodes, where names are those of the nodes
unfoldable pub graph_at : List (List ℕ) → Tables → Result ProblemParts Refusal
graph_at names tables = do
  start ← root_at names tables.root
  subproblems ← subproblems_at start.states tables.subproblems
  nodes ← nodes_at names subproblems tables.nodes
  Ok (record { states = start.states; root = start.nodes; root_weights = start.weights; nodes = nodes; subs = subproblems.subs; scenarios = [] })

unfoldable pub problem_parts_of : List ℕ → Result ProblemParts Refusal
problem_parts_of bytes = do
  d ← json_at bytes
  tables ← tables_at d
  graph ← graph_at (keys_of tables.nodes) tables
  scenarios ← scenarios_at (keys_of tables.nodes) graph tables.scenarios
  Ok (record graph { scenarios = scenarios })
