-- The text of a generated problem.
use Rattle.std.specs.Prelude.{ℕ, ◌^◌, List, [], ◌∷◌, ◌++◌}
use Rattle.serde_json.specs.Data.{Data, Members}
use Rattle.serde_json.specs.Written.{compact_text}
use Rattle.plan_draw.specs.Drawn.{stream_of, word_in}
use Rattle.hydro_form.specs.Listed.{members_from, whole_data}
use Rattle.hydro_form.specs.Nodes.{root_of, problem_form}
use Rattle.hydro_gen.specs.Stage.{reservoir_state_name, generated_subproblem}
use Rattle.hydro_gen.specs.Nodes.{pair, generated_nodes}

-- each reservoir begins with 50
abbrev pub generated_initial_values : ℕ → Members
generated_initial_values count = members_from reservoir_state_name (λ j. whole_data 50) 0 count

-- the horizon begins dry as often as wet
abbrev pub first_nodes : Members
first_nodes = pair 0 1 1

unfoldable pub generated_root : ℕ → Data
generated_root count = root_of (generated_initial_values count) first_nodes

-- the problem of so many stages and reservoirs whose inflows come from these words
unfoldable pub problem : (ℕ → ℕ) → ℕ → ℕ → Data
problem word stages count = problem_form (generated_nodes word stages count) (generated_root count) (generated_subproblem count)

-- the words of a seed: the stream 2^33 of ChaCha20
abbrev pub words : ℕ → ℕ → ℕ
words seed = word_in (stream_of seed (2 ^ 33))

-- the compact text of the problem, and a newline
unfoldable pub generated : ℕ → ℕ → ℕ → List ℕ
generated seed stages count = compact_text (problem (words seed) stages count) ++ 10 ∷ []
