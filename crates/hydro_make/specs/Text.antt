-- The text of the problem that is made from a hydro description.
use Rattle.std.specs.Prelude.{ℕ, List, [], ◌∷◌, ◌++◌, Result, Ok}
use Rattle.serde_json.specs.Data.{Data, Members}
use Rattle.serde_json.specs.Written.{compact_text}
use Rattle.hydro_form.specs.Listed.{members_by, integer}
use Rattle.hydro_form.specs.Nodes.{root_of, problem_form}
use Rattle.hydro_read.specs.declared.plants.Plants.{Plants}
use Rattle.hydro_read.specs.declared.refusal.HydroRefusal.{HydroRefusal}
use Rattle.hydro_read.specs.Plants.{plants_at}
use Rattle.hydro_read.specs.Steps.{◌>>=◌}
use Rattle.hydro_make.specs.Layout.{stores, store_initial}
use Rattle.hydro_make.specs.Columns.{state_name}
use Rattle.hydro_make.specs.Stage.{subproblem}
use Rattle.hydro_make.specs.Nodes.{successor_to, nodes}

unfoldable pub hydro_initial_values : Plants → Members
hydro_initial_values h = members_by (state_name h) (λ s. integer (store_initial h s)) (stores h)

-- the horizon begins with the first stage
unfoldable pub hydro_root : Plants → Data
hydro_root h = root_of (hydro_initial_values h) (successor_to h 0)

unfoldable pub hydro_data : Plants → Data
hydro_data h = problem_form (nodes h) (hydro_root h) (subproblem h)

-- the compact text of the problem, and a newline
unfoldable pub hydro_text : Plants → List ℕ
hydro_text h = compact_text (hydro_data h) ++ 10 ∷ []

-- the text that the bytes of a description give, or the first refusal
unfoldable pub hydro_at : List ℕ → Result (List ℕ) HydroRefusal
hydro_at bytes = do
  h ← plants_at bytes
  Ok (hydro_text h)
