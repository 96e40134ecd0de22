-- The parts of a stage.
use Rattle.std.specs.Prelude.{ℕ, List, Result, Ok, codes}
use Rattle.serde_json.specs.Data.{Data, Items, Members}
use Rattle.serde_json.specs.Find.{get}
use Rattle.problem.specs.declared.refusal.Refusal.{Refusal}
use Rattle.problem.specs.declared.refusal.Place.{Place}
use Rattle.read_json.specs.Steps.{◌>>=◌}
use Rattle.read_json.specs.Fields.{present_at, object_at, array_at}
use Rattle.read_json.specs.Limits.{members_at, items_at}

pub record StageParts : Type 0 where
  pub states : Members
  pub randoms : Items
  pub variables : Items
  pub objective : Data
  pub constraints : Items

-- the array under a key
unfoldable pub array_under : Place → List ℕ → Data → Result Items Refusal
array_under at key d = do
  inner ← present_at at (get key d)
  array_at at inner

-- the object under a key, as a value
unfoldable pub object_under : Place → List ℕ → Data → Result Data Refusal
object_under at key d = do
  inner ← present_at at (get key d)
  members ← object_at at inner
  Ok inner

unfoldable pub stage_parts_at : Place → Data → Result StageParts Refusal
stage_parts_at at d = do
  states ← members_at at (get (codes "state_variables") d)
  randoms ← items_at at (get (codes "random_variables") d)
  inner ← object_under at (codes "subproblem") d
  variables ← array_under at (codes "variables") inner
  objective ← object_under at (codes "objective") inner
  constraints ← array_under at (codes "constraints") inner
  Ok (record { states = states; randoms = randoms; variables = variables; objective = objective; constraints = constraints })
