-- A description of plants from its bytes.
use Rattle.std.specs.Prelude.{ℕ, List, Result, Ok}
use Rattle.serde_json.specs.Data.{Data}
use Rattle.read_json.specs.Fields.{keys_of}
use Rattle.hydro_read.specs.declared.refusal.HydroRefusal.{HydroRefusal}
use Rattle.hydro_read.specs.declared.plants.Plants.{Plants}
use Rattle.hydro_read.specs.Steps.{◌>>=◌}
use Rattle.hydro_read.specs.Fields.{hydro_json_at}
use Rattle.hydro_read.specs.Tables.{HydroTables, hydro_tables_at}
use Rattle.hydro_read.specs.Grid.{buses_at, reservoirs_at, thermals_at, lines_at, state_count_at}
use Rattle.hydro_read.specs.Stages.{stages_at}

-- the description that the tables hold, where buses and reservoirs are the names of all
unfoldable pub described_at : List (List ℕ) → List (List ℕ) → HydroTables → Result Plants HydroRefusal
described_at bus_names reservoir_names tables = do
  buses ← buses_at tables.buses
  reservoirs ← reservoirs_at bus_names tables.reservoirs reservoir_names
  thermals ← thermals_at bus_names tables.thermals
  lines ← lines_at bus_names tables.lines
  states ← state_count_at reservoirs
  stages ← stages_at bus_names reservoir_names tables.stages
  Ok (record { buses = buses; reservoirs = reservoirs; thermals = thermals; lines = lines; stages = stages })

-- the description that a JSON value gives
unfoldable pub plants_of : Data → Result Plants HydroRefusal
plants_of d = do
  tables ← hydro_tables_at d
  described_at (keys_of tables.buses) (keys_of tables.reservoirs) tables

-- the description that the bytes give, or the first refusal
unfoldable pub plants_at : List ℕ → Result Plants HydroRefusal
plants_at bytes = do
  d ← hydro_json_at bytes
  plants_of d
