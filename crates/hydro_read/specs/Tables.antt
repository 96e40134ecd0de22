-- The tables of a description.
use Rattle.std.specs.Prelude.{◌&&◌, Result, Ok, ⊤, nat_le, nat_lt, codes, if◌then◌else◌}
use Rattle.serde_json.specs.Data.{Data, Items, Members}
use Rattle.serde_json.specs.Events.{items_len, members_len}
use Rattle.serde_json.specs.Find.{get}
use Rattle.hydro_read.specs.declared.refusal.HydroRefusal.{HydroRefusal}
use Rattle.hydro_read.specs.declared.refusal.HydroKind.TheVariants as kinds
use Rattle.hydro_read.specs.Steps.{◌>>=◌}
use Rattle.hydro_read.specs.Fields.{hydro_whole, hydro_refuse, hydro_object_at, hydro_table_at, hydro_items_at, hydro_members_at}

pub record HydroTables : Type 0 where
  pub buses : Members
  pub reservoirs : Members
  pub thermals : Members
  pub lines : Members
  pub stages : Items

-- 1 to 20 buses, at most 20 reservoirs, 40 thermals and 40 lines, and 1 to 100 stages
unfoldable pub hydro_counts_at : HydroTables → Result ⊤ HydroRefusal
hydro_counts_at t =
    if nat_lt 0 (members_len t.buses) && nat_le (members_len t.buses) 20 && nat_le (members_len t.reservoirs) 20 && nat_le (members_len t.thermals) 40 && nat_le (members_len t.lines) 40
    && nat_lt 0 (items_len t.stages) && nat_le (items_len t.stages) 100
    then Ok tt else hydro_refuse kinds.Limit hydro_whole

-- the tables, before their counts are looked at
unfoldable pub parts_at : Data → Result HydroTables HydroRefusal
parts_at d = do
  all ← hydro_object_at hydro_whole d
  buses ← hydro_table_at hydro_whole (get (codes "buses") d)
  reservoirs ← hydro_members_at hydro_whole (get (codes "reservoirs") d)
  thermals ← hydro_members_at hydro_whole (get (codes "thermals") d)
  lines ← hydro_members_at hydro_whole (get (codes "lines") d)
  stages ← hydro_items_at hydro_whole (get (codes "stages") d)
  Ok (record { buses = buses; reservoirs = reservoirs; thermals = thermals; lines = lines; stages = stages })

unfoldable pub hydro_tables_at : Data → Result HydroTables HydroRefusal
hydro_tables_at d = do
  tables ← parts_at d
  counted ← hydro_counts_at tables
  Ok tables
