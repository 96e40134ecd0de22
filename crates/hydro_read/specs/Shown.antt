-- The definitions' tables for which the code's tables of a description stand.
use Rattle.serde_json.specs.View.{members_view, items_view}
use Rattle.hydro_read.specs.declared.tables.HydroTables.{HydroTables}
use Rattle.hydro_read.specs.Tables as tables

abbrev pub shown_hydro_tables : HydroTables → tables.HydroTables
shown_hydro_tables f = record {
  buses = members_view f.buses.now.entries;
  reservoirs = members_view f.reservoirs.now.entries;
  thermals = members_view f.thermals.now.entries;
  lines = members_view f.lines.now.entries;
  stages = items_view f.stages.now;
}
