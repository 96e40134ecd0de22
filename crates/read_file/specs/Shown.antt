-- The definitions' tables for which the code's tables of a problem file stand.
use Rattle.serde_json.specs.View.{members_view, items_view}
use Rattle.read_file.specs.declared.tables.Tables.{Tables}
use Rattle.read_file.specs.Tables as tables

abbrev pub shown_tables : Tables → tables.Tables
shown_tables f = record {
  root = members_view f.root.now.entries;
  nodes = members_view f.nodes.now.entries;
  subproblems = members_view f.subproblems.now.entries;
  scenarios = items_view f.scenarios.now;
}
