-- The tables of a problem file.
use Rattle.std.specs.Prelude.{ℕ, List, ◌&&◌, Result, Ok, ⊤, nat_le, codes, if◌then◌else◌}
use Rattle.serde_json.specs.Data.{Data, Items, Members}
use Rattle.serde_json.specs.Events.{items_len, members_len}
use Rattle.serde_json.specs.Find.{get}
use Rattle.problem.specs.declared.refusal.Refusal.{Refusal}
use Rattle.problem.specs.declared.refusal.RefusalKind.TheVariants as kinds
use Rattle.read_json.specs.Steps.{◌>>=◌}
use Rattle.read_json.specs.Fields.{whole, refuse, present_at, object_at}
use Rattle.read_json.specs.Limits.{items_at}
use Rattle.read_file.specs.Version.{version_at}

pub record Tables : Type 0 where
  pub root : Members
  pub nodes : Members
  pub subproblems : Members
  pub scenarios : Items

-- the object under a key of the whole
unfoldable pub table_at : List ℕ → Data → Result Members Refusal
table_at k d = do
  inner ← present_at whole (get k d)
  object_at whole inner

-- at most 1000 nodes, subproblems and scenarios
unfoldable pub sizes_at : Members → Members → Items → Result ⊤ Refusal
sizes_at nodes subproblems scenarios = if nat_le (members_len nodes) 1000 && (nat_le (members_len subproblems) 1000 && nat_le (items_len scenarios) 1000) then Ok tt else refuse kinds.TooLarge whole

unfoldable pub tables_at : Data → Result Tables Refusal
tables_at d = do
  all ← object_at whole d
  version ← version_at d
  root ← table_at (codes "root") d
  nodes ← table_at (codes "nodes") d
  subproblems ← table_at (codes "subproblems") d
  scenarios ← items_at whole (get (codes "validation_scenarios") d)
  sizes ← sizes_at nodes subproblems scenarios
  Ok (record { root = root; nodes = nodes; subproblems = subproblems; scenarios = scenarios })
