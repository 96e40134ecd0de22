-- Steps that may refuse a description, and the contracts of code that takes them.
use Rattle.std.specs.Prelude.{◌≡◌, Result, Err}
pub use Rattle.base_num.specs.Steps.{◌>>=◌}
use Rattle.base_num.specs.Steps.{GivesOr}
unfoldable pub use Rattle.read_json.specs.Steps.{walk_members, walk_items}
use Rattle.hydro_read.specs.declared.refusal.HydroRefusal.{HydroRefusal}
use Rattle.hydro_read.specs.declared.refusal.HydroFault.{HydroFault}
use Rattle.hydro_read.specs.declared.refusal.HydroFault.TheVariants as faults

-- The meaning of a function's error: the refusal that the definition gives, or that memory ran out.
abbrev pub HydroFails : {Y : Type 0} → HydroFault → Result Y HydroRefusal → Type 0
HydroFails (faults.Refused r) read = read ≡ Err r
HydroFails faults.Memory read = Unit {0}

-- A function gives what the definition reads: its answer, seen by view, is equal to it, unless memory ran out.
abbrev pub HydroGives : {X Y : Type 0} → (X → Y) → Result X HydroFault → Result Y HydroRefusal → Type 0
HydroGives view result read = GivesOr HydroFails view result read
