-- The tables of a description have their keys in rising order.
use Rattle.std.proofs.Common.{◌≡◌, ℕ, List, Ok}
use Rattle.serde_json.specs.Data.{Data, Members}
use Rattle.serde_json.specs.Find.{get}
use Rattle.read_json.specs.Values.{spelled, present_or}
use Rattle.read_json.proofs.Rising.{Rising, RisingMembers, spelled-rising, present-rising, object_or-rising, members_or-rising, get-rising}
use Rattle.hydro_read.specs.declared.refusal.HydroKind.TheVariants as kinds
use Rattle.hydro_read.specs.declared.place.HydroPlace.{HydroPlace}
use Rattle.hydro_read.specs.Fields.{hydro_whole, fault_at, hydro_json_at, hydro_present_at, hydro_object_at, hydro_table_at, hydro_members_at}
use Rattle.hydro_read.proofs.Accepted.{then-Ok}

pub hydro_json_at-Rising : (bytes : List ℕ) (d : Data) → hydro_json_at bytes ≡ Ok d → Rising d
unfolding hydro_json_at
hydro_json_at-Rising bytes d e = present-rising Rising (fault_at kinds.NotJson hydro_whole) (spelled bytes) d (spelled-rising bytes) e

pub hydro_table_at-Rising : (p : HydroPlace) (k : List ℕ) (d : Data) (ms : Members) → Rising d → hydro_table_at p (get k d) ≡ Ok ms → RisingMembers ms
unfolding hydro_table_at hydro_present_at present_or hydro_object_at
hydro_table_at-Rising p k d ms r e =
    let shape = fault_at kinds.Shape p in
    then-Ok (hydro_present_at p (get k d)) _ ms e (λ inner is e. object_or-rising shape inner ms (present-rising Rising shape (get k d) inner (get-rising k d r) is) e)

pub hydro_members_at-Rising : (p : HydroPlace) (k : List ℕ) (d : Data) (ms : Members) → Rising d → hydro_members_at p (get k d) ≡ Ok ms → RisingMembers ms
unfolding hydro_members_at
hydro_members_at-Rising p k d ms r e = members_or-rising (fault_at kinds.Shape p) (get k d) ms (get-rising k d r) e
