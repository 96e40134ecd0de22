-- A step that fails inside a walk over members, items or a list, as loops make it.
use Rattle.std.proofs.Common.{◌<◌, length, drop, get_or, ◌≡◌, ℕ, List, ◌∷◌, Result, string_bytes}
use Rattle.serde_json.specs.Data.{Data}
use Rattle.serde_json.specs.View.{view, members_view, items_view}
use Rattle.serde_json.specs.declared.value.Value.{Value}
use Rattle.serde_json.proofs.Views.{Entry}
use Rattle.read_json.specs.Steps.{walk_members, walk_items, walk_list}
use Rattle.read_json.proofs.Walks.{members-refused, items-refused, list-refused}
use Rattle.hydro_read.specs.declared.refusal.HydroRefusal.{HydroRefusal}
use Rattle.hydro_read.specs.declared.refusal.HydroFault.{HydroFault}
use Rattle.hydro_read.specs.declared.refusal.HydroFault.TheVariants as faults
use Rattle.hydro_read.specs.Steps.{HydroFails}

pub members-fail : {A : Type 0} (step : A → ℕ → List ℕ → Data → Result A HydroRefusal) (found : A) (i : ℕ) (e : Entry) (left es : List Entry) (total : Result A HydroRefusal) (fault : HydroFault) → es ≡ e ∷ left
    → HydroFails fault (step found i (string_bytes e.0) (view e.1)) → walk_members step found i (members_view es) ≡ total → HydroFails fault total
members-fail step found i e left es total faults.Memory is h so_far = tt
members-fail step found i e left es total (faults.Refused r) is h so_far = members-refused step found i e left es total r is h so_far

pub items-fail : {A : Type 0} (step : A → ℕ → Data → Result A HydroRefusal) (found : A) (i : ℕ) (v : Value) (vs : List Value) (total : Result A HydroRefusal) (fault : HydroFault) → i < length vs → v ≡ get_or vs i v
    → HydroFails fault (step found i (view v)) → walk_items step found i (items_view (drop i vs)) ≡ total → HydroFails fault total
items-fail step found i v vs total faults.Memory lt is h so_far = tt
items-fail step found i v vs total (faults.Refused r) lt is h so_far = items-refused step found i v vs total r lt is h so_far

pub list-fail : {A B : Type 0} (step : A → ℕ → B → Result A HydroRefusal) (found : A) (i : ℕ) (x d : B) (xs : List B) (total : Result A HydroRefusal) (fault : HydroFault) → i < length xs → x ≡ get_or xs i d
    → HydroFails fault (step found i x) → walk_list step found i (drop i xs) ≡ total → HydroFails fault total
list-fail step found i x d xs total faults.Memory lt is h so_far = tt
list-fail step found i x d xs total (faults.Refused r) lt is h so_far = list-refused step found i x d xs total r lt is h so_far
