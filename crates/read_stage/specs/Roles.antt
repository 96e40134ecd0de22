-- The roles of a subproblem's variables.
use Rattle.std.specs.Prelude.{ℕ, List, [], replicate, slice_get, slice_set, Option, Some, None, Bool, true, false, Result, Ok, if◌then◌else◌}
use Rattle.problem.specs.declared.refusal.Refusal.{Refusal}
use Rattle.problem.specs.declared.refusal.RefusalKind.TheVariants as kinds
use Rattle.problem.specs.declared.refusal.Place.{Place}
use Rattle.read_json.specs.Fields.{refuse}
use Rattle.read_stage.specs.declared.role.Role.{Role}
use Rattle.read_stage.specs.declared.role.Role.TheVariants.{Free, Incoming, Outgoing, Random}
use Rattle.read_stage.specs.declared.role.Uses.{Uses}

abbrev pub is_free : Option Role → Bool
is_free None = false
is_free (Some Free) = true
is_free (Some Incoming) = false
is_free (Some Outgoing) = false
is_free (Some Random) = false

abbrev pub is_random : Option Role → Bool
is_random None = false
is_random (Some Free) = false
is_random (Some Incoming) = false
is_random (Some Outgoing) = false
is_random (Some Random) = true

-- the variable v gets the role, unless it has one
unfoldable pub taken_at : Place → List Role → ℕ → Role → Result (List Role) Refusal
taken_at at roles v role = if is_free (slice_get roles v) then Ok (slice_set roles v role) else refuse kinds.Duplicate at

-- n variables, none of which is used
abbrev pub unused : ℕ → Uses
unused n = record { roles = replicate n Free; incoming = []; outgoing = []; randoms = []; names = [] }
