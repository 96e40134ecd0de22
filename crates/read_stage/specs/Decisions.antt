-- The variables that are decisions.
use Rattle.std.specs.Prelude.{ℕ, ◌+◌, List, [], ◌∷◌, length, Bool, true, false, Result, Ok, nat_le, if◌then◌else◌}
use Rattle.problem.specs.declared.refusal.Refusal.{Refusal}
use Rattle.problem.specs.declared.refusal.RefusalKind.TheVariants as kinds
use Rattle.problem.specs.declared.refusal.Part.TheVariants as part_kinds
use Rattle.read_json.specs.Fields.{place, refuse}
use Rattle.read_stage.specs.declared.role.Role.{Role}
use Rattle.read_stage.specs.declared.role.Role.TheVariants.{Free, Incoming, Outgoing, Random}

-- neither an incoming state nor random
abbrev pub is_decision : Role → Bool
is_decision Free = true
is_decision Incoming = false
is_decision Outgoing = true
is_decision Random = false

-- the numbers of the decisions, where the first role is that of variable v
abbrev pub decisions_from : ℕ → List Role → List ℕ
decisions_from v [] = []
decisions_from v (r ∷ rs) = if is_decision r then v ∷ decisions_from (v + 1) rs else decisions_from (v + 1) rs

-- at most 200
unfoldable pub decisions_at : ℕ → List Role → Result (List ℕ) Refusal
decisions_at p roles = if nat_le (length (decisions_from 0 roles)) 200 then Ok (decisions_from 0 roles) else refuse kinds.TooLarge (place part_kinds.Subproblem p 0 0)
