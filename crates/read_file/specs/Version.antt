-- The version of the format.
use Rattle.std.specs.Prelude.{ℕ, Bool, false, Option, Some, None, Result, Ok, ⊤, option_and_then, ◌==◌, codes, if◌then◌else◌}
use Rattle.serde_json.specs.Data.{Data}
use Rattle.serde_json.specs.Find.{get, as_number, as_u64}
use Rattle.problem.specs.declared.refusal.Refusal.{Refusal}
use Rattle.problem.specs.declared.refusal.RefusalKind.TheVariants as kinds
use Rattle.read_json.specs.Fields.{whole, refuse}

abbrev pub is_one : Option ℕ → Bool
is_one None = false
is_one (Some n) = n == 1

-- `major` of `version`, where it is a natural number
abbrev pub major_of : Data → Option ℕ
major_of d = option_and_then (λ m. option_and_then as_u64 (as_number m)) (option_and_then (get (codes "major")) (get (codes "version") d))

unfoldable pub version_at : Data → Result ⊤ Refusal
version_at d = if is_one (major_of d) then Ok tt else refuse kinds.Version whole
