-- The JSON value, or the refusal, that a text's bytes give.
use Rattle.std.proofs.Common.{◌≡◌, ℕ, List, Bool, true, false, Option, Some, None, if◌then◌else◌, ok_or, refl}
use Rattle.std.specs.Str.{IsUtf8, is_utf8}
use Rattle.std.proofs.lemmas.Str.{IsUtf8-from_is_utf8, is_utf8-from_IsUtf8}
use Rattle.serde_json.specs.Data.{Data}
use Rattle.serde_json.specs.Read.{read}
use Rattle.problem.specs.declared.refusal.RefusalKind.TheVariants as kinds
use Rattle.read_json.specs.Fields.{json_at, json_or, fault_at, refuse, whole}
use Rattle.read_json.specs.Values.{spelled}

not_utf8 : (bytes : List ℕ) (b : Bool) → is_utf8 bytes ≡ b → ¬ (IsUtf8 bytes) → b ≡ false
not_utf8 bytes true e h = absurd (h (IsUtf8-from_is_utf8 bytes e))
not_utf8 bytes false e h = refl

pub spelled-none : (bytes : List ℕ) → ¬ (IsUtf8 bytes) → spelled bytes ≡ None
unfolding spelled
spelled-none bytes h = rw (not_utf8 bytes (is_utf8 bytes) refl h)

pub spelled-read : (bytes : List ℕ) → IsUtf8 bytes → spelled bytes ≡ read bytes
unfolding spelled
spelled-read bytes h = rw (is_utf8-from_IsUtf8 bytes h)

value_or : (b : Bool) (o : Option Data) → (if b then json_or o else refuse kinds.NotJson whole) ≡ ok_or (if b then o else None) (fault_at kinds.NotJson whole)
value_or true None = refl
value_or true (Some d) = refl
value_or false o = refl

-- a value that is spelled, or else NotJson at the whole
pub json_is : (bytes : List ℕ) → json_at bytes ≡ ok_or (spelled bytes) (fault_at kinds.NotJson whole)
unfolding json_at spelled
json_is bytes = value_or (is_utf8 bytes) (read bytes)
