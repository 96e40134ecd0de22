-- The fields of a problem file are parts of a value with the refusals of a problem.
use Rattle.std.proofs.Common.{◌≡◌, Option, Some, None, refl}
use Rattle.serde_json.specs.Data.{unsigned, negative, float, Data, null, boolean, number, string, array, object}
use Rattle.problem.specs.declared.refusal.RefusalKind.TheVariants as kinds
use Rattle.problem.specs.declared.refusal.Place.{Place}
use Rattle.read_json.specs.Steps.{◌>>=◌}
use Rattle.read_json.specs.Values.{object_or, members_or, integer_or}
use Rattle.read_json.specs.Fields.{fault_at, whole_at, object_at}
use Rattle.read_json.specs.Limits.{limited_at, members_at}

pub whole_is : (p : Place) (d : Data) → whole_at p d ≡ (integer_or (fault_at kinds.Shape p) (fault_at kinds.NotWhole p) d >>= limited_at p)
unfolding whole_at integer_or limited_at
whole_is p null = refl
whole_is p (boolean b) = refl
whole_is p (number (unsigned n)) = refl
whole_is p (number (negative z)) = refl
whole_is p (number (float x)) = refl
whole_is p (string s) = refl
whole_is p (array ds) = refl
whole_is p (object ms) = refl

pub members_is : (p : Place) (o : Option Data) → members_at p o ≡ members_or (fault_at kinds.Shape p) o
unfolding members_at members_or object_at object_or
members_is p None = refl
members_is p (Some d) = refl
