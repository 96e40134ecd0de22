-- The reader finds in a document the parts that stand there.
use Rattle.std.proofs.Common.{◌≡◌, ℕ, ◌^◌, ℤ, pos, List, Bool, true, false, Option, Some, None, Result, Ok, nat_le, unsigned_abs, if◌then◌else◌, ap}
use Rattle.serde_json.specs.Data.{unsigned, negative, float, Data, null, boolean, number, string, array, object, Items, no_items, Members, no_members}
use Rattle.serde_json.specs.Find.{as_str, as_array, as_object}
use Rattle.problem.specs.declared.refusal.Refusal.{Refusal}
use Rattle.problem.specs.declared.refusal.RefusalKind.TheVariants as kinds
use Rattle.problem.specs.declared.refusal.Place.{Place}
use Rattle.read_json.specs.Fields.{present_at, whole_at, string_at, array_at, object_at}
use Rattle.read_json.specs.Limits.{members_at, items_at}
use Rattle.read_json.proofs.Accepted.{Ok-is, test-Ok}
use Rattle.read_profile.specs.File.{whole_number, or_absent}
use Rattle.read_stage.specs.Function.{constant_at}

pub present-says : {A : Type 0} (p : Place) (o : Option A) (x : A) → present_at p o ≡ Ok x → o ≡ Some x
unfolding present_at
present-says p None x e = cc
present-says p (Some y) x e = ap Some (Ok-is y x e)

pub whole_number-says : (p : Place) (d : Data) (z : ℤ) → whole_at p d ≡ Ok z → whole_number d ≡ Some z
unfolding whole_at
whole_number-says p null z e = cc
whole_number-says p (boolean b) z e = cc
whole_number-says p (number (unsigned n)) z e = ap Some (Ok-is (pos n) z (test-Ok (nat_le n (2 ^ 40)) (Ok (pos n)) kinds.TooLarge p z e).1)
whole_number-says p (number (negative x)) z e = ap Some (Ok-is x z (test-Ok (nat_le (unsigned_abs x) (2 ^ 40)) (Ok x) kinds.TooLarge p z e).1)
whole_number-says p (number (float x)) z e = cc
whole_number-says p (string s) z e = cc
whole_number-says p (array ds) z e = cc
whole_number-says p (object ms) z e = cc

pub string-says : (p : Place) (d : Data) (s : List ℕ) → string_at p d ≡ Ok s → as_str d ≡ Some s
unfolding string_at
string-says p null s e = cc
string-says p (boolean b) s e = cc
string-says p (number n) s e = cc
string-says p (string t) s e = ap Some (Ok-is t s e)
string-says p (array ds) s e = cc
string-says p (object ms) s e = cc

pub array-says : (p : Place) (d : Data) (ds : Items) → array_at p d ≡ Ok ds → as_array d ≡ Some ds
unfolding array_at
array-says p null ds e = cc
array-says p (boolean b) ds e = cc
array-says p (number n) ds e = cc
array-says p (string t) ds e = cc
array-says p (array es) ds e = ap Some (Ok-is es ds e)
array-says p (object ms) ds e = cc

pub object-says : (p : Place) (d : Data) (ms : Members) → object_at p d ≡ Ok ms → as_object d ≡ Some ms
unfolding object_at
object-says p null ms e = cc
object-says p (boolean b) ms e = cc
object-says p (number n) ms e = cc
object-says p (string t) ms e = cc
object-says p (array es) ms e = cc
object-says p (object ns) ms e = ap Some (Ok-is ns ms e)

-- members that may be absent
pub members-say : (p : Place) (o : Option Data) (ms : Members) → members_at p o ≡ Ok ms → or_absent no_members as_object o ≡ Some ms
unfolding members_at
members-say p None ms e = ap Some (Ok-is no_members ms e)
members-say p (Some d) ms e = object-says p d ms e

pub items-say : (p : Place) (o : Option Data) (ds : Items) → items_at p o ≡ Ok ds → or_absent no_items as_array o ≡ Some ds
unfolding items_at
items-say p None ds e = ap Some (Ok-is no_items ds e)
items-say p (Some d) ds e = array-says p d ds e

pub constant-says : (p : Place) (o : Option Data) (z : ℤ) → constant_at p o ≡ Ok z → or_absent (pos 0) whole_number o ≡ Some z
unfolding constant_at
constant-says p None z e = ap Some (Ok-is (pos 0) z e)
constant-says p (Some d) z e = whole_number-says p d z e

-- a statement after a test, where both ways state it
pub chosen : {A B : Type 0} (G : Option A → Type 0) (b : Bool) (r s : Result B Refusal) (y : B) (o p : Option A) → (if b then r else s) ≡ Ok y → (r ≡ Ok y → G o) → (s ≡ Ok y → G p) → G (if b then o else p)
chosen G true r s y o p e one other = one e
chosen G false r s y o p e one other = other e
