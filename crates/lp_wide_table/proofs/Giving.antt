-- Steps that give a value.
use Rattle.std.proofs.Common.{◌≡◌, Bool, true, false, Option, Some}
use Rattle.lp_table.specs.Updates.{GivesNew}

pub gives_true : {A : Type 0} (made : Bool) (o : Option A) (x : A) → made ≡ true → GivesNew made o x → o ≡ Some x
gives_true true o x e g = g
gives_true false o x e g = absurd (cc)
