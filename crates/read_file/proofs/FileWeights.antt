-- The reader finds the weights that stand in the document.
use Rattle.std.proofs.Common.{◌≡◌, ℤ, pos, false, Some, Ok, int_lt, unsigned_abs, refl, subst, arith}
use Rattle.std.proofs.lemmas.Int.{ints}
use Rattle.serde_json.specs.Data.{Data}
use Rattle.problem.specs.declared.refusal.RefusalKind.TheVariants as kinds
use Rattle.problem.specs.declared.refusal.Place.{Place}
use Rattle.read_json.specs.Fields.{whole_at, weight_at}
use Rattle.read_json.proofs.Accepted.{Ok-is, unless-Ok, then-Ok}
use Rattle.read_profile.specs.File.{whole_number, natural}
use Rattle.read_stage.proofs.FileSays.{whole_number-says}

-- a whole number that is not negative
pub natural-says : (d : Data) (z : ℤ) → whole_number d ≡ Some z → int_lt z (pos 0) ≡ false → natural d ≡ Some (unsigned_abs z)
natural-says d z is above = rw (is, above) refl

pub weight-says : (p : Place) (d : Data) (w : ℤ) → weight_at p d ≡ Ok w → natural d ≡ Some (unsigned_abs w)
unfolding weight_at
weight-says p d w e =
    then-Ok (whole_at _ _) _ w e (λ z is e.
    let parts = unless-Ok (int_lt z (pos 1)) (Ok z) kinds.Weight p w e in
    let above : int_lt z (pos 0) ≡ false = grind (arith, ints, parts.0) in
    subst (λ w. natural d ≡ Some (unsigned_abs w)) (Ok-is z w parts.1) (natural-says d z (whole_number-says p d z is) above))
