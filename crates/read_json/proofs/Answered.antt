-- Facts that follow from an Ok, about the steps before it and about the number that was read.
use Rattle.std.proofs.Common.{◌≡◌, ◌≤◌, ◌^◌, ℕ, ℤ, pos, Bool, true, false, cond, Result, Ok, Err, unsigned_abs, nat_le, refl, subst}
use Rattle.std.proofs.lemmas.Bool.{leb-true}
use Rattle.serde_json.specs.Data.{unsigned, negative, float, Data, null, boolean, number, string, array, object}
use Rattle.problem.specs.declared.refusal.RefusalKind.TheVariants as kinds
use Rattle.problem.specs.declared.refusal.Place.{Place}
use Rattle.read_json.specs.Steps.{◌>>=◌}
use Rattle.read_json.specs.Fields.{whole_at, refuse}
use Rattle.read_json.specs.Limits.{limited_at}

pub step-Ok : {A B E : Type 0} (r : Result A E) (f : A → Result B E) (y : B) → (r >>= f) ≡ Ok y → (x : A) × (r ≡ Ok x) × (f x ≡ Ok y)
step-Ok (Ok x) f y e = (x, refl, e)
step-Ok (Err r) f y e = cc

-- within the limit, or else refused
within : (b : Bool) (x z : ℤ) (n : ℕ) (p : Place) → nat_le n (2 ^ 40) ≡ b → cond b (Ok x) (refuse kinds.TooLarge p) ≡ Ok z → n ≡ unsigned_abs x → unsigned_abs z ≤ 2 ^ 40
within true x z n p is e same =
    let at_most : n ≤ 2 ^ 40 = leb-true n (2 ^ 40) is in
    let so : x ≡ z = cc in
    subst (λ y. unsigned_abs y ≤ 2 ^ 40) so (subst (λ m. m ≤ 2 ^ 40) same at_most)
within false x z n p is e same = cc

pub whole_at-Ok : (p : Place) (d : Data) (z : ℤ) → whole_at p d ≡ Ok z → unsigned_abs z ≤ 2 ^ 40
unfolding whole_at
whole_at-Ok p null z e = cc
whole_at-Ok p (boolean b) z e = cc
whole_at-Ok p (number (unsigned n)) z e = within (nat_le n (2 ^ 40)) (pos n) z n p refl e refl
whole_at-Ok p (number (negative x)) z e = within (nat_le (unsigned_abs x) (2 ^ 40)) x z (unsigned_abs x) p refl e refl
whole_at-Ok p (number (float x)) z e = cc
whole_at-Ok p (string s) z e = cc
whole_at-Ok p (array ds) z e = cc
whole_at-Ok p (object ms) z e = cc

pub limited_at-Ok : (p : Place) (x z : ℤ) → limited_at p x ≡ Ok z → unsigned_abs z ≤ 2 ^ 40
unfolding limited_at
limited_at-Ok p x z e = within (nat_le (unsigned_abs x) (2 ^ 40)) x z (unsigned_abs x) p refl e refl
