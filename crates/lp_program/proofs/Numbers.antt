-- The numbers that 128 bits hold, as a test and as a fact.
use Rattle.std.proofs.Common.{◌≡◌, ◌^◌, ◌<◌, ℤ, pos, negsuc, Bool, true, false, cond, Option, Some, None, arith, refl, ap}
use Rattle.std.specs.Option.{SomeIff}
use Rattle.std.specs.Prelude.{FitsSigned}
use Rattle.std.specs.Int.{w128}
use Rattle.std.proofs.lemmas.Bool.Decides.{nat_tests}
use Rattle.lp_program.specs.Numbers.{fits, held}

pub fits-true : (z : ℤ) → FitsSigned w128 z → fits z ≡ true
fits-true (pos n) f = let h : n < 2 ^ 127 = f.sfits in grind (arith, nat_tests)
fits-true (negsuc n) f = let h : n < 2 ^ 127 = f.sfits in grind (arith, nat_tests)

pub fits-fact : (z : ℤ) → fits z ≡ true → FitsSigned w128 z
fits-fact (pos n) e = let h : n < 2 ^ 127 = grind (arith, nat_tests) in record { sfits = h }
fits-fact (negsuc n) e = let h : n < 2 ^ 127 = grind (arith, nat_tests) in record { sfits = h }

pub is_held : (r : Option ℤ) (z : ℤ) → SomeIff r (FitsSigned w128 z) z → r ≡ held z
is_held None z h = by (fits z) refl
  where
    by : (t : Bool) → fits z ≡ t → None ≡ cond t (Some z) None
    by true e = absurd (h (fits-fact z e))
    by false e = refl
is_held (Some x) z h = rw (fits-true z h.0) (ap Some h.1)
