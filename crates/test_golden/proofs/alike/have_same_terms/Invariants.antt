use Rattle.std.proofs.Common.{◌≡◌, take}
use Rattle.lp_program.specs.Proper.{terms_of}
use Rattle.test_golden.proofs.alike.have_same_terms.Given as goal

abbrev pub invariant-loop-i : goal.invariant-loop-i
invariant-loop-i l = terms_of (take l.i l.a) ≡ terms_of (take l.i l.b)
