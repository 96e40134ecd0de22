use Rattle.std.proofs.Common.{drop}
use Rattle.lp_program.specs.Proper.{AreRising}
use Rattle.test_golden.proofs.proper.rises.Given as goal

-- the terms that are left decide
abbrev pub invariant-loop-term : goal.invariant-loop-term
invariant-loop-term l = AreRising l.least l.columns (drop l.term-index l.terms) → AreRising 0 l.columns l.terms
