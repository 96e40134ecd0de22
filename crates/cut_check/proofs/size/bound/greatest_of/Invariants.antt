use Rattle.std.proofs.Common.{ℕ, ℤ, List, ◌<◌, get_or}
use Rattle.cut_check.specs.Bounds.{AreWithin}
use Rattle.cut_check.proofs.size.bound.greatest_of.Given as goal

abbrev pub invariant-loop-r : goal.invariant-loop-r
invariant-loop-r l = (r : ℕ) (d : List ℤ) → r < l.r → AreWithin l.greatest (get_or l.values r d)
