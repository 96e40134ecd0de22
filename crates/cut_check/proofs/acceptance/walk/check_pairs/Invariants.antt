use Rattle.std.proofs.Common.{◌≡◌, ◌≤◌, drop}
use Rattle.cut_make.specs.Acceptance.{pair_fault}
use Rattle.cut_check.proofs.acceptance.walk.check_pairs.Given as goal

abbrev pub invariant-loop-e : goal.invariant-loop-e
invariant-loop-e l = (pair_fault l.r l.i l.count l.e l.least (drop l.e l.pairs) ≡ pair_fault l.r l.i l.count 0 0 l.pairs) × (l.e ≤ l.least) × (l.least ≤ l.count)
