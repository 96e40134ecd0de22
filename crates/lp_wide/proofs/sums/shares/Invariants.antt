use Rattle.std.proofs.Common.{◌≡◌, pos, drop}
use Rattle.lp_wide.specs.Refine.{shares_from}
use Rattle.lp_wide.proofs.sums.shares.Given as goal

abbrev pub invariant-loop-j : goal.invariant-loop-j
invariant-loop-j l = shares_from (pos 0) l.line l.shifts ≡ shares_from l.sum (drop l.j l.line) (drop l.j l.shifts)
