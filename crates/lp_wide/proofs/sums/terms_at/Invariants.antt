use Rattle.std.proofs.Common.{◌≡◌, pos, drop}
use Rattle.lp_wide.specs.Activity.{wide_terms_from}
use Rattle.lp_wide.proofs.sums.terms_at.Given as goal

abbrev pub invariant-loop-k : goal.invariant-loop-k
invariant-loop-k l = wide_terms_from (pos 0) l.terms l.x ≡ wide_terms_from l.sum (drop l.k l.terms) l.x
