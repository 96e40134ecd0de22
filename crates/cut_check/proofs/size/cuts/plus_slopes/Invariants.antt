use Rattle.std.proofs.Common.{◌≡◌, ◌+◌, take, zip}
use Rattle.cut_make.specs.SizeByTerms.{over_decisions, terms_by}
use Rattle.cut_check.proofs.size.cuts.plus_slopes.Given as goal

abbrev pub invariant-loop-k : goal.invariant-loop-k
invariant-loop-k l = l.sum.total ≡ l.fn.size.total + terms_by (over_decisions l.decisions) (take l.k (zip l.outs l.slopes))
