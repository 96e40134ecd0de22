use Rattle.std.proofs.Common.{◌≡◌, ◌+◌, take}
use Rattle.std.specs.List.{sum_by}
use Rattle.cut_make.specs.SizeByTerms.{decision_amount}
use Rattle.cut_check.proofs.size.fixed.plus_decisions.Given as goal

abbrev pub invariant-loop-decision : goal.invariant-loop-decision
invariant-loop-decision l = l.sum.total ≡ l.fn.size.total + sum_by decision_amount (take l.decision-index l.decisions)
