use Rattle.std.proofs.Common.{ℕ, List, ◌*◌, take, zip}
use Rattle.std.specs.List.{sum_by}
use Rattle.problem.specs.declared.parts.Decision.{Decision}
use Rattle.cut_make.specs.SizeByTerms.{successor_amount}
use Rattle.cut_check.specs.Bounds.{Tallies}
use Rattle.cut_check.proofs.size.tally.Tally.with_successors.Given as goal

abbrev pub invariant-loop-i : goal.invariant-loop-i
invariant-loop-i l = (ds : List Decision) (outs : List ℕ) → Tallies ds outs l.fn.self l.tally (l.weight * sum_by (successor_amount ds outs l.pools.lists) (take l.i (zip l.successors l.pairs)))
