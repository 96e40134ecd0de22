use Rattle.std.proofs.Common.{ℕ, List, ◌*◌, take}
use Rattle.std.specs.List.{sum_by}
use Rattle.problem.specs.declared.parts.Decision.{Decision}
use Rattle.cut_make.specs.SizeByTerms.{pair_amount}
use Rattle.cut_check.specs.Bounds.{Tallies}
use Rattle.cut_check.proofs.size.tally.Tally.with_pairs.Given as goal

abbrev pub invariant-loop-pair : goal.invariant-loop-pair
invariant-loop-pair l = (ds : List Decision) (outs : List ℕ) → Tallies ds outs l.fn.self l.tally (l.weight * sum_by (pair_amount ds outs l.cuts) (take l.pair-index l.pairs))
