use Rattle.std.proofs.Common.{◌≡◌, ℤ, List, ◌+◌, take, zip}
use Rattle.std.specs.List.{sum_by}
use Rattle.problem.specs.declared.parts.Decision.{Decision}
use Rattle.cut_make.specs.SizeByTerms.{FixedRows, scaled_row}
use Rattle.cut_check.proofs.size.rows.rows_size.Given as goal

abbrev pub invariant-loop-i : goal.invariant-loop-i
invariant-loop-i l =
    (ds : List Decision) (low high : List ℤ) → FixedRows ds low high l.rows l.fixed
    → l.sum.total ≡ 0 + sum_by (scaled_row ds low high l.values.values.now) (take l.i (zip l.rows l.multipliers))
