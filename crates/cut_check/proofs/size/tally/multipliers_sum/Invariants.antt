use Rattle.std.proofs.Common.{◌≡◌, ℕ, ◌+◌, ◌*◌, take, zip, nat_abs}
use Rattle.std.specs.List.{sum_by}
use Rattle.theory.specs.declared.cut.Certificate.{Certificate}
use Rattle.cut_check.proofs.size.tally.multipliers_sum.Given as goal

abbrev pub invariant-loop-r : goal.invariant-loop-r
invariant-loop-r l = l.sum ≡ 0 + sum_by (λ (q : ℕ × Certificate). q.0 * sum_by nat_abs q.1.rows) (take l.r (zip l.weights l.list))
