use Rattle.std.proofs.Common.{◌≡◌, ℕ, ◌+◌, ◌*◌, ◌-◌, ◌^◌, ◌<◌, ◌≤ℤ◌, pos, List, length, nat_abs}
use Rattle.base_num.specs.Sums.{entry}
use Rattle.theory.specs.declared.cut.Certificate.{Certificate}
use Rattle.theory.specs.Problem.{Node}
use Rattle.theory.specs.CutOf.{beta_sum, remainder}
use Rattle.cut_make.specs.Parts.{slope_size}
use Rattle.cut_make.specs.SizeByTerms.{count_by}
use Rattle.cut_make.specs.Sized.{unboxed}
use Rattle.cut_make.specs.Tabled.{Tabled}
use Rattle.cut_check.proofs.size.range.plus_remainders.Given as goal

abbrev pub invariant-loop-k : goal.invariant-loop-k
invariant-loop-k l =
    let n : Node = unboxed l.here.weights.now l.here.node.now l.here.subproblem.now in
    (list : List Certificate) → Tabled (beta_sum n list) l.sums → ((k : ℕ) → k < length l.here.low.now → slope_size n list k ≤ℤ pos (2 ^ 127 - 1))
    → l.sum.total ≡ l.fn.size.total + count_by l.k (λ k. nat_abs (remainder n list k) * nat_abs (entry l.here.low.now k))
