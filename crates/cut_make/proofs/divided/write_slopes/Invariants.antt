use Rattle.std.proofs.Common.{◌≡◌, ℕ, ◌-◌, ◌^◌, ◌<◌, pos, ◌*ℤ◌, ◌≤ℤ◌, List, length}
use Rattle.base_num.specs.Sums.{sum_to, entry}
use Rattle.theory.specs.declared.cut.Certificate.{Certificate}
use Rattle.theory.specs.Problem.{Node}
use Rattle.theory.specs.CutOf.{beta_sum, slope, remainder}
use Rattle.cut_make.specs.Congruent.{Congruent}
use Rattle.cut_make.specs.Parts.{slope_size}
use Rattle.cut_make.specs.Sized.{unboxed}
use Rattle.cut_make.specs.Tabled.{Tabled}
use Rattle.cut_make.proofs.divided.write_slopes.Given as goal

abbrev pub invariant-loop-k : goal.invariant-loop-k
invariant-loop-k l =
    let n : Node = unboxed l.here.weights.now l.here.node.now l.here.subproblem.now in
    record {
      count : length l.slopes ≡ length l.here.low.now;
      slopes : (list : List Certificate) → Tabled (beta_sum n list) l.sums → ((k : ℕ) → k < length l.here.low.now → slope_size n list k ≤ℤ pos (2 ^ 127 - 1)) → (k : ℕ) → k < l.k → entry l.slopes k ≡ slope n list k;
      tail : (list : List Certificate) → Tabled (beta_sum n list) l.sums → ((k : ℕ) → k < length l.here.low.now → slope_size n list k ≤ℤ pos (2 ^ 127 - 1)) → Congruent l.sum (sum_to l.k (λ k. remainder n list k *ℤ entry l.here.low.now k));
    }
