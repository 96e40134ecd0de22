use Rattle.std.proofs.Common.{◌≡◌, ℕ, ℤ, pos, ◌-ℤ◌, ◌*ℤ◌, take, zip, length}
use Rattle.base_num.specs.Sums.{total, coefficient}
use Rattle.theory.specs.declared.cut.Certificate.{Certificate}
use Rattle.theory.specs.Problem.{S, Realization, Node}
use Rattle.theory.specs.CutOf.{over_rows}
use Rattle.cut_make.specs.Sized.{unboxed}
use Rattle.cut_make.specs.Tabled.{Tabled}
use Rattle.cut_make.proofs.slopes.take_certificates.Given as goal

abbrev pub invariant-loop-r : goal.invariant-loop-r
invariant-loop-r l =
    let n : Node = unboxed l.here.weights.now l.here.node.now l.here.subproblem.now in
    record {
      count : length l.sums ≡ length l.initial.sums;
      value : (f : ℕ → ℤ) → Tabled f l.initial.sums → Tabled (λ k. f k -ℤ total (λ (q : Realization × Certificate). pos q.0.weight *ℤ (pos S *ℤ over_rows n q.1 (λ row y. coefficient row.states k))) (take l.r (zip n.realizations l.list))) l.sums;
    }
