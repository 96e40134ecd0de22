use Rattle.std.proofs.Common.{ℤ, ◌*ℤ◌, zip, take}
use Rattle.base_num.specs.Sums.{total}
use Rattle.cut_make.specs.Congruent.{Congruent}
use Rattle.cut_make.proofs.constants.products.Given as goal

abbrev pub invariant-loop-i : goal.invariant-loop-i
invariant-loop-i l = Congruent l.sum (total (λ (q : ℤ × ℤ). q.0 *ℤ q.1) (take l.i (zip l.costs l.values)))
