use Rattle.std.proofs.Common.{ℤ, ◌-ℤ◌, ◌*ℤ◌, zip, take}
use Rattle.base_num.specs.Sums.{total, entry, at_terms}
use Rattle.problem.specs.declared.parts.Row.{Row}
use Rattle.theory.specs.CutOf.{side}
use Rattle.cut_make.specs.Congruent.{Congruent}
use Rattle.cut_make.proofs.constants.sides.Given as goal

abbrev pub invariant-loop-i : goal.invariant-loop-i
invariant-loop-i l = Congruent l.sum (total (λ (q : Row × ℤ). q.1 *ℤ (side q.0 q.1 -ℤ at_terms q.0.randoms (entry l.values))) (take l.i (zip l.rows l.multipliers)))
