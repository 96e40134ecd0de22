use Rattle.std.proofs.Common.{◌≡◌, ◌+◌, ◌*◌, ◌*ℤ◌, map}
use Rattle.std.specs.Int.{int_min}
use Rattle.base_num.specs.Sums.{sum_to, entry}
use Rattle.problem.specs.declared.parts.Decision.{Decision}
use Rattle.cut_make.specs.SizeByTerms.{count_by, span}
use Rattle.plan_answer.specs.Farkas.{farkas_reduced_cost, farkas_reduced_size}
use Rattle.plan_answer.proofs.farkas.boxes_sum.Given as goal

abbrev pub invariant-loop-j : goal.invariant-loop-j
invariant-loop-j l = record {
  value : l.sum.value ≡ sum_to l.j (λ j. int_min (farkas_reduced_cost l.rows l.multipliers j *ℤ entry (map (λ (d : Decision). d.low) l.decisions) j) (farkas_reduced_cost l.rows l.multipliers j *ℤ entry (map (λ (d : Decision). d.high) l.decisions) j));
  size : l.sum.size.total ≡ 0 + count_by l.j (λ j. span (entry (map (λ (d : Decision). d.low) l.decisions) j) (entry (map (λ (d : Decision). d.high) l.decisions) j) * farkas_reduced_size l.rows l.multipliers j);
}
