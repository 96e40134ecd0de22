use Rattle.std.proofs.Common.{◌≡◌, ◌+◌, ◌*◌, ℤ, ◌*ℤ◌, nat_abs, take, zip}
use Rattle.std.specs.List.{sum_by}
use Rattle.base_num.specs.Sums.{total}
use Rattle.problem.specs.declared.parts.Row.{Row}
use Rattle.plan_answer.proofs.terms.rows_sum.Given as goal

abbrev pub invariant-loop-i : goal.invariant-loop-i
invariant-loop-i g l = record {
  value : l.sum.value ≡ total (λ (q : Row × ℤ). q.1 *ℤ g.P.RowPart.value l.part q.0 q.1) (take l.i (zip l.rows l.multipliers));
  size : l.sum.size.total ≡ 0 + sum_by (λ (q : Row × ℤ). nat_abs q.1 * g.P.RowPart.size l.part q.0 q.1) (take l.i (zip l.rows l.multipliers));
}
