use Rattle.std.proofs.Common.{◌+◌, ◌*◌, ◌^◌, ◌≤◌, ℕ, ℤ, ◌+ℤ◌, ◌*ℤ◌, List, length, arith, ap₂, subst, ◌∙◌}
use Rattle.std.specs.Int.{int_min}
use Rattle.problem.specs.declared.parts.Decision.{Decision}
use Rattle.cut_make.specs.SizeByTerms.{span}
use Rattle.cut_check.proofs.Amounts.{counts_more, counts_past}
use Rattle.plan_answer.specs.Farkas.{farkas_reduced_cost, farkas_reduced_size}
use Rattle.plan_answer.proofs.Beside.{sum_step, low_at, high_at}
use Rattle.plan_answer.proofs.Viewed.{box, box_size}
use Rattle.plan_answer.proofs.farkas.boxes_sum.Goals as goal

pub returns-in_err-sum : goal.returns-in_err-sum
returns-in_err-sum c =
    let ds : List Decision = c.args.decisions.now in
    let j : ℕ = c.loop-j.j in
    let d : Decision = c.index-decisions-j.result in
    let n : ℕ = farkas_reduced_size c.args.rows.now c.args.multipliers.now j in
    let is = ap₂ (λ (l h : ℤ). c.loop-j.sum.size.total + span l h * n) (low_at ds j d c.loop-j-test.true c.index-decisions-j.is) (high_at ds j d c.loop-j-test.true c.index-decisions-j.is) in
    rw c.from_residual.ensures
    (let past = counts_past (box_size ds c.args.rows.now c.args.multipliers.now) j 0 c.loop-j.sum.size.total c.loop-j.invariant.size (length ds) c.loop-j-test.true (subst (λ (z : ℕ). 2 ^ 127 ≤ z) is c.in_err-sum.ensures) in omega (arith, past))

pub loop-j-preserved : goal.loop-j-preserved
loop-j-preserved c =
    let ds : List Decision = c.args.decisions.now in
    let j : ℕ = c.loop-j.j in
    let d : Decision = c.index-decisions-j.result in
    let r : ℤ = farkas_reduced_cost c.args.rows.now c.args.multipliers.now j in
    let n : ℕ = farkas_reduced_size c.args.rows.now c.args.multipliers.now j in
    let low = low_at ds j d c.loop-j-test.true c.index-decisions-j.is in
    let high = high_at ds j d c.loop-j-test.true c.index-decisions-j.is in
    record {
      value = sum_step (box ds c.args.rows.now c.args.multipliers.now) j c.loop-j.sum.value c.in_ok-sum.sum.value c.loop-j.invariant.value (c.in_ok-sum.ensures.0 ∙ ap₂ (λ (l h : ℤ). c.loop-j.sum.value +ℤ int_min (r *ℤ l) (r *ℤ h)) low high);
      size = counts_more (box_size ds c.args.rows.now c.args.multipliers.now) j 0 c.loop-j.sum.size.total c.loop-j.invariant.size c.in_ok-sum.sum.size.total (c.in_ok-sum.ensures.1 ∙ ap₂ (λ (l h : ℤ). c.loop-j.sum.size.total + span l h * n) low high);
    }
