use Rattle.std.proofs.Common.{◌+◌, ◌*◌, ℕ, ℤ, pos, ◌*ℤ◌, nat_abs, List, get_or, SFits, w64, rules, arith, ap, ◌∙◌}
use Rattle.std.specs.List.{sum_by}
use Rattle.std.proofs.lemmas.Int.{to_z-of_z}
use Rattle.base_num.specs.Sums.{total}
use Rattle.problem.specs.declared.parts.Row.{Row}
use Rattle.cut_check.proofs.Amounts.{pairs_more, pairs_past, take_pairs}
use Rattle.plan_answer.proofs.Beside.{totals_more}
use Rattle.plan_answer.proofs.terms.rows_sum.Goals as goal

pub returns-in_err-sum : goal.returns-in_err-sum
returns-in_err-sum g c =
    let size : Row × ℤ → ℕ = λ (q : Row × ℤ). nat_abs q.1 * g.P.RowPart.size c.args.part.now q.0 q.1 in
    let fits : SFits w64 (get_or c.args.multipliers.now c.loop-i.i (pos 0)) = search rules in
    rw c.from_residual.ensures
    (let past = pairs_past size c.args.rows.now c.args.multipliers.now c.loop-i.i 0 c.loop-i.sum.size.total _ c.index-rows-i.result c.index-rows-i.result _ (pos 0) c.min-i-end.ensures c.loop-i-test.true c.index-rows-i.is (to_z-of_z w64 _ fits) c.loop-i.invariant.size c.in_err-sum.ensures in omega (arith, past))

pub loop-i-preserved : goal.loop-i-preserved
loop-i-preserved g c =
    let value : Row × ℤ → ℤ = λ (q : Row × ℤ). q.1 *ℤ g.P.RowPart.value c.args.part.now q.0 q.1 in
    let size : Row × ℤ → ℕ = λ (q : Row × ℤ). nat_abs q.1 * g.P.RowPart.size c.args.part.now q.0 q.1 in
    let fits : SFits w64 (get_or c.args.multipliers.now c.loop-i.i (pos 0)) = search rules in
    record {
      value = totals_more value c.args.rows.now c.args.multipliers.now c.loop-i.i _ c.index-rows-i.result c.index-rows-i.result _ (pos 0) c.loop-i.sum.value c.in_ok-sum.sum.value c.min-i-end.ensures c.loop-i-test.true c.index-rows-i.is (to_z-of_z w64 _ fits) c.loop-i.invariant.value c.in_ok-sum.ensures.0;
      size = pairs_more size c.args.rows.now c.args.multipliers.now c.loop-i.i 0 c.loop-i.sum.size.total _ c.index-rows-i.result c.index-rows-i.result _ (pos 0) c.min-i-end.ensures c.loop-i-test.true c.index-rows-i.is (to_z-of_z w64 _ fits) c.loop-i.invariant.size c.in_ok-sum.sum.size.total c.in_ok-sum.ensures.1;
    }

pub returns : goal.returns
returns g c =
    let value : Row × ℤ → ℤ = λ (q : Row × ℤ). q.1 *ℤ g.P.RowPart.value c.args.part.now q.0 q.1 in
    let size : Row × ℤ → ℕ = λ (q : Row × ℤ). nat_abs q.1 * g.P.RowPart.size c.args.part.now q.0 q.1 in
    let all = take_pairs c.args.rows.now c.args.multipliers.now c.loop-i.i _ c.min-i-end.ensures c.loop-i-test.false in
    (c.loop-i.invariant.value ∙ ap (total value) all, (let e = c.loop-i.invariant.size ∙ ap (λ (z : List (Row × ℤ)). 0 + sum_by size z) all in omega (arith, e)))
