use Rattle.problem.specs.declared.parts.Row.{Row}
use Rattle.std.proofs.Common.{ℤ, ◌+◌, List, get_or, pos, SFits, w64, rules, arith, ap, ◌∙◌}
use Rattle.std.proofs.lemmas.Int.{to_z-of_z}
use Rattle.std.specs.List.{sum_by}
use Rattle.cut_make.specs.SizeByTerms.{scaled_row}
use Rattle.cut_check.proofs.Amounts.{pairs_more, pairs_past, take_pairs}
use Rattle.cut_check.proofs.Fixing.{fixed_at}
use Rattle.cut_check.proofs.size.rows.rows_size.Goals as goal

pub returns-in_err-sum : goal.returns-in_err-sum
returns-in_err-sum c = λ ds low high fixed.
    let fits : SFits w64 (get_or c.args.multipliers.now c.loop-i.i (pos 0)) = search rules in
    let own = fixed_at ds low high c.args.rows.now c.args.fixed.now c.loop-i.i c.index-rows-i.result fixed (omega (arith, c.min-i-end.ensures, c.loop-i-test.true)) c.index-rows-i.is in
    rw c.from_residual.ensures
    (pairs_past (scaled_row ds low high c.args.values.now.values.now) c.args.rows.now c.args.multipliers.now c.loop-i.i 0 c.loop-i.sum.total _ c.index-rows-i.result c.index-rows-i.result _ (pos 0) c.min-i-end.ensures c.loop-i-test.true c.index-rows-i.is (to_z-of_z w64 _ fits) (c.loop-i.invariant ds low high fixed) (c.in_err-sum.ensures _ own))

pub loop-i-preserved : goal.loop-i-preserved
loop-i-preserved c = λ ds low high fixed.
    let fits : SFits w64 (get_or c.args.multipliers.now c.loop-i.i (pos 0)) = search rules in
    let own = fixed_at ds low high c.args.rows.now c.args.fixed.now c.loop-i.i c.index-rows-i.result fixed (omega (arith, c.min-i-end.ensures, c.loop-i-test.true)) c.index-rows-i.is in
    pairs_more (scaled_row ds low high c.args.values.now.values.now) c.args.rows.now c.args.multipliers.now c.loop-i.i 0 c.loop-i.sum.total _ c.index-rows-i.result c.index-rows-i.result _ (pos 0) c.min-i-end.ensures c.loop-i-test.true c.index-rows-i.is (to_z-of_z w64 _ fits) (c.loop-i.invariant ds low high fixed) c.in_ok-sum.sum.total (c.in_ok-sum.ensures _ own)

pub returns : goal.returns
returns c = λ ds low high fixed.
    c.loop-i.invariant ds low high fixed ∙ ap (λ (z : List (Row × ℤ)). 0 + sum_by (scaled_row ds low high c.args.values.now.values.now) z) (take_pairs c.args.rows.now c.args.multipliers.now c.loop-i.i _ c.min-i-end.ensures c.loop-i-test.false)
