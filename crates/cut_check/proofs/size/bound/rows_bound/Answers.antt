use Rattle.std.proofs.Common.{◌≤◌, ◌+◌, ◌*◌, List, All, ap, subst, arith, ℕ}
use Rattle.problem.specs.declared.parts.Decision.{Decision}
use Rattle.problem.specs.declared.parts.Row.{Row}
use Rattle.cut_check.specs.Bounds.{row_bound}
use Rattle.cut_check.proofs.Bounding.{some_above, all_rows_within}
use Rattle.cut_check.proofs.size.bound.rows_bound.Goals as goal

pub returns : goal.returns
returns c =
    let h = c.args.here.now in
    let s = h.subproblem.now in
    let v = c.args.values.now.bound in
    let most : All (λ row. row_bound v s.decisions h.low.now h.high.now row ≤ c.in_ok-most.most) s.rows =
    subst (λ (ds : List Decision). All (λ row. row_bound v ds h.low.now h.high.now row ≤ c.in_ok-most.most) s.rows) c.as_slice.ensures
    (subst (λ (rows : List Row). All (λ row. row_bound v c.as_slice.result.now h.low.now h.high.now row ≤ c.in_ok-most.most) rows) c.as_slice-2.ensures c.in_ok-most.ensures) in
    let all = all_rows_within v c.in_ok-most.most s h.low.now h.high.now h.weights.now h.node.now.values c.args.list.now c.requires.values most in
    let product = ap (λ (k : ℕ). k * c.in_ok-most.most) c.in_ok-multipliers.ensures in
    some_above c.plus_product.result (c.zero.result.total + c.in_ok-multipliers.multipliers * c.in_ok-most.most) _ c.plus_product.ensures (omega (arith, c.zero.ensures, product, all))
