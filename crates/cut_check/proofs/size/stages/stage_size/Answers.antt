use Rattle.std.proofs.Common.{◌≤◌, ◌^◌, ◌+◌, ◌*◌, ◌≡◌, ℕ, ℤ, List, MatchOption, arith, sym, ap, ap₂, subst, ◌∙◌}
use Rattle.base_num.specs.declared.size.Size.{Size}
use Rattle.problem.specs.declared.parts.Row.{Row}
use Rattle.cut_make.specs.SizeByTerms.{AddsSize, FixedRows, over_values, numbers_by, rows_amount, fixed_costs, costs_amount}
use Rattle.cut_check.proofs.size.stages.stage_size.Goals as goal

pub returns-in_err-rows : goal.returns-in_err-rows
returns-in_err-rows c =
    let h = c.args.here.now in
    let s = h.subproblem.now in
    let own : FixedRows s.decisions h.low.now h.high.now c.as_slice.result.now c.args.fixed.now.rows.now = subst (λ (rows : List Row). FixedRows s.decisions h.low.now h.high.now rows c.args.fixed.now.rows.now) (sym c.as_slice.ensures) c.requires.fixed.rows in
    let past : 2 ^ 127 ≤ 0 + rows_amount s.decisions h.low.now h.high.now c.args.values.now s.rows c.args.multipliers.now = subst (λ (rows : List Row). 2 ^ 127 ≤ 0 + rows_amount s.decisions h.low.now h.high.now c.args.values.now rows c.args.multipliers.now) c.as_slice.ensures (c.in_err-rows.ensures s.decisions h.low.now h.high.now own) in
    rw c.from_residual.ensures (omega (arith, past))

pub returns : goal.returns
returns c =
    let h = c.args.here.now in
    let s = h.subproblem.now in
    let own : FixedRows s.decisions h.low.now h.high.now c.as_slice.result.now c.args.fixed.now.rows.now = subst (λ (rows : List Row). FixedRows s.decisions h.low.now h.high.now rows c.args.fixed.now.rows.now) (sym c.as_slice.ensures) c.requires.fixed.rows in
    let rows : c.in_ok-rows.rows.total ≡ 0 + rows_amount s.decisions h.low.now h.high.now c.args.values.now s.rows c.args.multipliers.now = c.in_ok-rows.ensures s.decisions h.low.now h.high.now own ∙ ap (λ (k : List Row). 0 + rows_amount s.decisions h.low.now h.high.now c.args.values.now k c.args.multipliers.now) c.as_slice.ensures in
    let costs : AddsSize 0 c.costs_size-costs.result (costs_amount s h.low.now h.high.now c.args.values.now) = subst (λ (k : List ℤ). AddsSize 0 c.costs_size-costs.result (fixed_costs s h.low.now h.high.now + numbers_by (over_values c.args.values.now) k)) c.as_slice-2.ensures (c.costs_size-costs.ensures _ c.requires.fixed.costs) in
    let both = ap₂ (λ (k u : ℕ). k + u * costs_amount s h.low.now h.high.now c.args.values.now) rows c.unit.ensures.value ∙ beside _ _ in
    subst (λ (k : ℕ). MatchOption c.plus_scaled.result (2 ^ 127 ≤ k) (λ (size : Size). size.total ≡ k)) both (c.plus_scaled.ensures _ costs)
  where
    beside : (a b : ℕ) → 0 + a + b ≡ 0 + (a + b)
    beside a b = omega arith
