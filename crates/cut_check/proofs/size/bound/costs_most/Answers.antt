use Rattle.std.proofs.Common.{◌≡◌, ◌+◌, ℕ, ℤ, List, ap₂, arith}
use Rattle.cut_make.specs.SizeByTerms.{fixed_costs, numbers_by}
use Rattle.cut_check.proofs.Bounding.{some_equal}
use Rattle.cut_check.proofs.size.bound.costs_most.Goals as goal

pub returns : goal.returns
returns c =
    let fixed : c.in_ok-costs_size.field-0.total ≡ fixed_costs c.args.sub.now c.args.states.now.low.now c.args.states.now.high.now = let e = c.in_ok-costs_size.ensures in omega (arith, e) in
    some_equal c.plus_numbers.result _ _ c.plus_numbers.ensures (ap₂ (λ (k : ℕ) (zs : List ℤ). k + numbers_by (λ (t : ℕ). c.args.values.now.bound) zs) fixed c.as_slice.ensures)
