-- The bound of the size of a list of certificates: the sums that it bounds, and the greatest amounts by which it does.
use Rattle.std.specs.Prelude.{ℕ, ◌+◌, ◌*◌, ◌≤◌, ℤ, List, zip, max, nat_abs}
use Rattle.std.specs.List.{sum_by}
use Rattle.problem.specs.declared.parts.Decision.{Decision}
use Rattle.problem.specs.declared.parts.Row.{Row}
use Rattle.problem.specs.declared.parts.Node as nodes
use Rattle.problem.specs.declared.parts.Subproblem.{Subproblem}
use Rattle.theory.specs.declared.cut.Cut.{Cut}
use Rattle.theory.specs.declared.cut.Certificate.{Certificate}
use Rattle.theory.specs.CutOf.{side_of}
use Rattle.cut_make.specs.SizeByTerms.{over_decisions, over_values, terms_by, numbers_by, fixed_row, fixed_costs, rows_amount, costs_amount, successors_amount}
use Rattle.cut_check.specs.declared.size.tally.Tally.{Tally}

-- no value is greater than the bound, by its absolute value
abbrev pub AreWithin : ℕ → List ℤ → Type 0
AreWithin bound values = (t : ℕ) → over_values values t ≤ bound

-- a row at the greater of its sides, with its terms, where no value is greater than the bound
abbrev pub row_bound : ℕ → List Decision → List ℤ → List ℤ → Row → ℕ
row_bound bound ds low high row = fixed_row ds low high row + max (nat_abs (side_of row.low)) (nat_abs (side_of row.high)) + terms_by (λ t. bound) row.randoms

-- the stage costs, where no value is greater than the bound
abbrev pub costs_bound : ℕ → Subproblem → List ℤ → List ℤ → ℕ
costs_bound bound s low high = fixed_costs s low high + numbers_by (λ t. bound) s.random_costs

-- the greatest size of a cut at the ends of the boxes of the decisions that leave the stage
abbrev pub cut_bound : List Decision → List ℕ → Tally → ℕ
cut_bound ds outs t = t.alpha + t.slope * sum_by (over_decisions ds) outs

-- the amount is within what the multipliers grew by, times the greatest size of a cut, which has not fallen
pub record Tallies (ds : List Decision) (outs : List ℕ) (before after : Tally) (amount : ℕ) : Type 0 where
  pub grown : cut_bound ds outs before ≤ cut_bound ds outs after
  pub within : (k : ℕ) → cut_bound ds outs after ≤ k → amount + before.multipliers * k ≤ after.multipliers * k

-- the multipliers of the rows by the weights of the realizations
abbrev pub weighted_multipliers : List ℕ → List Certificate → ℕ
weighted_multipliers ws list = sum_by (λ (q : ℕ × Certificate). q.0 * sum_by nat_abs q.1.rows) (zip ws list)

-- the pairs, the rows and the costs by the weights of the realizations
abbrev pub weighted_pairs : nodes.Node → Subproblem → List (List Cut) → List ℕ → List Certificate → ℕ
weighted_pairs n s pools ws list = sum_by (λ (q : ℕ × Certificate). q.0 * successors_amount s.decisions s.outs pools n.successors q.1.cuts) (zip ws list)

abbrev pub weighted_rows : Subproblem → List ℤ → List ℤ → List ℕ → List (List ℤ) → List Certificate → ℕ
weighted_rows s low high ws vs list = sum_by (λ (q : ℕ × (List ℤ × Certificate)). q.0 * rows_amount s.decisions low high q.1.0 s.rows q.1.1.rows) (zip ws (zip vs list))

abbrev pub weighted_costs : Subproblem → List ℤ → List ℤ → List ℕ → List (List ℤ) → ℕ
weighted_costs s low high ws vs = sum_by (λ (q : ℕ × List ℤ). q.0 * costs_amount s low high q.1) (zip ws vs)
