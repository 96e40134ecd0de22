-- When a residual is 0.
use Rattle.std.proofs.Common.{◌≡◌, ◌↔◌, ℤ, pos, ◌≤ℤ◌, List, Option, Some, None, arith}
use Rattle.std.specs.Int.{int_max}
use Rattle.std.proofs.lemmas.Int.{ints, clamps}
use Rattle.problem.specs.declared.parts.Row.{Row}
use Rattle.theory.specs.Problem.{S}
use Rattle.theory.specs.Tree.{AtLeast, AtMost, RowHolds, left_side}
use Rattle.plan_forward.specs.Costing.{above_high, below_low, residual_of}

none_above : (a b : ℤ) → int_max (int_max a b) (pos 0) ≡ pos 0 → (a ≤ℤ pos 0) × (b ≤ℤ pos 0)
none_above a b e = (omega (arith, ints, clamps, e), omega (arith, ints, clamps, e))

none_left : (a b : ℤ) → a ≤ℤ pos 0 → b ≤ℤ pos 0 → int_max (int_max a b) (pos 0) ≡ pos 0
none_left a b p q = omega (arith, ints, clamps, p, q)

some_left : (a b : ℤ) → pos 0 ≤ℤ int_max (int_max a b) (pos 0)
some_left a b = omega (arith, ints, clamps)

low_met : (low : Option ℤ) (left : ℤ) → below_low low left ≤ℤ pos 0 → AtLeast low S left
low_met None left h = tt
low_met (Some low) left h = omega (arith, ints, h)

high_met : (high : Option ℤ) (left : ℤ) → above_high high left ≤ℤ pos 0 → AtMost high S left
high_met None left h = tt
high_met (Some high) left h = omega (arith, ints, h)

met_low : (low : Option ℤ) (left : ℤ) → AtLeast low S left → below_low low left ≤ℤ pos 0
met_low None left h = omega (arith, ints)
met_low (Some low) left h = omega (arith, ints, h)

met_high : (high : Option ℤ) (left : ℤ) → AtMost high S left → above_high high left ≤ℤ pos 0
met_high None left h = omega (arith, ints)
met_high (Some high) left h = omega (arith, ints, h)

pub residual_met : (row : Row) (u x values : List ℤ) → residual_of row u x values ≡ pos 0 ↔ RowHolds S values x u row
unfolding residual_of
residual_met row u x values = (
  (λ e. let left : ℤ = left_side S values x u row in let h = none_above (below_low row.low left) (above_high row.high left) e in record { low = low_met row.low left h.0; high = high_met row.high left h.1 }),
  (λ h. let left : ℤ = left_side S values x u row in none_left (below_low row.low left) (above_high row.high left) (met_low row.low left h.low) (met_high row.high left h.high)),
)

pub residual_some : (row : Row) (u x values : List ℤ) → pos 0 ≤ℤ residual_of row u x values
unfolding residual_of
residual_some row u x values = some_left (below_low row.low (left_side S values x u row)) (above_high row.high (left_side S values x u row))
