-- Tables of numbers that are kept modulo 2^128.
use Rattle.std.specs.Prelude.{◌≡◌, ℕ, ◌<◌, ◌≤◌, ℤ, List, length, Option, Some, None, Result, Ok, Err}
use Rattle.base_num.specs.Sums.{entry}
use Rattle.problem.specs.declared.parts.Node.{Node}
use Rattle.problem.specs.declared.parts.Subproblem.{Subproblem}
use Rattle.theory.specs.declared.cut.Certificate.{Certificate}
use Rattle.theory.specs.CutOf.{beta_sum}
use Rattle.cut_make.specs.Congruent.{Congruent}
use Rattle.cut_make.specs.Parts.{costs_at_scale}
use Rattle.cut_make.specs.Sized.{unboxed}
use Rattle.cut_make.specs.declared.scaled_costs.ScaledCosts.{ScaledCosts}

-- the number at j is congruent to f j
abbrev pub Tabled : (ℕ → ℤ) → List ℤ → Type 0
Tabled f xs = (j : ℕ) → j < length xs → Congruent (entry xs j) (f j)

-- a table of B for each state where the size stays in range, else the realization at which it does not
abbrev pub SumsInRange : List ℕ → Node → Subproblem → List Certificate → Option ℕ → Result (List ℤ) ℕ → Type 0
SumsInRange weights n s list range (Ok sums) = (range ≡ None) × (length sums ≡ 50) × Tabled (beta_sum (unboxed weights n s) list) sums
SumsInRange weights n s list range (Err r) = range ≡ Some r

-- the costs of a subproblem's decisions at their scale
pub record IsScaled (table : ScaledCosts) (s : Subproblem) : Type 0 where
  pub room : length s.decisions ≤ length table.costs.now
  pub costs : Tabled (costs_at_scale table.scale s) table.costs.now
