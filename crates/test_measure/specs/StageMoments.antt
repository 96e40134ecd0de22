-- Where a stage problem may be made.
use Rattle.std.specs.Prelude.{◌≡◌, ℕ, ◌<◌, ℤ, pos, ◌*ℤ◌, ◌≤ℤ◌, true, List, length}
use Rattle.problem.specs.Limits.{are_values}
use Rattle.problem.specs.Validated.{Validated, subproblem_of}
use Rattle.theory.specs.Problem.{S}
use Rattle.cut_pool.specs.AtNodes.{IsStateAt}

-- a number at the scale of states, between two whole numbers
abbrev pub IsStateBetween : ℤ → ℤ → ℤ → Type 0
IsStateBetween low high x = ((pos S *ℤ low) ≤ℤ x) × (x ≤ℤ (pos S *ℤ high))

-- values and a state of the node m
pub record MayStand (p : Validated) (m : ℕ) (own xi : List ℤ) : Type 0 where
  pub known : m < length p.parts.nodes
  pub values : are_values (subproblem_of p m) own ≡ true
  pub state : IsStateAt p m xi
