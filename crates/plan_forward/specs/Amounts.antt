-- Rows and costs over numbers that are small enough for 128 bits.
use Rattle.std.specs.Prelude.{◌≡◌, ◌≤◌, ◌^◌, ℤ, true, nat_abs, List, length, map, All}
use Rattle.problem.specs.declared.parts.Row.{Row}
use Rattle.problem.specs.declared.parts.Decision.{Decision}
use Rattle.problem.specs.declared.parts.Subproblem.{Subproblem}
use Rattle.problem.specs.Limits.{terms_fit}
use Rattle.theory.specs.Problem.{S}
use Rattle.theory.specs.Tree.{times_all}

-- few numbers at scale S, of at most 2^64
pub record AreAmounts (xs : List ℤ) : Type 0 where
  pub few : length xs ≤ 200
  pub small : All (λ z. nat_abs z ≤ 2 ^ 64) xs

-- factors of these, of at most 2^40
pub record AreFactors (cs xs : List ℤ) : Type 0 where
  pub count : length cs ≡ length xs
  pub small : All (λ z. nat_abs z ≤ 2 ^ 40) cs

-- decisions, a state and values for a node
pub record AreStageAmounts (u x values : List ℤ) : Type 0 where
  pub of_decisions : AreAmounts u
  pub of_state : AreAmounts x
  pub of_values : AreAmounts (times_all S values)

-- the terms of a row are over these
pub record AreTermsOver (u x values : List ℤ) (row : Row) : Type 0 where
  pub decisions : terms_fit (length u) 0 row.decisions ≡ true
  pub states : terms_fit (length x) 0 row.states ≡ true
  pub randoms : terms_fit (length (times_all S values)) 0 row.randoms ≡ true

-- the costs of a subproblem are over these
pub record AreCosts (u x values : List ℤ) (s : Subproblem) : Type 0 where
  pub decisions : AreFactors (map (λ (d : Decision). d.cost) s.decisions) u
  pub states : AreFactors s.state_costs x
  pub randoms : AreFactors s.random_costs (times_all S values)
