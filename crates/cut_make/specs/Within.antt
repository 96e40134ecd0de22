-- The premises on a node's parts under which a list of certificates is walked through.
use Rattle.std.specs.Prelude.{◌≡◌, ℕ, ◌<◌, ◌≤◌, ◌^◌, length, All}
use Rattle.problem.specs.declared.parts.Node.{Node}
use Rattle.problem.specs.declared.parts.Subproblem.{Subproblem}

-- few realizations, rows and successors, a value list per realization, a weight per successor, and each successor among `count` nodes
pub record IsWithinLimits (count : ℕ) (n : Node) (s : Subproblem) : Type 0 where
  pub values : length n.values ≡ length n.weights
  pub realizations : length n.weights ≤ 100
  pub rows : length s.rows ≤ 200
  pub successor_weights : length n.successor_weights ≡ length n.successors
  pub successors : length n.successors ≤ 2 ^ 16
  pub known : All (λ m. m < count) n.successors
