-- The premises on a node's parts and weights under which a size is computed, and the answers.
use Rattle.std.specs.Prelude.{◌≡◌, ℕ, ◌+◌, ◌*◌, ◌<◌, ◌≤◌, ◌^◌, ℤ, true, List, [], length, sum, take, nat_abs, All}
use Rattle.std.specs.List.{sum_by}
use Rattle.base_num.specs.Sums.{entry}
use Rattle.problem.specs.Limits.{subproblem_fits}
use Rattle.problem.specs.declared.parts.Node.{Node}
use Rattle.problem.specs.declared.parts.Subproblem.{Subproblem}
use Rattle.theory.specs.declared.cut.Cut.{Cut}
use Rattle.theory.specs.declared.cut.Certificate.{Certificate}
use Rattle.theory.specs.Problem as problems
use Rattle.theory.specs.CutOf.{remainder}
use Rattle.theory.specs.View.{node_of}
use Rattle.cut_make.specs.SizeByTerms.{count_by, total_successor_weight}

-- a value list and a weight per realization, a weight per successor, each successor among the pools, a total weight of
-- both kinds that is neither 0 nor large, few states, and a subproblem that fits them
pub record Sized (pools : List (List Cut)) (n : Node) (s : Subproblem) (low : List ℤ) (weights : List ℕ) : Type 0 where
  pub values : length n.values ≡ length n.weights
  pub count : length weights ≡ length n.weights
  pub realizations : length n.weights ≤ 100
  pub some : 0 < length n.weights
  pub positive : All (λ w. 1 ≤ w) weights
  pub total : sum weights ≤ 65535
  pub successor_weights : length n.successor_weights ≡ length n.successors
  pub few : length n.successors ≤ 2 ^ 16
  pub stop : sum n.successor_weights + n.stop ≤ 65535
  pub scale : 0 < total_successor_weight n
  pub known : All (λ m. m < length pools) n.successors
  pub states : length low ≤ 50
  pub subproblem : subproblem_fits (length low) s ≡ true

-- r is the least index such that the sum of f up to it exceeds 2^127 - 1
pub record Passes {A : Type 0} (f : A → ℕ) (xs : List A) (r : ℕ) : Type 0 where
  pub within : r < length xs
  pub before : sum_by f (take r xs) < 2 ^ 127
  pub beyond : 2 ^ 127 ≤ sum_by f (take (r + 1) xs)

-- the node without a box, whose slopes are those of the node with any
abbrev pub unboxed : List ℕ → Node → Subproblem → problems.Node
unboxed weights n s = problems.with_weights weights (node_of n s [] [])

-- the remainders at the lower ends of the box
abbrev pub remainders_amount : List ℕ → Node → Subproblem → List ℤ → List Certificate → ℕ
remainders_amount weights n s low list = count_by (length low) (λ k. nat_abs (remainder (unboxed weights n s) list k) * nat_abs (entry low k))
