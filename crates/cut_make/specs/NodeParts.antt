-- The parts of a node of a validated problem, with a weight for each of its realizations.
use Rattle.std.specs.Prelude.{◌≡◌, ℕ, ℤ, true, List, length, slice_get, Some}
use Rattle.problem.specs.declared.parts.Node.{Node}
use Rattle.problem.specs.declared.parts.Subproblem.{Subproblem}
use Rattle.problem.specs.Validated.{Validated, is_validated, subproblem_of}
use Rattle.theory.specs.declared.cut.Cut.{Cut}
use Rattle.theory.specs.Problem.{node_at}
use Rattle.theory.specs.View.{node_of, problem_of}
use Rattle.cut_make.specs.Parts.{Limited}
use Rattle.cut_make.specs.Sized.{Sized}

-- the node m is n with the subproblem s and the box of its incoming state, and their sizes can be taken
pub record NodeParts (p : Validated) (m : ℕ) (pools : List (List Cut)) (weights : List ℕ) (n : Node) (s : Subproblem) (low high : List ℤ) : Type 0 where
  pub validated : is_validated p ≡ true
  pub the_node : slice_get p.parts.nodes m ≡ Some n
  pub the_subproblem : subproblem_of p m ≡ Some s
  pub the_low : slice_get p.lo m ≡ Some low
  pub the_high : slice_get p.hi m ≡ Some high
  pub is : node_at (problem_of p) m ≡ node_of n s low high
  pub limits : Limited n s
  pub sized : Sized pools n s low weights
  pub states : length low ≡ length p.parts.states
  pub costs : length low ≡ length s.state_costs
