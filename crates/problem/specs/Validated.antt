-- A problem as contracts see it: its parts, and the findings about its graph.
use Rattle.std.specs.Prelude.{◌≡◌, ℕ, ℤ, Bool, true, false, ◌&&◌, ◌==◌, List, [], ◌∷◌, length, map, Option, Some, None, Result, Ok, Err, int_le, get_or, slice_get, option_and_then, is_none}
use Rattle.std.specs.List.{list_all, zip}
use Rattle.std.specs.Ordering.{int_eq}
use lib.Pointwise.{pointwise}
use Rattle.std.specs.Bool.{nat_eq}
use Rattle.base_num.specs.Sums.{entry}
use Rattle.base_graph.specs.Paths.{first_in_cycle, first_unreached}
use Rattle.base_graph.specs.Ranks.{ranks, by_rank, longest_from}
use Rattle.problem.specs.declared.parts.State.{State}
use Rattle.problem.specs.declared.parts.Decision.{Decision}
use Rattle.problem.specs.declared.parts.Node.{Node}
use Rattle.problem.specs.declared.parts.Subproblem.{Subproblem}
use Rattle.problem.specs.declared.parts.ProblemParts.{ProblemParts}
use Rattle.problem.specs.declared.validated.SealFault.{SealFault}
use Rattle.problem.specs.declared.validated.SealFault.TheVariants.{NotParts, Memory}
use Rattle.problem.specs.Limits.{are_numbers, parts_are_lawful}
use Rattle.problem.specs.Parts.{own_subproblem}
pub use Rattle.problem.specs.Parts.{graph_of}

pub record Validated : Type 0 where
  pub parts : ProblemParts
  -- the nodes by rank, the steps of the longest path from there, and then by number
  pub order : List ℕ
  -- the number of nodes on the longest path from the root
  pub longest : ℕ
  -- the box of the incoming state: a list per node, with an entry per state
  pub lo : List (List ℤ)
  pub hi : List (List ℤ)

abbrev pub is_order : List ℕ → List ℕ → Bool
is_order order rs = pointwise nat_eq order (by_rank rs)

-- no node reaches itself, the root reaches each node, and the order and the length of the longest path are those of the ranks
unfoldable pub graph_fits : ProblemParts → List ℕ → ℕ → Bool
graph_fits parts order longest =
    is_none (first_in_cycle (graph_of parts)) && is_none (first_unreached (graph_of parts) parts.root)
    && is_order order (ranks (graph_of parts)) && (longest == longest_from (ranks (graph_of parts)) parts.root)

-- the state before the first stage
abbrev pub initial_values : ProblemParts → List ℤ
initial_values parts = map (λ (s : State). s.initial) parts.states

-- the least values of the decisions that leave as states, one per state
abbrev pub out_lows : Subproblem → List ℤ
out_lows s = map (λ o. entry (map (λ (d : Decision). d.low) s.decisions) o) s.outs

-- the greatest ones
abbrev pub out_highs : Subproblem → List ℤ
out_highs s = map (λ o. entry (map (λ (d : Decision). d.high) s.decisions) o) s.outs

-- the ends of the state that leaves a node
abbrev pub lows_from : ProblemParts → Node → List ℤ
lows_from parts n = get_or (map out_lows parts.subs) n.sub []

abbrev pub highs_from : ProblemParts → Node → List ℤ
highs_from parts n = get_or (map out_highs parts.subs) n.sub []

-- each number is at most the one beside it, as far as both lists go
abbrev pub at_most : List ℤ → List ℤ → Bool
at_most [] ys = true
at_most (x ∷ xs) [] = true
at_most (x ∷ xs) (y ∷ ys) = int_le x y && at_most xs ys

-- the box of the node m holds the box from these lows to these highs
abbrev pub holds_box : List (List ℤ) → List (List ℤ) → List ℤ → List ℤ → ℕ → Bool
holds_box lo hi lows highs m = at_most (get_or lo m []) lows && at_most highs (get_or hi m [])

-- the state that leaves a node lies in the boxes of its successors
abbrev pub leaves_inside : ProblemParts → List (List ℤ) → List (List ℤ) → Node → Bool
leaves_inside parts lo hi n = list_all (holds_box lo hi (lows_from parts n) (highs_from parts n)) n.successors

-- a bound, where one is given, is the side
abbrev pub is_given : Option ℤ → ℤ → Bool
is_given None side = true
is_given (Some bound) side = int_eq bound side

-- each bound that is given is the side beside it
abbrev pub are_given : List (Option ℤ) → List ℤ → Bool
are_given bounds sides = list_all (λ (p : Option ℤ × ℤ). is_given p.0 p.1) (zip bounds sides)

-- the bounds that are given for the incoming states of a subproblem
abbrev pub given_lows : Option Subproblem → List (Option ℤ)
given_lows None = []
given_lows (Some s) = s.low

abbrev pub given_highs : Option Subproblem → List (Option ℤ)
given_highs None = []
given_highs (Some s) = s.high

-- the given bounds are sides of the boxes
unfoldable pub bounds_stand : ProblemParts → List (List ℤ) → List (List ℤ) → Bool
bounds_stand parts lo hi =
    list_all (λ (p : Node × List ℤ). are_given (given_lows (own_subproblem parts p.0)) p.1) (zip parts.nodes lo)
    && list_all (λ (p : Node × List ℤ). are_given (given_highs (own_subproblem parts p.0)) p.1) (zip parts.nodes hi)

-- one box per node with one small entry per state and the given bounds as sides; states that leave nodes, and the initial values, lie in
-- the boxes
unfoldable pub boxes_fit : ProblemParts → List (List ℤ) → List (List ℤ) → Bool
boxes_fit parts lo hi =
    bounds_stand parts lo hi && (length lo == length parts.nodes) && (length hi == length parts.nodes)
    && list_all (are_numbers (length parts.states)) lo && list_all (are_numbers (length parts.states)) hi
    && list_all (leaves_inside parts lo hi) parts.nodes && list_all (holds_box lo hi (initial_values parts) (initial_values parts)) parts.root

-- the properties of each validated problem
unfoldable pub is_validated : Validated → Bool
is_validated p = parts_are_lawful p.parts && graph_fits p.parts p.order p.longest && boxes_fit p.parts p.lo p.hi

abbrev pub SealsTo : Validated → Result Validated SealFault → Type 0
SealsTo p (Ok q) = (q ≡ p) × (is_validated p ≡ true)
SealsTo p (Err NotParts) = is_validated p ≡ false
SealsTo p (Err Memory) = Unit {0}

-- the subproblem of a node
abbrev pub subproblem_of : Validated → ℕ → Option Subproblem
subproblem_of p m = option_and_then (λ n. slice_get p.parts.subs n.sub) (slice_get p.parts.nodes m)
