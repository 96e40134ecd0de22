-- Decision trees, and when one is feasible.
-- Source: the scenario tree of a policy over a policy graph, Dowson 2020.
use Rattle.std.specs.Prelude.{◌≡◌, ℕ, ◌<◌, ℤ, pos, ◌+ℤ◌, ◌*ℤ◌, ◌≤ℤ◌, List, [], ◌∷◌, length, map, All, Option, Some, None}
use Rattle.base_num.specs.Sums.{entry, at_terms}
use Rattle.problem.specs.declared.parts.Row.{Row}
use Rattle.theory.specs.Problem.{Realization, Successor, Node, Problem, node_at}

-- decisions are whole numbers in units of 1/N
mutual
  -- one branch per realization: its decisions, its successors' trees, and the branches after it
  pub data Tree : Type 0 where
    no_branch : Tree
    branch : List ℤ → Forest → Tree → Tree

  -- one tree per successor
  pub data Forest : Type 0 where
    no_tree : Forest
    tree : Tree → Forest → Forest

-- the numbers xs, in units of 1/N, lie in the box
pub record InBox (units : ℕ) (low high xs : List ℤ) : Type 0 where
  pub count : length xs ≡ length low
  pub above : (k : ℕ) → k < length low → (pos units *ℤ entry low k) ≤ℤ entry xs k
  pub below : (k : ℕ) → k < length low → entry xs k ≤ℤ (pos units *ℤ entry high k)

abbrev pub AtLeast : Option ℤ → ℕ → ℤ → Type 0
AtLeast None units left = Unit {0}
AtLeast (Some low) units left = (pos units *ℤ low) ≤ℤ left

abbrev pub AtMost : Option ℤ → ℕ → ℤ → Type 0
AtMost None units left = Unit {0}
AtMost (Some high) units left = left ≤ℤ (pos units *ℤ high)

-- a·u + b·xi + N*(g·omega)
abbrev pub left_side : ℕ → List ℤ → List ℤ → List ℤ → Row → ℤ
left_side units values xi u row = at_terms row.decisions (entry u) +ℤ at_terms row.states (entry xi) +ℤ pos units *ℤ at_terms row.randoms (entry values)

pub record RowHolds (units : ℕ) (values xi u : List ℤ) (row : Row) : Type 0 where
  pub low : AtLeast row.low units (left_side units values xi u row)
  pub high : AtMost row.high units (left_side units values xi u row)

-- the decisions u lie in their boxes and meet the rows
pub record Decides (units : ℕ) (n : Node) (values xi u : List ℤ) : Type 0 where
  pub box : InBox units n.decision_low n.decision_high u
  pub rows : All (RowHolds units values xi u) n.rows

-- out(u): the outgoing state
abbrev pub next_state : Node → List ℤ → List ℤ
next_state n u = map (λ p. entry u p) n.outs

abbrev mutual
  pub FeasibleTree : Problem → ℕ → Node → List Realization → List ℤ → Tree → Type 0
  FeasibleTree p units n [] xi no_branch = Unit {0}
  FeasibleTree p units n (r ∷ rs) xi no_branch = ⊥
  FeasibleTree p units n [] xi (branch u f t) = ⊥
  FeasibleTree p units n (r ∷ rs) xi (branch u f t) = Decides units n r.values xi u × FeasibleForest p units n.successors (next_state n u) f × FeasibleTree p units n rs xi t

  pub FeasibleForest : Problem → ℕ → List Successor → List ℤ → Forest → Type 0
  FeasibleForest p units [] x no_tree = Unit {0}
  FeasibleForest p units (l ∷ ls) x no_tree = ⊥
  FeasibleForest p units [] x (tree t f) = ⊥
  FeasibleForest p units (l ∷ ls) x (tree t f) = FeasibleTree p units (node_at p l.node) (node_at p l.node).realizations x t × FeasibleForest p units ls x f

-- the tree decides feasibly at the node m, whose incoming state is xi
abbrev pub Feasible : Problem → ℕ → ℕ → List ℤ → Tree → Type 0
Feasible p units m xi t = FeasibleTree p units (node_at p m) (node_at p m).realizations xi t

abbrev pub times_all : ℕ → List ℤ → List ℤ
times_all units xs = map (λ x. pos units *ℤ x) xs

-- one tree per successor of the root, each feasible at N times the initial state
abbrev pub Policy : Problem → ℕ → Forest → Type 0
Policy p units f = FeasibleForest p units p.root (times_all units p.initial) f
