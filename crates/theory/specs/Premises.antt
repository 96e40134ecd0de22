-- The premises of the laws on a problem: lists that fit, weights, boxes inside boxes, and an order of the nodes.
use Rattle.std.specs.Prelude.{◌≡◌, ℕ, ◌<◌, ◌^◌, pos, ◌+ℤ◌, ◌≤ℤ◌, List, [], ◌∷◌, length, get_or, All, Contains, sum}
use Rattle.base_num.specs.Sums.{sum_to, entry}
use Rattle.theory.specs.declared.cut.Cut.{Cut}
use Rattle.theory.specs.Problem.{Successor, Node, Problem, node_at, successor_weights, realization_weight, successor_weight}
use Rattle.theory.specs.Pools.{pool}
use Rattle.theory.specs.Size.{reach}

-- the state that leaves n lies in m's box
pub record Nested (n m : Node) : Type 0 where
  pub count : length n.outs ≡ length m.low
  pub outs : (k : ℕ) → k < length m.low → get_or n.outs k 0 < length n.decision_low
  pub lows : (k : ℕ) → k < length m.low → entry m.low k ≤ℤ entry n.decision_low (get_or n.outs k 0)
  pub highs : (k : ℕ) → k < length m.low → entry n.decision_high (get_or n.outs k 0) ≤ℤ entry m.high k

-- the lists of a node fit, its weights are there, and the state that leaves it lies in the boxes of its successors
pub record Shaped (p : Problem) (n : Node) : Type 0 where
  pub decisions : length n.decision_low ≡ length n.costs
  pub states : length n.low ≡ length n.state_costs
  pub realizations : 0 < realization_weight n
  pub successors : 0 < successor_weight n
  pub nested : All (λ (l : Successor). Nested n (node_at p l.node)) n.successors

-- the initial state lies in n's box
pub record StartsIn (p : Problem) (n : Node) : Type 0 where
  pub count : length p.initial ≡ length n.low
  pub lows : (k : ℕ) → k < length n.low → entry n.low k ≤ℤ entry p.initial k
  pub highs : (k : ℕ) → k < length n.low → entry p.initial k ≤ℤ entry n.high k

-- the root has weight, and the initial state lies in the boxes of its successors
pub record RootShaped (p : Problem) : Type 0 where
  pub some : 0 < sum (successor_weights p.root)
  pub boxes : All (λ (l : Successor). StartsIn p (node_at p l.node)) p.root

-- each of these successors has a cut
abbrev pub HaveCuts : List (List Cut) → List Successor → Type 0
HaveCuts pools ls = All (λ (l : Successor). 0 < length (pool pools l.node)) ls

-- each node of the order is shaped and below count, and its successors, of some weight each, are among those done before
abbrev pub InOrder : Problem → ℕ → List ℕ → List ℕ → Type 0
InOrder p count done [] = Unit {0}
InOrder p count done (m ∷ ms) = (m < count) × Shaped p (node_at p m) × All (λ (l : Successor). (0 < l.weight) × Contains done l.node) (node_at p m).successors × InOrder p count (m ∷ done) ms

-- the nodes below count have weights and lead to nodes below count
pub record Known (p : Problem) (count : ℕ) : Type 0 where
  pub realizations : (m : ℕ) → m < count → 0 < realization_weight (node_at p m)
  pub weighted : (m : ℕ) → m < count → 0 < successor_weight (node_at p m)
  pub successors : (m : ℕ) → m < count → All (λ (l : Successor). l.node < count) (node_at p m).successors

-- the sides of the box are small enough for the law on the size of a cut: 1 + sum of M_k is at most 2^46
abbrev pub Narrow : Node → Type 0
Narrow n = (pos 1 +ℤ sum_to (length n.low) (reach n.low n.high)) ≤ℤ pos (2 ^ 46)
