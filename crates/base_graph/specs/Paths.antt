-- Paths in a graph of numbered nodes. The graph is a list: for each node the numbers of its successors.
use Rattle.std.specs.Prelude.{◌≡◌, ℕ, zero, suc, Bool, ◌||◌, ◌==◌, not, List, [], ◌∷◌, length, Option, get_or, Contains}
use Rattle.std.specs.List.{list_any, list_all, find, range_with_len}
use Rattle.std.specs.Prelude.{nat_lt}

-- 0, .., n - 1
abbrev pub numbers : ℕ → List ℕ
numbers n = range_with_len 0 n

-- each number that a node leads to is a node's
abbrev pub are_known : ℕ → List ℕ → Bool
are_known count ms = list_all (λ m. nat_lt m count) ms

abbrev pub is_graph : List (List ℕ) → Bool
is_graph g = list_all (are_known (length g)) g

-- the successors of the node m
abbrev pub arcs_from : List (List ℕ) → ℕ → List ℕ
arcs_from g m = get_or g m []

-- a path of at most n steps leads from m to j
abbrev pub within : List (List ℕ) → ℕ → ℕ → ℕ → Bool
within g zero m j = m == j
within g (suc n) m j = (m == j) || list_any (λ k. within g n k j) (arcs_from g m)

-- a path leads from one of these nodes to j. A path that visits no node twice has fewer steps than there are nodes.
unfoldable pub reached : List (List ℕ) → List ℕ → ℕ → Bool
reached g starts j = list_any (λ k. within g (length g) k j) starts

-- a path of at least one step leads from m to m
abbrev pub in_cycle : List (List ℕ) → ℕ → Bool
in_cycle g m = reached g (arcs_from g m) m

-- the least node that can reach itself
unfoldable pub first_in_cycle : List (List ℕ) → Option ℕ
first_in_cycle g = find (in_cycle g) (numbers (length g))

-- the least node that none of the starts reaches
unfoldable pub first_unreached : List (List ℕ) → List ℕ → Option ℕ
first_unreached g starts = find (λ m. not (reached g starts m)) (numbers (length g))

-- from m through these nodes, each a successor of the one before it, to j: a path of any length
abbrev pub Path : List (List ℕ) → ℕ → List ℕ → ℕ → Type 0
Path g m [] j = m ≡ j
Path g m (k ∷ ks) j = Contains (arcs_from g m) k × Path g k ks j

-- a path of any length leads from one of these nodes to j
abbrev pub Reaches : List (List ℕ) → List ℕ → ℕ → Type 0
Reaches g starts j = (k : ℕ) × (ks : List ℕ) × Contains starts k × Path g k ks j
