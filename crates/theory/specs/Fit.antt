-- The inequality that each cut of a pool keeps, so that no number that is computed from pools leaves 128 bits.
use Rattle.std.specs.Prelude.{◌≡◌, ℕ, ◌<◌, ◌^◌, ℤ, pos, ◌+ℤ◌, ◌*ℤ◌, ◌≤ℤ◌, List, length, All}
use Rattle.base_num.specs.Sums.{sum_to, entry}
use Rattle.theory.specs.declared.cut.Cut.{Cut}
use Rattle.theory.specs.Problem.{Successor, Node, Problem, node_at}
use Rattle.theory.specs.Pools.{pool}
use Rattle.theory.specs.Size.{magnitude, reach}

-- |alpha| + sum of |beta_k| * M_k
abbrev pub cut_size : Node → Cut → ℤ
cut_size n c = magnitude c.alpha +ℤ sum_to (length n.low) (λ k. magnitude (entry c.beta k) *ℤ reach n.low n.high k)

-- the cut has one slope per state and is small over the node's box
pub record CutFits (n : Node) (c : Cut) : Type 0 where
  pub slopes : length c.beta ≡ length n.low
  pub small : cut_size n c ≤ℤ pos (2 ^ 104)

-- one list of cuts for each of the count nodes, none empty, and each cut fits
pub record Fit (p : Problem) (count : ℕ) (pools : List (List Cut)) : Type 0 where
  pub lists : length pools ≡ count
  pub some : (m : ℕ) → m < count → 0 < length (pool pools m)
  pub cuts : (m : ℕ) → m < count → All (CutFits (node_at p m)) (pool pools m)

-- pools that fit for a node's successors alone
pub record FitFor (p : Problem) (count : ℕ) (pools : List (List Cut)) (m : ℕ) : Type 0 where
  pub lists : length pools ≡ count
  pub some : All (λ (l : Successor). 0 < length (pool pools l.node)) (node_at p m).successors
  pub cuts : All (λ (l : Successor). All (CutFits (node_at p l.node)) (pool pools l.node)) (node_at p m).successors
