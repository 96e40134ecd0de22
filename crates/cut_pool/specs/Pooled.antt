-- Pools as contracts see them.
use Rattle.std.specs.Prelude.{ℕ, List}
use Rattle.theory.specs.declared.cut.Cut.{Cut}

-- the cuts of a node, and how many more have room
pub record PooledCuts : Type 0 where
  pub cuts : List Cut
  pub spare : ℕ

pub record Pooled : Type 0 where
  -- the cuts of each node
  pub lists : List (List Cut)
  -- for each node, how many more cuts have room
  pub spare : List ℕ
