-- Pools that were extended.
use Rattle.std.specs.Prelude.{◌≡◌, ℕ, ◌+◌, ◌≤◌, List, ◌++◌, length}
use Rattle.theory.specs.declared.cut.Cut.{Cut}
use Rattle.theory.specs.Pools.{pool}

-- each node's cuts stand in front, with at most so many behind them
pub record ExtendsPools (most : ℕ) (old new : List (List Cut)) : Type 0 where
  pub count : length new ≡ length old
  pub front : (m : ℕ) → (tail : List Cut) × (pool new m ≡ pool old m ++ tail)
  pub few : (m : ℕ) → length (pool new m) ≤ length (pool old m) + most
