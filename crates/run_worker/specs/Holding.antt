-- The joined records that a worker holds between orders.
use Rattle.std.specs.Prelude.{ℕ, ◌≤◌, length}
use Rattle.problem.specs.Validated.{Validated}
use Rattle.journal_load.specs.declared.records.Gathered.{Gathered}
use Rattle.journal_load.specs.Accepted.{IsGathered}

-- The joined records of so many paths each: all certificates of their cuts were accepted, so each cut holds.
pub record Holds (p : Validated) (batch : ℕ) (g : Gathered) : Type 0 where
  pub some : 1 ≤ batch
  pub most : batch ≤ 64
  pub few : length g.bounds ≤ 2000
  pub gathered : IsGathered p batch (length g.bounds) g
