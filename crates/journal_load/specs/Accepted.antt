-- Lists of entries that are accepted over base cuts, and the properties of everything that is loaded.
use Rattle.std.specs.Prelude.{◌≡◌, ◌⊎◌, ◌≤◌, ◌+◌, ◌*◌, ◌^◌, ℕ, List, length, All, Ok}
use Rattle.std.specs.List.{AllByRecursion}
use Rattle.problem.specs.Validated.{Validated}
use Rattle.theory.specs.declared.cut.Cut.{Cut}
use Rattle.theory.specs.Pools.{pool, Sound}
use Rattle.theory.specs.Bound.{Under}
use Rattle.theory.specs.View.{problem_of}
use Rattle.cut_pool.specs.AtNodes.{PoolsFit}
use Rattle.cut_pool.specs.declared.entry.Entry.{Entry}
use Rattle.journal_record.specs.Backwards.{IsPathFromRoot, nodes_back}
use Rattle.journal_load.specs.declared.loaded.Loaded.{Loaded}
use Rattle.journal_load.specs.declared.records.Gathered.{Gathered}
use Rattle.journal_load.specs.Records.{Found, fresh_found, gathered_found, lists_added}
use Rattle.journal_load.specs.RootValues.{root_values}

-- at most 64 entries, and the nodes of each, read backwards, are a path from the root
pub record IsRecord (p : Validated) (entries : List Entry) : Type 0 where
  pub few : length entries ≤ 64
  pub paths : AllByRecursion (λ (e : Entry). IsPathFromRoot p (nodes_back e.steps)) entries

-- At most 2,000 such lists, of which all steps are accepted one after the other over the base cuts, each with its cut appended; and their
-- findings.
pub record Accepted (p : Validated) (base : List (List Cut)) (lists : List (List Entry)) (found : Found) : Type 0 where
  pub few : length lists ≤ 2000
  pub records : AllByRecursion (IsRecord p) lists
  pub added : lists_added p (fresh_found base) lists ≡ Ok found

-- the findings of records over base cuts, with so many paths to a record, after i of them
pub record IsSound (p : Validated) (batch i : ℕ) (found : Found) : Type 0 where
  -- each cut holds at its node
  pub sound : Sound (problem_of p) found.pools
  -- no number that is computed from the cuts leaves 128 bits
  pub fit : PoolsFit p found.pools
  -- each bound is at most the cost of each policy
  pub under : All (Under (problem_of p)) found.bounds
  pub count : length found.bounds ≡ i
  -- the base cut, and at most one for each path
  pub cuts : (m : ℕ) → length (pool found.pools m) ≤ 1 + i * batch
  pub unanswered : found.unanswered ≤ i * 2 ^ 38

-- what was gathered from i records, one by one, over base cuts
pub record IsGathered (p : Validated) (batch i : ℕ) (g : Gathered) : Type 0 where
  pub sound : IsSound p batch i (gathered_found g)
  -- the values are those of all cuts
  pub values : g.values ≡ root_values p g.pools.lists

-- the properties of everything that is loaded, over any disk
pub record IsSafe (p : Validated) (l : Loaded) : Type 0 where
  -- each cut holds at its node
  pub sound : Sound (problem_of p) l.pools.lists
  -- no number that is computed from the cuts leaves 128 bits
  pub fit : PoolsFit p l.pools.lists
  -- each bound is at most the cost of each policy
  pub under : All (Under (problem_of p)) l.bounds
  pub few : length l.bounds ≤ 2000
  -- the base cut, and at most one for each path
  pub cuts : (m : ℕ) → length (pool l.pools.lists m) ≤ 1 + length l.bounds * l.batch
  pub version : ((l.version ≡ 1) × (l.batch ≡ 1)) ⊎ ((l.version ≡ 2) × (1 ≤ l.batch) × (l.batch ≤ 64))
  pub end : l.end ≤ 2 ^ 38
  pub unanswered : l.unanswered ≤ 2 ^ 50
