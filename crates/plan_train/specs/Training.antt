-- The loaded outcome and the journal, as training leaves them.
use Rattle.std.specs.Prelude.{◌≡◌, ◌⊎◌, ℕ, ◌+◌, ◌-◌, ◌*◌, ◌≤◌, ◌^◌, max, true, false, List, [], ◌∷◌, ◌++◌, length, map, take, drop, if◌then◌else◌, Option, Some, None, Result, Ok, Err}
use Rattle.std.specs.List.{sum_by}
use Rattle.problem.specs.Validated.{Validated}
use Rattle.problem.specs.Formulas.{too_much}
use Rattle.theory.specs.Pools.{pool}
use Rattle.cut_pool.specs.AtNodes.{PoolsFit}
use Rattle.plan_answer.specs.declared.plan_fault.PlanFault.{PlanFault}
use Rattle.plan_answer.specs.declared.plan_fault.PlanFault.TheVariants.{Infeasible, Range, DiskFault, Memory}
use Rattle.cut_pool.specs.declared.entry.Entry.{Entry}
use Rattle.journal_record.specs.Spelling.{spell}
use Rattle.journal_file.specs.Layout.{Title, front, records}
use Rattle.journal_file.specs.IsPrefix.{Uncommitted, Grown, IsPrefix}
use Rattle.journal_load.specs.Load.{Outcome, first_commit_byte}
use Rattle.lp_program.specs.Solving.{Solving}
use Rattle.plan_train.specs.Continuing.{Continued, continued}

-- the premises of training on the loaded outcome, with so many iterations to come to in all
pub record CanTrain (p : Validated) (count : ℕ) (o : Outcome) : Type 0 where
  pub fit : PoolsFit p o.pools
  pub iterations : count ≤ 2000
  pub few : length o.bounds ≤ 2000
  -- the base cut, and at most one for each path
  pub cuts : (m : ℕ) → length (pool o.pools m) ≤ 1 + length o.bounds * o.batch
  pub version : ((o.version ≡ 1) × (o.batch ≡ 1)) ⊎ ((o.version ≡ 2) × (1 ≤ o.batch) × (o.batch ≤ 64))
  pub end : o.end ≤ 2 ^ 38
  pub unanswered : o.unanswered ≤ 2 ^ 50
  pub room : too_much p (max count (length o.bounds)) o.batch ≡ None

-- the title of the journal
abbrev pub title_of : List ℕ → ℕ → Outcome → Title
title_of digest seed o = record { version = o.version; digest = digest; seed = seed; batch = o.batch }

-- the payload of each iteration
abbrev pub payloads : List (List Entry) → List (List ℕ)
payloads lists = map spell lists

-- the sum of the unanswered solves that all entries state
abbrev pub unanswered_in : List (List Entry) → ℕ
unanswered_in lists = sum_by (sum_by (λ (e : Entry). e.unanswered)) lists

-- the place of the last commit byte that was loaded, or of the first one of a journal that is not committed yet
abbrev pub last_commit_byte : Outcome → ℕ
last_commit_byte o = if o.committed then o.end else first_commit_byte o.version

-- the iterations behind those that were loaded, up to so many in all
abbrev pub iterations : {Start Chain : Type 0} → Solving Start Chain → Validated → ℕ → ℕ → Outcome → Continued
iterations v p seed count o = continued v p o.pools seed o.batch (length o.bounds) (count - length o.bounds)

-- the loaded outcome, once the journal is committed and ends with a commit byte of 0
abbrev pub opened : Outcome → Outcome
opened o = record { pools = o.pools; bounds = o.bounds; unanswered = o.unanswered; committed = true; end = last_commit_byte o; tail = 0; version = o.version; batch = o.batch }

-- the loaded outcome, with the outcome of iterations behind it
abbrev pub trained : Outcome → Continued → Outcome
trained o c = record {
  pools = c.pools;
  bounds = o.bounds ++ c.bounds;
  unanswered = o.unanswered + unanswered_in c.lists;
  committed = true;
  end = last_commit_byte o + length (records (payloads c.lists));
  tail = 0;
  version = o.version;
  batch = o.batch;
}

-- the bytes before the last commit byte that was loaded, as they were read
abbrev pub loaded_front : List ℕ → ℕ → Outcome → List ℕ → List ℕ
loaded_front digest seed o bytes = if o.committed then take o.end bytes else front (title_of digest seed o) []

-- the journal with the records of these lists behind those that were loaded, a commit byte of 0 and no rest
abbrev pub grown_journal : List ℕ → ℕ → Outcome → List ℕ → List (List Entry) → List ℕ
grown_journal digest seed o bytes lists = loaded_front digest seed o bytes ++ records (payloads lists) ++ 0 ∷ []

-- the loaded outcome stands in the bytes: a journal of the first j of these payloads up to its last commit byte, or one that is not committed yet
pub data HoldsPrefix (t : Title) (o : Outcome) (ps : List (List ℕ)) (j : ℕ) (bytes : List ℕ) : Type 0 where
  uncommitted : o.committed ≡ false → j ≡ 0 → Uncommitted t bytes → HoldsPrefix t o ps j bytes
  committed : o.committed ≡ true → o.end ≡ length (front t (take j ps)) → Grown t ps j bytes → HoldsPrefix t o ps j bytes

-- the bytes stand for the first j of these payloads, or for more
abbrev pub IsPrefixFrom : Title → List (List ℕ) → ℕ → List ℕ → Type 0
IsPrefixFrom t ps j bytes = (k : ℕ) × (j ≤ k) × IsPrefix t ps k bytes

-- from the number j on these payloads are those of the lists, and perhaps more behind them
abbrev pub GoesOnWith : ℕ → List (List ℕ) → List (List Entry) → Type 0
GoesOnWith j ps lists = (j ≤ length ps) × (more : List (List ℕ)) × (drop j ps ≡ payloads lists ++ more)

-- the fault at which the iterations stop, if they do; a fault of the disk and want of memory are free
abbrev pub StopsAs : {A : Type 0} → Result A PlanFault → Option PlanFault → Type 0
StopsAs (Ok x) stop = stop ≡ None
StopsAs (Err (Infeasible infeasible)) stop = stop ≡ Some (Infeasible infeasible)
StopsAs (Err (Range k m r)) stop = stop ≡ Some (Range k m r)
StopsAs (Err DiskFault) stop = Unit {0}
StopsAs (Err Memory) stop = Unit {0}

-- a property once all iterations are done that the definition has
abbrev pub WhenWhole : {A : Type 0} → Result A PlanFault → Type 0 → Type 0
WhenWhole (Ok x) P = P
WhenWhole (Err (Infeasible infeasible)) P = P
WhenWhole (Err (Range k m r)) P = P
WhenWhole (Err DiskFault) P = Unit {0}
WhenWhole (Err Memory) P = Unit {0}
