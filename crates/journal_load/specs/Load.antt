-- Load: the outcome of a journal's bytes.
use Rattle.std.specs.Prelude.{◌≡◌, ℕ, ◌-◌, ℤ, Bool, true, false, List, [], ◌==◌, Option, Some, None, Result, Ok, Err, if◌then◌else◌}
use Rattle.std.specs.Str.{bytes_eq}
pub use Rattle.base_num.specs.Steps.{◌>>=◌}
use Rattle.problem.specs.Validated.{Validated}
use Rattle.theory.specs.declared.cut.Cut.{Cut}
use Rattle.cut_pool.specs.declared.entry.Entry.{Entry}
use Rattle.journal_file.specs.declared.head.Head.{Head}
use Rattle.journal_file.specs.declared.head.Head.TheVariants.{Uncommitted, Committed}
use Rattle.journal_file.specs.Head.{head_of}
use Rattle.journal_file.specs.Layout.{Title, new_title, head_length}
use Rattle.journal_load.specs.declared.refusal.JournalRefusal.TheVariants.{OtherProblem, OtherSeed, OtherBatch}
use Rattle.journal_load.specs.declared.refusal.LoadFault.{LoadFault}
use Rattle.journal_load.specs.declared.refusal.LoadFault.TheVariants.{Refused}
use Rattle.journal_load.specs.declared.loaded.Loaded.{Loaded}
use Rattle.journal_load.specs.Refusals.{of_head, with_fault, LoadFails}
use Rattle.journal_load.specs.Records.{Found, fresh_found, Ended, AreListsKept, records_at}

-- the outcome of loading
pub record Outcome : Type 0 where
  pub pools : List (List Cut)
  pub bounds : List ℤ
  pub unanswered : ℕ
  pub committed : Bool
  pub end : ℕ
  pub tail : ℕ
  pub version : ℕ
  pub batch : ℕ

abbrev pub same_problem : List ℕ → List ℕ → Result (Unit {0}) LoadFault
same_problem asked kept = if bytes_eq kept asked then Ok tt else Err (Refused (OtherProblem kept asked))

-- where a seed is asked
abbrev pub same_seed : Option ℕ → ℕ → Result (Unit {0}) LoadFault
same_seed None kept = Ok tt
same_seed (Some asked) kept = if kept == asked then Ok tt else Err (Refused (OtherSeed kept asked))

-- where a batch is asked
abbrev pub same_batch : Option ℕ → ℕ → Result (Unit {0}) LoadFault
same_batch None kept = Ok tt
same_batch (Some asked) kept = if kept == asked then Ok tt else Err (Refused (OtherBatch kept asked))

-- the title is the asked one, as far as it is asked
unfoldable pub title_asked : List ℕ → Option ℕ → Option ℕ → List ℕ → ℕ → ℕ → Result (Unit {0}) LoadFault
title_asked digest seed batch kept own paths = do
  problem ← same_problem digest kept
  seed' ← same_seed seed own
  same_batch batch paths

-- a journal that is not committed: its version and batch are those that it would be begun with
abbrev pub uncommitted : List (List Cut) → Option ℕ → Outcome
uncommitted base batch =
    let t : Title = new_title [] 0 batch in
    record { pools = base; bounds = []; unanswered = 0; committed = false; end = 0; tail = 0; version = t.version; batch = t.batch }

abbrev pub committed : ℕ → ℕ → Ended → Outcome
committed version batch e = record { pools = e.found.pools; bounds = e.found.bounds; unanswered = e.found.unanswered; committed = true; end = e.end; tail = e.tail; version = version; batch = batch }

-- the place of the first commit byte: the head's last byte
abbrev pub first_commit_byte : ℕ → ℕ
first_commit_byte version = head_length version - 1

-- the outcome of a journal with a committed header of this version and batch over the base cuts
unfoldable pub load_records : Validated → List (List Cut) → List ℕ → ℕ → ℕ → Result (Outcome × List (List Entry)) LoadFault
load_records p base bytes version batch = do
  ended ← records_at p batch bytes 2000 (first_commit_byte version) (fresh_found base) []
  Ok (committed version batch ended, ended.lists)

-- the outcome of a journal with this head
unfoldable pub load_from : Validated → List (List Cut) → List ℕ → Option ℕ → Option ℕ → List ℕ → Head → Result (Outcome × List (List Entry)) LoadFault
load_from p base digest seed batch bytes (Uncommitted length) = Ok (uncommitted base batch, [])
load_from p base digest seed batch bytes (Committed version kept own paths) = do
  title ← title_asked digest seed batch kept own paths
  load_records p base bytes version paths

-- Load: the outcome, with the entries of each record, over the base cuts; or the first refusal. A digest, and perhaps a seed and a
-- batch, are asked.
unfoldable pub load_of : Validated → List (List Cut) → List ℕ → Option ℕ → Option ℕ → List ℕ → Result (Outcome × List (List Entry)) LoadFault
load_of p base digest seed batch bytes = do
  head ← with_fault of_head (head_of bytes)
  load_from p base digest seed batch bytes head

-- without the entries
abbrev pub outcome_of : Result (Outcome × List (List Entry)) LoadFault → Result Outcome LoadFault
outcome_of (Ok x) = Ok x.0
outcome_of (Err e) = Err e

-- the loaded journal, as an outcome
abbrev pub seen_outcome : Loaded → Outcome
seen_outcome l = record { pools = l.pools.lists; bounds = l.bounds; unanswered = l.unanswered; committed = l.committed; end = l.end; tail = l.tail; version = l.version; batch = l.batch }

abbrev pub found_in : Loaded → Found
found_in l = record { pools = l.pools.lists; bounds = l.bounds; unanswered = l.unanswered }

-- code answers as the definition does, with the entries as far as they are kept
abbrev pub LoadsAs : Option (List (List Entry)) → Result Loaded LoadFault → Result (Outcome × List (List Entry)) LoadFault → Type 0
LoadsAs kept (Ok l) load = (lists : List (List Entry)) × AreListsKept kept lists × (load ≡ Ok (seen_outcome l, lists))
LoadsAs kept (Err e) load = LoadFails e load
