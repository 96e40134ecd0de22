-- The records of a journal, one after the other.
use Rattle.std.specs.Prelude.{◌≡◌, ℕ, zero, suc, ◌+◌, ℤ, List, [], ◌∷◌, ◌++◌, length, Option, Some, None, IfSome, Result, Ok, Err}
use Rattle.std.specs.List.{sum_by}
pub use Rattle.base_num.specs.Steps.{◌>>=◌}
use Rattle.problem.specs.Validated.{Validated}
use Rattle.problem.specs.Formulas.{too_much}
use Rattle.theory.specs.declared.cut.Cut.{Cut}
use Rattle.theory.specs.Bound.{bound}
use Rattle.theory.specs.View.{problem_of}
use Rattle.cut_pool.specs.declared.entry.Entry.{Entry}
use Rattle.journal_record.specs.Reading.{read_batch}
use Rattle.journal_record.specs.declared.fault.EntryFault.TheVariants.{Bad}
use Rattle.journal_file.specs.declared.commit_byte.CommitByte.{CommitByte}
use Rattle.journal_file.specs.declared.commit_byte.CommitByte.TheVariants.{Clear, Set}
use Rattle.journal_file.specs.CommitBytes.{commit_byte_of, payload_of}
use Rattle.journal_load.specs.declared.refusal.JournalRefusal.TheVariants.{TooMany}
use Rattle.journal_load.specs.declared.refusal.LoadFault.{LoadFault}
use Rattle.journal_load.specs.declared.refusal.LoadFault.TheVariants.{Refused}
use Rattle.journal_load.specs.declared.records.Gathered.{Gathered}
use Rattle.journal_load.specs.declared.records.End.{End}
use Rattle.journal_load.specs.Refusals.{of_commit_byte, of_payload, of_entries, with_fault, within_formula, LoadFails}
use Rattle.journal_load.specs.Cuts.{entries_added}

-- the findings of records
pub record Found : Type 0 where
  pub pools : List (List Cut)
  -- the bound after each record
  pub bounds : List ℤ
  -- the sum of the unanswered solves that the entries state
  pub unanswered : ℕ

-- before the first record
abbrev pub fresh_found : List (List Cut) → Found
fresh_found base = record { pools = base; bounds = []; unanswered = 0 }

-- a record more: the cuts of its entries, and then the bound
unfoldable pub record_added : Validated → Found → List Entry → Result Found LoadFault
record_added p found entries = do
  pools ← entries_added p found.pools entries
  Ok (record {
    pools = pools;
    bounds = found.bounds ++ bound (problem_of p) pools ∷ [];
    unanswered = found.unanswered + sum_by (λ (e : Entry). e.unanswered) entries;
  })

-- one record after the other
unfoldable pub lists_added : Validated → Found → List (List Entry) → Result Found LoadFault
lists_added p found [] = Ok found
lists_added p found (es ∷ lists) = do
  next ← record_added p found es
  lists_added p next lists

-- the entries of iteration k behind the commit byte of 1 at a place, and the place of the next commit byte
unfoldable pub record_entries_at : Validated → ℕ → List ℕ → ℕ → ℕ → Result (List Entry × ℕ) LoadFault
record_entries_at p batch bytes k at = do
  formulas ← within_formula (too_much p k batch)
  payload ← with_fault (of_payload k) (payload_of bytes at)
  entries ← with_fault (λ place. of_entries k (Bad place)) (read_batch p k batch payload)
  Ok (entries, at + 5 + length payload)

-- the record behind the commit byte of 1 at a place: its entries, the place of the next commit byte, and the findings with them
unfoldable pub record_at : Validated → ℕ → List ℕ → ℕ → Found → Result (List Entry × ℕ × Found) LoadFault
record_at p batch bytes at found = do
  read ← record_entries_at p batch bytes (suc (length found.bounds)) at
  next ← record_added p found read.0
  Ok (read.0, read.1, next)

-- the findings with one record more, of this payload
unfoldable pub payload_added : Validated → ℕ → List ℕ → Found → Result Found LoadFault
payload_added p batch payload found = do
  formulas ← within_formula (too_much p (length found.bounds + 1) batch)
  entries ← with_fault (λ place. of_entries (length found.bounds + 1) (Bad place)) (read_batch p (length found.bounds + 1) batch payload)
  record_added p found entries

-- the end of the records, and their findings
pub record Ended : Type 0 where
  pub found : Found
  pub lists : List (List Entry)
  -- the place of the commit byte of 0, and the number of bytes behind it
  pub end : ℕ
  pub tail : ℕ

-- the number of bytes behind the commit byte at a place where it is 0, none where it is 1
abbrev pub rest_behind : CommitByte → Option ℕ
rest_behind (Clear tail) = Some tail
rest_behind Set = None

unfoldable pub rest_at : List ℕ → ℕ → Result (Option ℕ) LoadFault
rest_at bytes at = do
  commit_byte ← with_fault of_commit_byte (commit_byte_of bytes at)
  Ok (rest_behind commit_byte)

-- the end where the commit byte is 0, else the records behind it
abbrev pub or_more : Option ℕ → (ℕ → Ended) → Result Ended LoadFault → Result Ended LoadFault
or_more (Some tail) ended more = Ok (ended tail)
or_more None ended more = more

-- the records from the commit byte at a place on, of which at most `left` are more
unfoldable pub records_at : Validated → ℕ → List ℕ → ℕ → ℕ → Found → List (List Entry) → Result Ended LoadFault
records_at p batch bytes zero at found lists = do
  tail ← rest_at bytes at
  or_more tail (λ n. record { found = found; lists = lists; end = at; tail = n }) (Err (Refused TooMany))
records_at p batch bytes (suc left) at found lists = do
  tail ← rest_at bytes at
  or_more tail (λ n. record { found = found; lists = lists; end = at; tail = n }) (do
    read ← record_at p batch bytes at found
    records_at p batch bytes left read.1 read.2 (lists ++ read.0 ∷ []))

-- The contracts of code that reads records: these end as the definition says, with the entries as far as they are kept.

-- the lists are those that were kept, where they are kept
abbrev pub AreListsKept : Option (List (List Entry)) → List (List Entry) → Type 0
AreListsKept kept lists = IfSome kept (λ k. k ≡ lists)

abbrev pub gathered_found : Gathered → Found
gathered_found g = record { pools = g.pools.lists; bounds = g.bounds; unanswered = g.unanswered }

abbrev pub EndsAs : Option (List (List Entry)) → Found → Result End LoadFault → Result Ended LoadFault → Type 0
EndsAs kept found (Ok e) load = (lists : List (List Entry)) × AreListsKept kept lists × (load ≡ Ok (record { found = found; lists = lists; end = e.end; tail = e.tail }))
EndsAs kept found (Err f) load = LoadFails f load
