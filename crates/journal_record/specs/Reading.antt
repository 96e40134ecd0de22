-- Reading entries from left to right. A fault is told by the number of bytes from it to the end.
use Rattle.std.specs.Prelude.{◌≡◌, ◌≢◌, ℕ, zero, suc, ◌-◌, ◌==◌, ◌&&◌, ℤ, Bool, List, [], ◌∷◌, length, take, drop, Option, Some, None, Result, Ok, Err, nat_lt, nat_le, if◌then◌else◌}
use Rattle.std.specs.Int.{Width, w16, w32, w64, byte_len, from_be_bytes, cast_signed}
pub use Rattle.base_num.specs.Steps.{◌>>=◌}
use Rattle.base_num.specs.Steps.{GivesOr}
use Rattle.problem.specs.Validated.{Validated}
use Rattle.theory.specs.declared.cut.Certificate.{Certificate}
use Rattle.cut_pool.specs.declared.entry.Entry.{Entry}
use Rattle.cut_pool.specs.declared.entry.EntryStep.{EntryStep}
use Rattle.journal_record.specs.declared.sizes.Sizes.{Sizes}
use Rattle.journal_record.specs.declared.fault.ReadFault.{ReadFault}
use Rattle.journal_record.specs.declared.fault.ReadFault.TheVariants as reads
use Rattle.journal_record.specs.declared.fault.EntryFault.{EntryFault}
use Rattle.journal_record.specs.declared.fault.EntryFault.TheVariants as faults
use Rattle.journal_record.specs.Shape.{sizes_of, may_stand, IsBatch}
use Rattle.journal_record.specs.Spelling.{spell}

-- A function gives what the definition reads: its answer, seen by view, is equal to it, unless memory ran out.
abbrev pub ReadingFails : {Y : Type 0} → ReadFault → Result Y ℕ → Type 0
ReadingFails (reads.Bad left) read = read ≡ Err left
ReadingFails reads.Memory read = Unit {0}

abbrev pub ReadingGives : {X Y : Type 0} → (X → Y) → Result X ReadFault → Result Y ℕ → Type 0
ReadingGives view result read = GivesOr ReadingFails view result read

-- A field is a value and the bytes after it.
abbrev pub read_number_at : Width → List ℕ → Result (ℕ × List ℕ) ℕ
read_number_at w bytes = if nat_lt (length bytes) (byte_len w) then Err (length bytes) else Ok (from_be_bytes w (take (byte_len w) bytes), drop (byte_len w) bytes)

-- so many values one after another
unfoldable pub many : {A : Type 0} → (List ℕ → Result (A × List ℕ) ℕ) → ℕ → List ℕ → Result (List A × List ℕ) ℕ
many field zero bytes = Ok ([], bytes)
many field (suc n) bytes = do
  first ← field bytes
  others ← many field n first.1
  Ok (first.0 ∷ others.0, others.1)

unfoldable pub read_row_at : List ℕ → Result (ℤ × List ℕ) ℕ
read_row_at bytes = do
  n ← read_number_at w64 bytes
  Ok (cast_signed w64 n.0, n.1)

unfoldable pub pair_at : List ℕ → Result ((ℕ × ℕ) × List ℕ) ℕ
pair_at bytes = do
  place ← read_number_at w32 bytes
  multiplier ← read_number_at w64 place.1
  Ok ((place.0, multiplier.0), multiplier.1)

unfoldable pub pairs_at : List ℕ → Result (List (ℕ × ℕ) × List ℕ) ℕ
pairs_at bytes = do
  count ← read_number_at w32 bytes
  many pair_at count.0 count.1

unfoldable pub certificate_at : Sizes → List ℕ → Result (Certificate × List ℕ) ℕ
certificate_at z bytes = do
  rows ← many read_row_at z.rows bytes
  cuts ← many pairs_at z.successors rows.1
  Ok (record { rows = rows.0; cuts = cuts.0 }, cuts.1)

-- a node that may stand there
unfoldable pub entry_node_at : Validated → Option ℕ → Bool → List ℕ → Result (ℕ × List ℕ) ℕ
entry_node_at p before last bytes = do
  node ← read_number_at w16 bytes
  if may_stand p before last node.0 then Ok node else Err (length bytes)

unfoldable pub entry_step_at : Validated → Option ℕ → Bool → List ℕ → Result (EntryStep × List ℕ) ℕ
entry_step_at p before last bytes = do
  node ← entry_node_at p before last bytes
  list ← many (certificate_at (sizes_of p node.0)) (sizes_of p node.0).realizations node.1
  Ok (record { node = node.0; list = list.0 }, list.1)

unfoldable pub entry_steps_at : Validated → Option ℕ → ℕ → List ℕ → Result (List EntryStep × List ℕ) ℕ
entry_steps_at p before zero bytes = Ok ([], bytes)
entry_steps_at p before (suc n) bytes = do
  first ← entry_step_at p before (n == 0) bytes
  others ← entry_steps_at p (Some first.0.node) n first.1
  Ok (first.0 ∷ others.0, others.1)

-- the wanted iteration
unfoldable pub iteration_at : ℕ → List ℕ → Result (ℕ × List ℕ) ℕ
iteration_at wanted bytes = do
  n ← read_number_at w32 bytes
  if n.0 == wanted then Ok n else Err (length bytes)

-- at least one step, and no more than the longest path has nodes
unfoldable pub count_at : Validated → List ℕ → Result (ℕ × List ℕ) ℕ
count_at p bytes = do
  n ← read_number_at w16 bytes
  if nat_lt 0 n.0 && nat_le n.0 p.longest then Ok n else Err (length bytes)

unfoldable pub entry_at : Validated → ℕ → List ℕ → Result (Entry × List ℕ) ℕ
entry_at p wanted bytes = do
  iteration ← iteration_at wanted bytes
  unanswered ← read_number_at w32 iteration.1
  count ← count_at p unanswered.1
  steps ← entry_steps_at p None count.0 count.1
  Ok (record { iteration = iteration.0; unanswered = unanswered.0; steps = steps.0 }, steps.1)

-- so many entries, and no byte behind them
unfoldable pub entries_at : Validated → ℕ → ℕ → List ℕ → Result (List Entry) ℕ
entries_at p wanted count bytes = do
  entries ← many (entry_at p wanted) count bytes
  if length entries.1 == 0 then Ok entries.0 else Err (length entries.1)

-- a fault's place from the front, where so many bytes stand from it to the end
abbrev pub placed_from_front : {A : Type 0} → ℕ → Result A ℕ → Result A ℕ
placed_from_front total (Ok x) = Ok x
placed_from_front total (Err left) = Err (total - left)

-- The entries that the payload has, or the place of its first fault.
unfoldable pub read_batch : Validated → ℕ → ℕ → List ℕ → Result (List Entry) ℕ
read_batch p wanted count payload = placed_from_front (length payload) (entries_at p wanted count payload)

-- the answer is that of the definition, unless memory was refused
abbrev pub FailsAt : {Y : Type 0} → EntryFault → Result Y ℕ → Type 0
FailsAt (faults.Bad place) read = read ≡ Err place
FailsAt faults.Memory read = Unit {0}

abbrev pub Answers : {X Y : Type 0} → (X → Y) → Result X EntryFault → Result Y ℕ → Type 0
Answers view result read = GivesOr FailsAt view result read

-- The payload is the text of no such batch.
abbrev pub IsNoText : Validated → ℕ → ℕ → List ℕ → Type 0
IsNoText p iteration count payload = (es : List Entry) → IsBatch p iteration count es → payload ≢ spell es

-- where the answer is Bad
abbrev pub OnBad : {X : Type 0} → Result X EntryFault → Type 0 → Type 0
OnBad (Ok x) P = Unit {0}
OnBad (Err (faults.Bad place)) P = P
OnBad (Err faults.Memory) P = Unit {0}
