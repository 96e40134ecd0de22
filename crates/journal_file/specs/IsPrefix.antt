-- The bytes that a crash may leave of a journal while it grows.
use Rattle.std.specs.Prelude.{◌≡◌, ◌≢◌, ◌≤◌, ◌<◌, ℕ, List, [], ◌∷◌, ◌++◌, length, take, get_or, IfSome}
use Rattle.base_device.specs.Disks.{Store}
use Rattle.base_device.specs.Since.{LeavesOnly}
use Rattle.journal_file.specs.Layout.{Title, title_bytes, body_of, front, journal}

-- not committed yet: no byte or one; or a header's commit byte of 0 and at most the longer head; or the whole head with a header's commit byte
-- that is half written
pub data Uncommitted (t : Title) (bytes : List ℕ) : Type 0 where
  short : length bytes ≤ 1 → Uncommitted t bytes
  zero_byte : get_or bytes 0 0 ≡ 0 → length bytes ≤ 54 → Uncommitted t bytes
  half_committed : (header_commit : ℕ) → header_commit ≢ 0 → header_commit ≢ 1 → bytes ≡ header_commit ∷ title_bytes t ++ 0 ∷ [] → Uncommitted t bytes

-- the bytes are a journal of the first j of these payloads: with a commit byte of 0 and any rest, or with a half-written
-- commit byte before the next record
pub data Grown (t : Title) (payloads : List (List ℕ)) (j : ℕ) (bytes : List ℕ) : Type 0 where
  clear : j ≤ length payloads → (tail : List ℕ) → bytes ≡ journal t (take j payloads) 0 tail → Grown t payloads j bytes
  half_open : j < length payloads → (commit_byte : ℕ) → commit_byte ≢ 0 → commit_byte ≢ 1 → bytes ≡ journal t (take j payloads) commit_byte (body_of (get_or payloads j [])) → Grown t payloads j bytes

-- the bytes stand for the first j of these payloads
pub data IsPrefix (t : Title) (payloads : List (List ℕ)) (j : ℕ) (bytes : List ℕ) : Type 0 where
  uncommitted : j ≡ 0 → Uncommitted t bytes → IsPrefix t payloads j bytes
  committed : Grown t payloads j bytes → IsPrefix t payloads j bytes

-- a journal of at least the first j
abbrev pub IsGrownPrefix : Title → List (List ℕ) → ℕ → List ℕ → Type 0
IsGrownPrefix t payloads j bytes = (k : ℕ) × (j ≤ k) × Grown t payloads k bytes

-- of bytes that stand for no record, a crash at any moment leaves bytes that stand for none
abbrev pub LeavesPrefix : Store → Store → Type 0
LeavesPrefix old new = IfSome old.reads (λ bytes. (t : Title) (payloads : List (List ℕ)) → length t.digest ≡ 32 → IsPrefix t payloads 0 bytes → LeavesOnly old new (IsPrefix t payloads 0))

-- of a journal whose last commit byte stands at this place, a crash at any moment leaves a journal of at least its records
abbrev pub LeavesGrown : ℕ → Store → Store → Type 0
LeavesGrown at old new = IfSome old.reads (λ bytes. (t : Title) (payloads : List (List ℕ)) (j : ℕ) → at ≡ length (front t (take j payloads)) → Grown t payloads j bytes → LeavesOnly old new (IsGrownPrefix t payloads j))
