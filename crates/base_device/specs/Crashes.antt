-- The bytes that a disk in memory reads after each kind of crash.
use Rattle.std.specs.Prelude.{◌≡◌, ◌⊎◌, ℕ, ◌+◌, ◌≤◌, ◌<◌, List, [], ◌∷◌, length, get_or}
use Rattle.base_device.specs.declared.memory_disk.Crash.{Crash}
use Rattle.base_device.specs.declared.memory_disk.Crash.TheVariants as crashes
use Rattle.base_device.specs.Changes.{Change, wrote, cut_to, synced}
use Rattle.base_device.specs.MemoryDisks.{MemoryDisk, contents_of, reads}

abbrev pub left_by : Crash → MemoryDisk → List ℕ
left_by crashes.Kept disk = (contents_of disk).kept
left_by crashes.Lost disk = (contents_of disk).lost
left_by crashes.Torn disk = (contents_of disk).torn

-- this place was written since the last sync; `before` says it of what came before these changes
abbrev pub Rewritten : Type 0 → List Change → ℕ → Type 0
Rewritten before [] i = before
Rewritten before (wrote at piece ∷ changes) i = Rewritten (before ⊎ ((at ≤ i) × (i < at + length piece))) changes i
Rewritten before (cut_to len ∷ changes) i = Rewritten before changes i
Rewritten before (synced ∷ changes) i = Rewritten ⊥ changes i

-- these bytes are as many as a read gives, 165 in each place that was written since the last sync, and
-- as much elsewhere
pub record IsTorn (disk : MemoryDisk) (bytes : List ℕ) : Type 0 where
  pub long : length bytes ≡ length (reads disk)
  pub marked : (i : ℕ) → i < length bytes → Rewritten ⊥ disk.log i → get_or bytes i 0 ≡ 165
  pub others : (i : ℕ) → i < length bytes → (Rewritten ⊥ disk.log i → ⊥) → get_or bytes i 0 ≡ get_or (reads disk) i 0
