-- A disk in memory as contracts see it, and what a call of it does.
use Rattle.std.specs.Prelude.{◌≡◌, ◌⊎◌, ℕ, ◌+◌, ◌≤◌, ◌<◌, max, List, [], ◌∷◌, ◌++◌, length, Option, Some, None, Contains}
use mathlib.Core.Logic.{inl}
use Rattle.std.proofs.Common.{sym, ap, subst}
use Rattle.std.proofs.Math.Nat.{le_refl}
use Rattle.std.proofs.lemmas.List.{take_all}
use Rattle.base_device.specs.Causes.{one_more}
use Rattle.base_device.specs.Changes.{Change, wrote, Contents, at_rest, after_changes, Placed, Image, ImageSince}
use Rattle.base_device.specs.Disks.{Store, Lawful}
use Rattle.base_device.specs.Histories.{MemoryHistory}
use Rattle.base_device.specs.Readings.{MemoryReadings}

-- a disk in memory
pub record MemoryDisk : Type 0 where
  pub initial : List ℕ  -- the bytes with which it was made
  pub log : List Change  -- what was written, cut and synced since
  pub taken : ℕ  -- how many bytes the written pieces have in all
  pub room : ℕ  -- how many they may have
  pub changes : ℕ  -- how many writes, cuts and syncs it takes
  pub fail : List ℕ  -- the numbers, from 0, of the calls that fail
  pub stop : Option ℕ  -- the number from which on each call fails
  pub calls : ℕ  -- how often it was called
  pub faults : ℕ  -- how often it failed
  pub longest : ℕ  -- the length of the longest read

abbrev pub contents_of : MemoryDisk → Contents
contents_of disk = after_changes disk.log (at_rest disk.initial)

-- the bytes that a read gives
abbrev pub reads : MemoryDisk → List ℕ
reads disk = (contents_of disk).kept

-- a call of this number is one that fails from a number on
abbrev pub IsPast : Option ℕ → ℕ → Type 0
IsPast None call = ⊥
IsPast (Some stop) call = stop ≤ call

-- the next call fails: its number is listed, or the calls are stopped
abbrev pub CallFails : MemoryDisk → Type 0
CallFails disk = Contains disk.fail disk.calls ⊎ IsPast disk.stop disk.calls

-- the next call fails if it is a cut or a sync, for which no change is left too
abbrev pub ChangeFails : MemoryDisk → Type 0
ChangeFails disk = CallFails disk ⊎ (disk.changes ≤ length disk.log)

-- and if it is a write of so many bytes, also where they would pass the room
abbrev pub DiskWriteFails : MemoryDisk → ℕ → Type 0
DiskWriteFails disk n = ChangeFails disk ⊎ (disk.room < disk.taken + n)

-- the disk after a call that failed, and after each that went through
abbrev pub after_failed : MemoryDisk → MemoryDisk
after_failed disk = record disk { calls = one_more disk.calls; faults = one_more disk.faults }

abbrev pub after_len : MemoryDisk → MemoryDisk
after_len disk = record disk { calls = one_more disk.calls }

abbrev pub after_read : MemoryDisk → ℕ → MemoryDisk
after_read disk n = record disk { calls = one_more disk.calls; longest = max disk.longest n }

abbrev pub after_change : MemoryDisk → Change → MemoryDisk
after_change disk change = record disk { log = disk.log ++ change ∷ []; calls = one_more disk.calls }

abbrev pub after_write : MemoryDisk → ℕ → List ℕ → MemoryDisk
after_write disk at piece = record disk { log = disk.log ++ wrote at piece ∷ []; taken = disk.taken + length piece; calls = one_more disk.calls }

-- a disk with these bytes, of which nothing was asked
abbrev pub fresh : List ℕ → List ℕ → ℕ → ℕ → MemoryDisk
fresh bytes fail room changes = record {
  initial = bytes;
  log = [];
  taken = 0;
  room = room;
  changes = changes;
  fail = fail;
  stop = None;
  calls = 0;
  faults = 0;
  longest = 0;
}

-- the parts of a disk in memory agree: what it reads is what its changes leave of the bytes with which it
-- was made, each write began inside it or at its end, and there is space for all that it takes
pub record Agrees (initial : List ℕ) (history : MemoryHistory) (readings : MemoryReadings) : Type 0 where
  pub contents : readings.contents ≡ after_changes history.log (at_rest initial)
  pub placed : Placed history.log (at_rest initial)
  pub least : length readings.contents.kept ≤ length initial + history.taken
  pub space : length initial + history.room ≤ readings.space

-- the state that a disk in memory tells
abbrev pub store_of : MemoryDisk → Store
store_of disk = record {
  reads = Some (reads disk);
  images = Image disk.log disk.initial;
  moment = length disk.log;
  since = ImageSince disk.log disk.initial;
}

-- the bytes that are told
abbrev told : Option (List ℕ) → List ℕ
told None = []
told (Some bytes) = bytes

pub lawful_store : (disk : MemoryDisk) → Lawful (store_of disk)
lawful_store disk = record {
  itself = λ bytes is. inl (sym (ap told is));
  counts_now = λ t c le now. (length disk.log, le, subst (λ (l : List Change). Image l disk.initial c) (sym (take_all (length disk.log) disk.log (le_refl (length disk.log)))) now);
  only_now = λ c left. subst (λ (l : List Change). Image l disk.initial c) (take_all left.0 disk.log left.1) left.2;
}
