-- How a disk in memory keeps its changes: their kinds beside the bytes of all pieces.
use Rattle.std.specs.Prelude.{ℕ, ◌+◌, List, [], ◌∷◌, take, drop}
use Rattle.base_device.specs.declared.memory_disk.history.HistoryEntry.{HistoryEntry}
use Rattle.base_device.specs.declared.memory_disk.history.HistoryEntry.TheVariants as entries
use Rattle.base_device.specs.Changes.{Change, wrote, cut_to, synced}

-- a history with the room for more
pub record MemoryHistory : Type 0 where
  pub log : List Change  -- the changes
  pub taken : ℕ  -- how many bytes their pieces have in all
  pub room : ℕ  -- how many they may have
  pub changes : ℕ  -- how many changes it takes

-- the changes of these entries, whose pieces stand one behind the other
abbrev pub logged : List HistoryEntry → List ℕ → List Change
logged [] pieces = []
logged (entries.Wrote at len ∷ tail) pieces = wrote at (take len pieces) ∷ logged tail (drop len pieces)
logged (entries.CutTo len ∷ tail) pieces = cut_to len ∷ logged tail pieces
logged (entries.Synced ∷ tail) pieces = synced ∷ logged tail pieces

-- how many bytes their pieces have in all
abbrev pub pieces_length : List HistoryEntry → ℕ
pieces_length [] = 0
pieces_length (entries.Wrote at len ∷ tail) = len + pieces_length tail
pieces_length (entries.CutTo len ∷ tail) = pieces_length tail
pieces_length (entries.Synced ∷ tail) = pieces_length tail
