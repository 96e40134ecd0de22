-- A source and a sink in memory, as contracts see them, and what a call of theirs does.
use Rattle.std.specs.Prelude.{ℕ, ◌+◌, ◌<◌, ◌⊎◌, min, List, ◌++◌, length, drop, Contains}
use Rattle.base_device.specs.Causes.{one_more}

-- a source in memory
pub record MemorySource : Type 0 where
  pub left : List ℕ  -- the bytes that it has left
  pub most : ℕ  -- how many bytes one call hands over at most
  pub calls : ℕ  -- how often it was called
  pub faults : ℕ  -- how often it failed
  pub fail : List ℕ  -- the numbers, from 0, of the calls that fail

-- a sink in memory
pub record MemorySink : Type 0 where
  pub taken : List ℕ  -- the bytes that it has taken
  pub room : ℕ  -- how many bytes it takes in all
  pub most : ℕ  -- how many bytes one call takes at most
  pub calls : ℕ  -- how often it was called
  pub faults : ℕ  -- how often it failed
  pub fail : List ℕ  -- the numbers, from 0, of the calls that fail

-- how many bytes a read into a buffer of this length hands over
abbrev pub count_read : MemorySource → ℕ → ℕ
count_read source len = min len (min source.most (length source.left))

-- the next read fails
abbrev pub ReadFails : MemorySource → Type 0
ReadFails source = Contains source.fail source.calls

-- the source after a read of n bytes, and after one that failed
abbrev pub source_after_read : MemorySource → ℕ → MemorySource
source_after_read source n = record source { left = drop n source.left; calls = one_more source.calls }

abbrev pub after_failed_read : MemorySource → MemorySource
after_failed_read source = record source { calls = one_more source.calls; faults = one_more source.faults }

-- how many bytes of a piece of this length a write takes
abbrev pub count_written : MemorySink → ℕ → ℕ
count_written sink len = min len sink.most

-- a write of a piece of this length fails: its number is listed, or what is to be taken would pass the room
abbrev pub WriteFails : MemorySink → ℕ → Type 0
WriteFails sink len = Contains sink.fail sink.calls ⊎ (sink.room < length sink.taken + count_written sink len)

-- the sink after a write that took these bytes, and after one that failed
abbrev pub sink_after_write : MemorySink → List ℕ → MemorySink
sink_after_write sink bytes = record sink { taken = sink.taken ++ bytes; calls = one_more sink.calls }

abbrev pub after_failed_write : MemorySink → MemorySink
after_failed_write sink = record sink { calls = one_more sink.calls; faults = one_more sink.faults }
