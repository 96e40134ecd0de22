-- A disk without faults, as contracts see it, and what its calls do.
use Rattle.std.specs.Prelude.{ℕ, ◌+◌, ◌-◌, min, max, List, ◌++◌, length, take, drop, replicate}
use Rattle.base_device.specs.Disks.{written}

-- a disk that keeps its first bytes alone
pub record FrontDisk : Type 0 where
  pub kept : List ℕ  -- the bytes that it keeps; zeros stand past them
  pub space : ℕ  -- how many it may keep
  pub length : ℕ  -- its length

-- these bytes, with zeros behind them up to a length
abbrev pub padded : List ℕ → ℕ → List ℕ
padded bytes n = bytes ++ replicate (n - length bytes) 0

-- the bytes that a read of n bytes from a place on gives
abbrev pub read_of : FrontDisk → ℕ → ℕ → List ℕ
read_of disk at n = padded (take n (drop at disk.kept)) n

-- these bytes with as much of a piece from a place on as the space has room for
abbrev pub front_written : List ℕ → ℕ → ℕ → List ℕ → List ℕ
front_written bytes space at piece = written (padded bytes (min at space)) (min at space) (take (space - at) piece)

-- the disk after a write, and after a cut
abbrev pub front_after_write : FrontDisk → ℕ → List ℕ → FrontDisk
front_after_write disk at piece = record disk { kept = front_written disk.kept disk.space at piece; length = max disk.length (at + length piece) }

abbrev pub front_after_cut : FrontDisk → ℕ → FrontDisk
front_after_cut disk len = record disk { kept = take len disk.kept; length = min disk.length len }
