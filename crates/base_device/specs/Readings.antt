-- The bytes that a disk in memory reads, with the space for them.
use Rattle.std.specs.Prelude.{ℕ}
use Rattle.base_device.specs.Changes.{Contents}

pub record MemoryReadings : Type 0 where
  pub contents : Contents  -- what it reads, now and after a crash
  pub space : ℕ  -- how many bytes each of these may have
