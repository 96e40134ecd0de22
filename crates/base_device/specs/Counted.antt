-- Objects of std with the count of their faults, as contracts see them.
use Rattle.std.specs.Prelude.{ℕ, Bool, List}

-- a reader or a writer
pub record Counted (A : Type 0) : Type 0 where
  pub inner : A  -- the reader or the writer
  pub faults : ℕ  -- how often a call failed

-- a file
pub record CountedFile : Type 0 where
  pub name : List ℕ  -- the bytes of its name
  pub write : Bool  -- whether it is opened for writing too
  pub faults : ℕ  -- how often a call failed
