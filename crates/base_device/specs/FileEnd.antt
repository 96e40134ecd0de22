-- The length and the last bytes that have to be found in a file that was written.
use Rattle.std.specs.Prelude.{◌≡◌, ℕ, ◌+◌, ◌-◌, max, List, length, take, drop}

-- the length of a file by its own writes and cuts, and the end of the piece that was written last, with its place
pub record KeptEnd : Type 0 where
  pub len : ℕ
  pub at : ℕ
  pub last : List ℕ

-- these bytes have that length, and that end where it was written
pub record IsKept (kept : KeptEnd) (bytes : List ℕ) : Type 0 where
  pub same_length : length bytes ≡ kept.len
  pub end : take (length kept.last) (drop kept.at bytes) ≡ kept.last

-- after a write: of the piece its last 64 bytes
abbrev pub end_after_write : KeptEnd → ℕ → List ℕ → KeptEnd
end_after_write kept at piece = record {
  len = max kept.len (at + length piece);
  at = at + (length piece - 64);
  last = drop (length piece - 64) piece;
}

-- after a cut: what stands before it
abbrev pub end_after_cut : KeptEnd → ℕ → KeptEnd
end_after_cut kept len = record { len = len; at = kept.at; last = take (len - kept.at) kept.last }
