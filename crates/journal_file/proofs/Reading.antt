-- The parts of a journal, as they are read.
use Rattle.std.proofs.Common.{◌≡◌, ◌≢◌, ◌⊎◌, inl, Option, Some, IfSome, ℕ, ◌+◌, ◌-◌, ◌^◌, ◌≤◌, ◌<◌, List, length, get_or, take, drop, min, ◌∙◌, ap, arith, Ok, Err}
use Rattle.std.proofs.lemmas.Bool.Decides.{nat_tests}
use Rattle.std.proofs.lemmas.List.{take_min}
use Rattle.journal_file.specs.declared.commit_byte.CommitByte.TheVariants.{Clear, Set}
use Rattle.journal_file.specs.declared.commit_byte.CommitByteFault.TheVariants as commit_bytes
use Rattle.journal_file.specs.declared.commit_byte.PayloadFault.TheVariants as payloads
use Rattle.journal_file.specs.CommitBytes.{commit_byte_of, payload_of, length_at}
use Rattle.journal_file.specs.Head.{head_at, head_of}
use Rattle.std.specs.Int.{w32, from_be_bytes}
use Rattle.journal_file.proofs.DiskBytes.{told, known}

module _ (bytes : List ℕ) (at : ℕ) where
  pub commit_byte_short : (len : ℕ) → len ≡ length bytes → len ≤ at → Err (commit_bytes.Short at) ≡ commit_byte_of bytes at
  unfolding commit_byte_of
  commit_byte_short len is le = grind (arith, nat_tests)

  pub commit_byte_set : (len byte : ℕ) → len ≡ length bytes → byte ≡ get_or bytes at 1 → at < len → byte ≡ 1 → Ok Set ≡ commit_byte_of bytes at
  unfolding commit_byte_of
  commit_byte_set len byte is read below one = grind (arith, nat_tests)

  pub commit_byte_clear : (len byte : ℕ) → len ≡ length bytes → byte ≡ get_or bytes at 1 → at < len → byte ≢ 1 → Ok (Clear (len - (at + 1))) ≡ commit_byte_of bytes at
  unfolding commit_byte_of
  commit_byte_clear len byte is read below other = grind (arith, nat_tests)

  pub payload_headless : (len : ℕ) → len ≡ length bytes → len < at + 5 → payload_of bytes at ≡ Err (payloads.Short (at + 1))
  unfolding payload_of
  payload_headless len is le = grind (arith, nat_tests)

  pub payload_long : (len n : ℕ) → len ≡ length bytes → at + 5 ≤ len → n ≡ length_at bytes at → 2 ^ 26 < n → payload_of bytes at ≡ Err (payloads.BadLength n)
  unfolding payload_of
  payload_long len n is le says long = grind (arith, nat_tests)

  pub payload_short : (len n : ℕ) → len ≡ length bytes → at + 5 ≤ len → n ≡ length_at bytes at → n ≤ 2 ^ 26 → len < at + 5 + n → payload_of bytes at ≡ Err (payloads.Short (at + 5))
  unfolding payload_of
  payload_short len n is le says few cut = grind (arith, nat_tests)

  pub payload_whole : (len n : ℕ) (read : List ℕ) → len ≡ length bytes → at + 5 ≤ len → n ≡ length_at bytes at → n ≤ 2 ^ 26 → at + 5 + n ≤ len → read ≡ take n (drop (at + 5) bytes) → payload_of bytes at ≡ Ok read
  unfolding payload_of
  payload_whole len n read is le says few fits holds = grind (arith, nat_tests)

-- the head from the front of a file
pub head_read : (bytes front : List ℕ) (len : ℕ) → len ≡ length bytes → front ≡ take (min len 54) bytes → head_at front len ≡ head_of bytes
head_read bytes front len is holds =
    let same : front ≡ take 54 bytes = holds ∙ ap (λ (n : ℕ). take (min n 54) bytes) is ∙ ap (λ (n : ℕ). take n bytes) (min_comm (length bytes) 54) ∙ take_min 54 bytes in
    ap (λ (f : List ℕ). head_at f len) same ∙ ap (λ (n : ℕ). head_at (take 54 bytes) n) is
  where
    min_comm : (a b : ℕ) → min a b ≡ min b a
    min_comm a b = omega arith

-- readings over a disk, whether it tells its bytes or not; X is the other cause of an answer
module _ (reads : Option (List ℕ)) (at len : ℕ) (size : IfSome reads (λ b. len ≡ length b)) where
  size_of : (b : List ℕ) → reads ≡ Some b → len ≡ length b
  size_of b is = known (λ b. len ≡ length b) reads b is size

  pub told_commit_byte_short : (X : Type 0) → len ≤ at → IfSome reads (λ b. (Err (commit_bytes.Short at) ≡ commit_byte_of b at) ⊎ X)
  told_commit_byte_short X le = told reads (λ b is. inl (commit_byte_short b at len (size_of b is) le))

  module _ (byte : ℕ) (read : IfSome reads (λ b. byte ≡ get_or b at 1)) (below : at < len) where
    byte_of : (b : List ℕ) → reads ≡ Some b → byte ≡ get_or b at 1
    byte_of b is = known (λ b. byte ≡ get_or b at 1) reads b is read

    pub told_commit_byte_set : (X : Type 0) → byte ≡ 1 → IfSome reads (λ b. (Ok Set ≡ commit_byte_of b at) ⊎ X)
    told_commit_byte_set X one = told reads (λ b is. inl (commit_byte_set b at len byte (size_of b is) (byte_of b is) below one))

    pub told_commit_byte_clear : (X : Type 0) → byte ≢ 1 → IfSome reads (λ b. (Ok (Clear (len - (at + 1))) ≡ commit_byte_of b at) ⊎ X)
    told_commit_byte_clear X other = told reads (λ b is. inl (commit_byte_clear b at len byte (size_of b is) (byte_of b is) below other))

  pub told_headless : (X : Type 0) → len < at + 5 → IfSome reads (λ b. (payload_of b at ≡ Err (payloads.Short (at + 1))) ⊎ X)
  told_headless X le = told reads (λ b is. inl (payload_headless b at len (size_of b is) le))

  module _ (mid : Option (List ℕ)) (same : mid ≡ reads) (word : List ℕ) (n : ℕ) (read : IfSome mid (λ b. word ≡ take 4 (drop (at + 1) b))) (number : n ≡ from_be_bytes w32 word) (long : at + 5 ≤ len) where
    says : (b : List ℕ) → reads ≡ Some b → n ≡ length_at b at
    says b is = number ∙ ap (from_be_bytes w32) (known (λ b. word ≡ take 4 (drop (at + 1) b)) mid b (same ∙ is) read)

    pub told_long : (X : Type 0) → 2 ^ 26 < n → IfSome reads (λ b. (payload_of b at ≡ Err (payloads.BadLength n)) ⊎ X)
    told_long X over = told reads (λ b is. inl (payload_long b at len n (size_of b is) long (says b is) over))

    pub told_short : (X : Type 0) → n ≤ 2 ^ 26 → len < at + 5 + n → IfSome reads (λ b. (payload_of b at ≡ Err (payloads.Short (at + 5))) ⊎ X)
    told_short X few cut = told reads (λ b is. inl (payload_short b at len n (size_of b is) long (says b is) few cut))

    pub told_whole : n ≤ 2 ^ 26 → at + 5 + n ≤ len → (last : Option (List ℕ)) → last ≡ reads → (found : List ℕ) → IfSome last (λ b. found ≡ take n (drop (at + 5) b)) → IfSome reads (λ b. payload_of b at ≡ Ok found)
    told_whole few fits last still found holds = told reads (λ b is. payload_whole b at len n found (size_of b is) long (says b is) few fits (known (λ b. found ≡ take n (drop (at + 5) b)) last b (still ∙ is) holds))
