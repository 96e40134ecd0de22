-- How the head of a journal is read, from its first bytes and its length.
use Rattle.std.specs.Prelude.{◌≡◌, ℕ, Bool, true, ◌&&◌, ◌||◌, ◌==◌, not, nat_le, nat_lt, List, length, take, drop, get_or, Result, Ok, Err, if◌then◌else◌}
use Rattle.std.specs.Int.{w16, w64, from_be_bytes}
use Rattle.std.specs.Str.{bytes_eq}
use Rattle.journal_file.specs.Layout.{magic}
use Rattle.journal_file.specs.declared.head.Head.{Head}
use Rattle.journal_file.specs.declared.head.Head.TheVariants.{Uncommitted, Committed}
use Rattle.journal_file.specs.declared.head.HeadFault.{HeadFault}
use Rattle.journal_file.specs.declared.head.HeadFault.TheVariants.{NotAJournal, OtherVersion, Short, BadBatch}

abbrev pub byte_at : List ℕ → ℕ → ℕ
byte_at bytes i = get_or bytes i 0

abbrev pub has_magic : List ℕ → Bool
has_magic bytes = bytes_eq (take 8 (drop 1 bytes)) magic

abbrev pub version_of : List ℕ → ℕ
version_of bytes = from_be_bytes w16 (take 2 (drop 9 bytes))

abbrev pub digest_of : List ℕ → List ℕ
digest_of bytes = take 32 (drop 11 bytes)

abbrev pub seed_of : List ℕ → ℕ
seed_of bytes = from_be_bytes w64 (take 8 (drop 43 bytes))

abbrev pub batch_of : List ℕ → ℕ
batch_of bytes = from_be_bytes w16 (take 2 (drop 51 bytes))

-- a head of exactly its version's length, with a commit byte of 0
unfoldable pub is_whole_head : List ℕ → ℕ → Bool
is_whole_head bytes len = (len == 52 && has_magic bytes && version_of bytes == 1 && byte_at bytes 51 == 0) || (len == 54 && has_magic bytes && version_of bytes == 2 && byte_at bytes 53 == 0)

-- no byte or one; or a header's commit byte of 0 and at most the longer head; or a whole head with a half-written header's commit byte
unfoldable pub is_uncommitted : List ℕ → ℕ → Bool
is_uncommitted bytes len = nat_le len 1 || (byte_at bytes 0 == 0 && nat_le len 54) || (not (byte_at bytes 0 == 0) && not (byte_at bytes 0 == 1) && is_whole_head bytes len)

-- the head, given its magic and a header's commit byte of 1
unfoldable pub title_at : List ℕ → ℕ → Result Head HeadFault
title_at bytes len =
    if version_of bytes == 1 then Ok (Committed 1 (digest_of bytes) (seed_of bytes) 1)
    else if version_of bytes == 2 then
    (if nat_lt len 54 then Err (Short len)
    else if nat_lt 0 (batch_of bytes) && nat_le (batch_of bytes) 64 then Ok (Committed 2 (digest_of bytes) (seed_of bytes) (batch_of bytes))
    else Err (BadBatch (batch_of bytes)))
    else Err (OtherVersion (version_of bytes))

-- the head of a file of `len` bytes that begins with these
unfoldable pub head_at : List ℕ → ℕ → Result Head HeadFault
head_at bytes len =
    if is_uncommitted bytes len then Ok (Uncommitted len)
    else if nat_lt len 9 || not (byte_at bytes 0 == 1) || not (has_magic bytes) then Err NotAJournal
    else if nat_lt len 52 then Err (Short len)
    else title_at bytes len

-- the head of a file
abbrev pub head_of : List ℕ → Result Head HeadFault
head_of bytes = head_at (take 54 bytes) (length bytes)

-- the file is no journal yet
abbrev pub IsUncommitted : List ℕ → Type 0
IsUncommitted bytes = is_uncommitted (take 54 bytes) (length bytes) ≡ true
