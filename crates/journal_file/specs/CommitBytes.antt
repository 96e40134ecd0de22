-- How a commit byte and the record behind it are read.
use Rattle.std.specs.Prelude.{◌≢◌, ◌<◌, ℕ, ◌+◌, ◌-◌, ◌^◌, ◌==◌, nat_le, nat_lt, List, length, take, drop, get_or, Result, Ok, Err, if◌then◌else◌}
use Rattle.std.specs.Int.{w32, from_be_bytes}
use Rattle.journal_file.specs.declared.commit_byte.CommitByte.{CommitByte}
use Rattle.journal_file.specs.declared.commit_byte.CommitByte.TheVariants.{Clear, Set}
use Rattle.journal_file.specs.declared.commit_byte.CommitByteFault.{CommitByteFault}
use Rattle.journal_file.specs.declared.commit_byte.PayloadFault.{PayloadFault}
use Rattle.journal_file.specs.declared.commit_byte.CommitByteFault.TheVariants as commit_bytes
use Rattle.journal_file.specs.declared.commit_byte.PayloadFault.TheVariants as payloads

-- the commit byte at this place: open exactly where its byte is 1; else with the number of bytes behind it
unfoldable pub commit_byte_of : List ℕ → ℕ → Result CommitByte CommitByteFault
commit_byte_of bytes at =
    if nat_le (length bytes) at then Err (commit_bytes.Short at)
    else if get_or bytes at 1 == 1 then Ok Set
    else Ok (Clear (length bytes - (at + 1)))

-- a commit byte that is not open stands at this place
abbrev pub IsClearAt : ℕ → List ℕ → Type 0
IsClearAt at bytes = (at < length bytes) × (get_or bytes at 1 ≢ 1)

-- the payload's length that the record says whose commit byte stands at this place
abbrev pub length_at : List ℕ → ℕ → ℕ
length_at bytes at = from_be_bytes w32 (take 4 (drop (at + 1) bytes))

-- the payload of the record whose commit byte stands at this place
unfoldable pub payload_of : List ℕ → ℕ → Result (List ℕ) PayloadFault
payload_of bytes at =
    if nat_lt (length bytes) (at + 5) then Err (payloads.Short (at + 1))
    else if nat_lt (2 ^ 26) (length_at bytes at) then Err (payloads.BadLength (length_at bytes at))
    else if nat_lt (length bytes) (at + 5 + length_at bytes at) then Err (payloads.Short (at + 5))
    else Ok (take (length_at bytes at) (drop (at + 5) bytes))
