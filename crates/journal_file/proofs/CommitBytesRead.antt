-- The commit bytes and the records of a journal are read as they were written.
use Rattle.std.proofs.Common.{◌≡◌, ◌≢◌, ℕ, suc, ◌+◌, ◌≤◌, ◌<◌, ◌^◌, List, [], ◌∷◌, ◌++◌, length, get_or, take, drop, Ok, refl, sym, ◌∙◌, ap, arith, append_assoc, length-append}
use Rattle.std.proofs.lemmas.List.{take_at, drop-drop}
use Rattle.std.proofs.lemmas.Nat.{from_be_bytes-to_be_bytes_4}
use Rattle.std.proofs.Math.Seq.{take-suc}
use Rattle.std.specs.Int.{w32, to_be_bytes, from_be_bytes}
use Rattle.journal_file.specs.declared.commit_byte.CommitByte.TheVariants.{Clear, Set}
use Rattle.journal_file.specs.CommitBytes.{commit_byte_of, payload_of, length_at}
use Rattle.journal_file.specs.Layout.{Title, title_bytes, records, front, journal}
use Rattle.journal_file.proofs.Bytes.{byte_behind, rest_behind, parts_at}
use Rattle.journal_file.proofs.Reading.{commit_byte_set, commit_byte_clear, payload_whole}

-- a commit byte behind a front
module _ (f tail : List ℕ) where
  clear_behind : (commit_byte : ℕ) → commit_byte ≢ 1 → commit_byte_of (f ++ commit_byte ∷ tail) (length f) ≡ Ok (Clear (length tail))
  clear_behind commit_byte other =
      let bytes = f ++ commit_byte ∷ tail in
      let size : length bytes ≡ length f + 1 + length tail = omega (arith, length-append f (commit_byte ∷ tail)) in
      sym (commit_byte_clear bytes (length f) (length bytes) commit_byte refl (sym (byte_behind f commit_byte tail (length f) 1 refl)) (omega (arith, size)) other)
      ∙ ap (λ n. Ok (Clear n)) (omega (arith, size))

  set_behind : commit_byte_of (f ++ 1 ∷ tail) (length f) ≡ Ok Set
  set_behind =
      let bytes = f ++ 1 ∷ tail in
      sym (commit_byte_set bytes (length f) (length bytes) 1 refl (sym (byte_behind f 1 tail (length f) 1 refl)) (omega (arith, length-append f (1 ∷ tail))) refl)

four : (n : ℕ) → length (to_be_bytes w32 n) ≡ 4
four n = refl

-- a record behind a front
payload_behind : (f p tail : List ℕ) → length p ≤ 2 ^ 26 → payload_of (f ++ 1 ∷ (to_be_bytes w32 (length p) ++ (p ++ tail))) (length f) ≡ Ok p
payload_behind f p tail few =
    let body = to_be_bytes w32 (length p) ++ (p ++ tail) in
    let bytes = f ++ 1 ∷ body in
    let at = length f in
    let size : length bytes ≡ at + 5 + length p + length tail = omega (arith, length-append f (1 ∷ body), length-append (to_be_bytes w32 (length p)) (p ++ tail), length-append p tail, four (length p)) in
    let behind = rest_behind f 1 body at refl in
    let says : length p ≡ length_at bytes at = sym (ap (λ (l : List ℕ). from_be_bytes w32 (take 4 l)) behind ∙ from_be_bytes-to_be_bytes_4 (length p) (omega (arith, few))) in
    let place : at + 1 + 4 ≡ at + 5 = omega arith in
    let last : drop (at + 5) bytes ≡ p ++ tail = sym (ap (λ n. drop n bytes) place) ∙ sym (drop-drop 4 (at + 1) bytes) ∙ ap (λ (l : List ℕ). drop 4 l) behind in
    let read : p ≡ take (length p) (drop (at + 5) bytes) = sym (ap (λ (l : List ℕ). take (length p) l) last ∙ take_at p tail (length p) refl) in
    payload_whole bytes at (length bytes) (length p) p refl (omega (arith, size)) says few (omega (arith, size)) read

records_append : (ps qs : List (List ℕ)) → records (ps ++ qs) ≡ records ps ++ records qs
unfolding records
records_append [] qs = refl
records_append (p ∷ ps) qs =
    ap (λ (l : List ℕ). 1 ∷ (to_be_bytes w32 (length p) ++ p) ++ l) (records_append ps qs)
    ∙ ap (λ (l : List ℕ). 1 ∷ l) (sym (append_assoc (to_be_bytes w32 (length p) ++ p) (records ps) (records qs)))

-- a record's bytes before others
record_first : (p : List ℕ) (qs : List (List ℕ)) (tail : List ℕ) → records (p ∷ qs) ++ tail ≡ 1 ∷ (to_be_bytes w32 (length p) ++ (p ++ (records qs ++ tail)))
unfolding records
record_first p qs tail =
    ap (λ (l : List ℕ). 1 ∷ l) (
    append_assoc (to_be_bytes w32 (length p) ++ p) (records qs) tail
    ∙ append_assoc (to_be_bytes w32 (length p)) p (records qs ++ tail))

module _ (t : Title) (payloads : List (List ℕ)) (commit_byte : ℕ) (tail : List ℕ) where
  -- a journal in two parts at the commit byte of a record
  journal_at : (j : ℕ) → j < length payloads → journal t payloads commit_byte tail ≡ front t (take j payloads) ++ 1 ∷ (to_be_bytes w32 (length (get_or payloads j [])) ++ (get_or payloads j [] ++ (records (drop (j + 1) payloads) ++ commit_byte ∷ tail)))
  journal_at j below =
      let ps = take j payloads in
      let qs = get_or payloads j [] ∷ drop (j + 1) payloads in
      let parts : records payloads ≡ records ps ++ records qs = ap records (parts_at payloads j [] below) ∙ records_append ps qs in
      ap (λ (l : List ℕ). 1 ∷ (title_bytes t ++ l) ++ commit_byte ∷ tail) parts
      ∙ ap (λ (l : List ℕ). 1 ∷ l ++ commit_byte ∷ tail) (sym (append_assoc (title_bytes t) (records ps) (records qs)))
      ∙ append_assoc (front t ps) (records qs) (commit_byte ∷ tail)
      ∙ ap (λ (l : List ℕ). front t ps ++ l) (record_first (get_or payloads j []) (drop (j + 1) payloads) (commit_byte ∷ tail))

  pub open_commit_byte : (j : ℕ) → j < length payloads → commit_byte_of (journal t payloads commit_byte tail) (length (front t (take j payloads))) ≡ Ok Set
  open_commit_byte j below = ap (λ (b : List ℕ). commit_byte_of b (length (front t (take j payloads)))) (journal_at j below) ∙ set_behind (front t (take j payloads)) _

  pub payload_there : (j : ℕ) → j < length payloads → length (get_or payloads j []) ≤ 2 ^ 26 → payload_of (journal t payloads commit_byte tail) (length (front t (take j payloads))) ≡ Ok (get_or payloads j [])
  payload_there j below few = ap (λ (b : List ℕ). payload_of b (length (front t (take j payloads)))) (journal_at j below) ∙ payload_behind (front t (take j payloads)) (get_or payloads j []) _ few

  pub last_commit_byte : commit_byte ≢ 1 → commit_byte_of (journal t payloads commit_byte tail) (length (front t payloads)) ≡ Ok (Clear (length tail))
  last_commit_byte other = clear_behind (front t payloads) tail commit_byte other

record_length : (p : List ℕ) → length (records (p ∷ [])) ≡ 5 + length p
unfolding records
record_length p = omega (arith, length-append (to_be_bytes w32 (length p) ++ p) [], length-append (to_be_bytes w32 (length p)) p, four (length p))

-- the commit byte behind a record
pub next_commit_byte : (t : Title) (payloads : List (List ℕ)) (j : ℕ) → j < length payloads → length (front t (take (suc j) payloads)) ≡ length (front t (take j payloads)) + 5 + length (get_or payloads j [])
next_commit_byte t payloads j below =
    let p = get_or payloads j [] in
    let ps = take j payloads in
    let more : records (take (suc j) payloads) ≡ records ps ++ records (p ∷ []) = ap records (take-suc payloads j [] below) ∙ records_append ps (p ∷ []) in
    omega (arith, ap (λ (l : List ℕ). length l) more, record_length p, length-append (records ps) (records (p ∷ [])), length-append (title_bytes t) (records (take (suc j) payloads)), length-append (title_bytes t) (records ps))
