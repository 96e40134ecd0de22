-- The records that are loaded stand in the bytes as they are written.
use Rattle.std.proofs.Common.{◌≡◌, ◌≢◌, ◌⊎◌, inl, inr, ◌∙◌, ℕ, zero, suc, ◌+◌, ◌-◌, ◌<◌, ◌≤◌, ◌^◌, Bool, true, false, List, [], ◌∷◌, ◌++◌, length, take, drop, get_or, Option, Some, None, Result, Ok, Err, ◌==◌, nat_lt, nat_le, if◌then◌else◌, refl, sym, ap, ap₂, subst, append_assoc, arith}
use Rattle.std.specs.Int.{w32, to_be_bytes, from_be_bytes}
use Rattle.std.proofs.Math.Logic.{⊎_elim}
use Rattle.std.proofs.Math.Seq.{take-add}
use Rattle.std.proofs.lemmas.Bool.{cases_lt}
use Rattle.std.proofs.lemmas.Bool.Decides.{nat_tests}
use Rattle.std.proofs.lemmas.List.{append-nil, drop_more, get_or-drop, get_or-take, get_or_past, length-drop, length-take}
use Rattle.std.proofs.lemmas.Nat.{be_bytes_4}
use Rattle.base_num.specs.Steps.{◌>>=◌}
use Rattle.problem.specs.declared.formulas.TooMuch.{TooMuch}
use Rattle.problem.specs.Formulas.{too_much}
use Rattle.problem.specs.Validated.{Validated}
use Rattle.cut_pool.specs.declared.entry.Entry.{Entry}
use Rattle.journal_record.specs.declared.fault.EntryFault.TheVariants.{Bad}
use Rattle.journal_record.specs.Reading.{read_batch}
use Rattle.journal_record.specs.Spelling.{spell}
use Rattle.journal_record.proofs.Fields.{IsBytes}
use Rattle.journal_record.proofs.Whole.{batch_spelled}
use Rattle.journal_file.specs.declared.commit_byte.CommitByte.TheVariants.{Clear, Set}
use Rattle.journal_file.specs.declared.commit_byte.CommitByteFault.TheVariants as commit_bytes
use Rattle.journal_file.specs.declared.commit_byte.PayloadFault.{PayloadFault}
use Rattle.journal_file.specs.CommitBytes.{commit_byte_of, payload_of, length_at, IsClearAt}
use Rattle.journal_file.specs.Layout.{Title, front, records}
use Rattle.journal_load.specs.declared.refusal.LoadFault.{LoadFault}
use Rattle.journal_load.specs.declared.refusal.LoadFault.TheVariants.{Refused}
use Rattle.journal_load.specs.declared.refusal.JournalRefusal.TheVariants.{TooMany}
use Rattle.journal_load.specs.Refusals.{of_commit_byte, of_payload, of_entries, with_fault, within_formula}
use Rattle.journal_load.specs.Records.{Found, Ended, rest_behind, rest_at, or_more, record_entries_at, record_at, record_added, records_at}
use Rattle.journal_load.proofs.Binding.{bind_ok}
use Rattle.plan_train.specs.Training.{payloads}
use Rattle.plan_train.proofs.Placed.{front-append, payloads-append}
use Rattle.plan_train.proofs.Answered.{same_ok}

-- ---- bytes

-- a piece of bytes
pub piece_bytes : (n at : ℕ) (bytes : List ℕ) → IsBytes bytes → IsBytes (take n (drop at bytes))
piece_bytes n at bytes h i =
    elim (cases_lt i n) [
      | inl lt ↦ rw (get_or-take n (drop at bytes) i 0 lt) (rw get_or-drop (h (at + i)))
      | inr le ↦ rw (get_or_past (take n (drop at bytes)) i 0 (omega (arith, le, length-take n (drop at bytes)))) (omega arith)
    ]

pub piece_length : (n at : ℕ) (bytes : List ℕ) → at + n ≤ length bytes → length (take n (drop at bytes)) ≡ n
piece_length n at bytes h = omega (arith, h, length-take n (drop at bytes), length-drop at bytes)

-- ---- tests that did not fail

pub failed_not : {A E : Type 0} (b : Bool) (e : E) (r : Result A E) (x : A) → (if b then Err e else r) ≡ Ok x → (b ≡ false) × (r ≡ Ok x)
failed_not true e r x h = absurd cc
failed_not false e r x h = (refl, h)

not_less : (a b : ℕ) → nat_lt a b ≡ false → b ≤ a
not_less a b e = grind (arith, nat_tests)

-- ---- the commit byte at a place

-- the byte is there; it is 1 where no rest is told, and else the rest is what stands behind it
abbrev CommitByteIs : List ℕ → ℕ → Option ℕ → Type 0
CommitByteIs bytes at o = (at < length bytes) × (((o ≡ None) × (get_or bytes at 1 ≡ 1)) ⊎ ((o ≡ Some (length bytes - (at + 1))) × (get_or bytes at 1 ≢ 1)))

commit_byte_is : (bytes : List ℕ) (at : ℕ) (o : Option ℕ) → rest_at bytes at ≡ Ok o → CommitByteIs bytes at o
unfolding rest_at commit_byte_of
commit_byte_is bytes at o e = by (nat_le (length bytes) at) refl (get_or bytes at 1 == 1) refl e
  where
    by : (b : Bool) → nat_le (length bytes) at ≡ b → (c : Bool) → (get_or bytes at 1 == 1) ≡ c
        → (with_fault of_commit_byte (if b then Err (commit_bytes.Short at) else if c then Ok Set else Ok (Clear (length bytes - (at + 1)))) >>= λ commit_byte. Ok (rest_behind commit_byte)) ≡ Ok o → CommitByteIs bytes at o
    by true past c one e = absurd cc
    by false past true one e = (grind (arith, nat_tests), inl (sym (same_ok None o e), grind (arith, nat_tests)))
    by false past false one e = (grind (arith, nat_tests), inr (sym (same_ok (Some (length bytes - (at + 1))) o e), grind (arith, nat_tests)))

-- ---- the record at a place

record PayloadIs (bytes : List ℕ) (at : ℕ) (x : List ℕ) : Type 0 where
  within : at + 5 + length x ≤ length bytes
  is : x ≡ take (length x) (drop (at + 5) bytes)
  says : length x ≡ from_be_bytes w32 (take 4 (drop (at + 1) bytes))

payload_at : (bytes : List ℕ) (at : ℕ) (x : List ℕ) → payload_of bytes at ≡ Ok x → PayloadIs bytes at x
unfolding payload_of
payload_at bytes at x e =
    let a = failed_not (nat_lt (length bytes) (at + 5)) _ _ x e in
    let b = failed_not (nat_lt (2 ^ 26) (length_at bytes at)) _ _ x a.1 in
    let c = failed_not (nat_lt (length bytes) (at + 5 + length_at bytes at)) _ _ x b.1 in
    let whole : at + 5 + length_at bytes at ≤ length bytes = not_less (length bytes) (at + 5 + length_at bytes at) c.0 in
    let is : take (length_at bytes at) (drop (at + 5) bytes) ≡ x = same_ok (take (length_at bytes at) (drop (at + 5) bytes)) x c.1 in
    let long : length x ≡ length_at bytes at = sym (ap (λ (l : List ℕ). length l) is) ∙ piece_length (length_at bytes at) (at + 5) bytes whole in
    record {
      within = omega (arith, whole, long);
      is = sym is ∙ ap (λ (n : ℕ). take n (drop (at + 5) bytes)) (sym long);
      says = long;
    }

-- the bytes up to the next commit byte
record_bytes : (bytes : List ℕ) (at : ℕ) (x : List ℕ) → IsBytes bytes → at < length bytes → get_or bytes at 1 ≡ 1 → PayloadIs bytes at x → take (at + 5 + length x) bytes ≡ take at bytes ++ records (x ∷ [])
unfolding records
record_bytes bytes at x fits there one q =
    let word : to_be_bytes w32 (length x) ≡ take 4 (drop (at + 1) bytes) = be_bytes_4 (take 4 (drop (at + 1) bytes)) (length x) (piece_length 4 (at + 1) bytes (omega (arith, q.within))) (piece_bytes 4 (at + 1) bytes fits) q.says in
    let five : take 5 (drop at bytes) ≡ 1 ∷ to_be_bytes w32 (length x) = ap (λ (l : List ℕ). take 5 l) (drop_more bytes at 1 there) ∙ ap₂ (λ (g : ℕ) (l : List ℕ). g ∷ l) one (sym word) in
    take-add (at + 5) (length x) bytes
    ∙ ap₂ (λ (l m : List ℕ). l ++ m) (take-add at 5 bytes ∙ ap (λ (l : List ℕ). take at bytes ++ l) five) (sym q.is)
    ∙ append_assoc (take at bytes) (1 ∷ to_be_bytes w32 (length x)) x
    ∙ ap (λ (l : List ℕ). take at bytes ++ 1 ∷ l) (sym (append-nil (to_be_bytes w32 (length x) ++ x)))

-- ---- the records from a place on

module _ (p : Validated) (batch : ℕ) (t : Title) (bytes : List ℕ) (fits : IsBytes bytes) where
  -- the bytes up to a commit byte
  abbrev StandsTo : ℕ → List (List Entry) → Type 0
  StandsTo at lists = take at bytes ≡ front t (payloads lists)

  -- the definition of a record's entries, part by part
  abbrev given : ℕ → List ℕ → List Entry → Result (List Entry × ℕ) LoadFault
  given at x entries = Ok (entries, at + 5 + length x)

  abbrev of_batch : ℕ → ℕ → List ℕ → Result (List Entry) ℕ → Result (List Entry × ℕ) LoadFault
  of_batch k at x r = with_fault (λ place. of_entries k (Bad place)) r >>= given at x

  abbrev of_read : ℕ → ℕ → Result (List ℕ) PayloadFault → Result (List Entry × ℕ) LoadFault
  of_read k at r = with_fault (of_payload k) r >>= λ x. of_batch k at x (read_batch p k batch x)

  abbrev with_next : List Entry × ℕ → Found → Result (List Entry × ℕ × Found) LoadFault
  with_next read more = Ok (read.0, read.1, more)

  abbrev of_entry : Found → Result (List Entry × ℕ) LoadFault → Result (List Entry × ℕ × Found) LoadFault
  of_entry found r = r >>= λ read. record_added p found read.0 >>= with_next read

  read_part : (k at after : ℕ) (es : List Entry) (x : List ℕ) (r : Result (List Entry) ℕ) → of_batch k at x r ≡ Ok (es, after) → (r ≡ Ok es) × (after ≡ at + 5 + length x)
  read_part k at after es x (Ok y) e =
      let both : (y, at + 5 + length x) ≡ (es, after) = same_ok (y, at + 5 + length x) (es, after) e in
      (ap (λ (z : List Entry × ℕ). Ok z.0) both, sym (ap (λ (z : List Entry × ℕ). z.1) both))
  read_part k at after es x (Err f) e = absurd cc

  payload_back : (k at after : ℕ) (es : List Entry) (x : List ℕ) → payload_of bytes at ≡ Ok x → of_batch k at x (read_batch p k batch x) ≡ Ok (es, after)
      → (payload_of bytes at ≡ Ok (spell es)) × (after ≡ at + 5 + length (spell es))
  payload_back k at after es x payload e =
      let q = payload_at bytes at x payload in
      let small : IsBytes x = subst IsBytes (sym q.is) (piece_bytes (length x) (at + 5) bytes fits) in
      let read = read_part k at after es x (read_batch p k batch x) e in
      let is : x ≡ spell es = (batch_spelled p k batch x es small read.0).1 in
      (payload ∙ ap (λ (l : List ℕ). Ok l) is, read.1 ∙ ap (λ (l : List ℕ). at + 5 + length l) is)

  payload_part : (k at after : ℕ) (es : List Entry) (r : Result (List ℕ) PayloadFault) → payload_of bytes at ≡ r
      → of_read k at r ≡ Ok (es, after)
      → (payload_of bytes at ≡ Ok (spell es)) × (after ≡ at + 5 + length (spell es))
  payload_part k at after es (Ok x) is e = payload_back k at after es x is e
  payload_part k at after es (Err f) is e = absurd cc

  entries_back : (k at after : ℕ) (es : List Entry) → record_entries_at p batch bytes k at ≡ Ok (es, after) → (payload_of bytes at ≡ Ok (spell es)) × (after ≡ at + 5 + length (spell es))
  unfolding record_entries_at
  entries_back k at after es e = by (too_much p k batch) e
    where
      by : (o : Option TooMuch) → (within_formula o >>= λ formulas. of_read k at (payload_of bytes at)) ≡ Ok (es, after)
          → (payload_of bytes at ≡ Ok (spell es)) × (after ≡ at + 5 + length (spell es))
      by None w = payload_part k at after es (payload_of bytes at) refl w
      by (Some f) w = absurd cc

  -- the parts of a record
  record_part : (at after : ℕ) (found next : Found) (es : List Entry) (r : Result (List Entry × ℕ) LoadFault) → of_entry found r ≡ Ok (es, after, next) → r ≡ Ok (es, after)
  record_part at after found next es (Ok (xs, n)) e = added (record_added p found xs) e
    where
      added : (s : Result Found LoadFault) → (s >>= with_next (xs, n)) ≡ Ok (es, after, next) → ◌≡◌ {A = Result (List Entry × ℕ) LoadFault} (Ok (xs, n)) (Ok (es, after))
      added (Ok more) w = ap (λ (z : List Entry × ℕ × Found). Ok (z.0, z.1)) (same_ok (xs, n, more) (es, after, next) w)
      added (Err f) w = absurd cc
  record_part at after found next es (Err f) e = absurd cc

  -- a record more
  stands_more : (at after : ℕ) (found next : Found) (es : List Entry) (lists : List (List Entry)) → StandsTo at lists → at < length bytes → get_or bytes at 1 ≡ 1 → record_at p batch bytes at found ≡ Ok (es, after, next) → StandsTo after (lists ++ es ∷ [])
  unfolding record_at
  stands_more at after found next es lists stands there one e =
      let q = entries_back (suc (length found.bounds)) at after es (record_part at after found next es (record_entries_at p batch bytes (suc (length found.bounds)) at) e) in
      ap (λ (n : ℕ). take n bytes) q.1
      ∙ record_bytes bytes at (spell es) fits there one (payload_at bytes at (spell es) q.0)
      ∙ ap (λ (l : List ℕ). l ++ records (spell es ∷ [])) stands
      ∙ sym (front-append t (payloads lists) (spell es ∷ []))
      ∙ ap (λ (ps : List (List ℕ)). front t ps) (sym (payloads-append lists (es ∷ [])))

  -- the bytes up to the last commit byte, which is clear, and behind it
  pub record EndsThere (e : Ended) : Type 0 where
    pub stands : take e.end bytes ≡ front t (payloads e.lists)
    pub clear : IsClearAt e.end bytes
    pub tail : e.tail ≡ length bytes - (e.end + 1)

  abbrev ended : ℕ → Found → List (List Entry) → ℕ → Ended
  ended at found lists n = record { found = found; lists = lists; end = at; tail = n }

  not_both : (n : ℕ) → None ≡ Some n → ⊥
  not_both n e = cc

  some_is : (m n : ℕ) → Some m ≡ Some n → m ≡ n
  some_is m n e = cc

  -- at a commit byte that is clear
  ends_here : (at n : ℕ) (found : Found) (lists : List (List Entry)) (e : Ended) → StandsTo at lists → CommitByteIs bytes at (Some n) → ended at found lists n ≡ e → EndsThere e
  ends_here at n found lists e stands commit_byte is =
      ⊎_elim (λ set. absurd (not_both n (sym set.0)))
      (λ clear. subst EndsThere is (record { stands = stands; clear = (commit_byte.0, clear.1); tail = some_is n (length bytes - (at + 1)) clear.0 })) commit_byte.1

  -- at one that is open
  is_open : (at : ℕ) → CommitByteIs bytes at None → get_or bytes at 1 ≡ 1
  is_open at commit_byte = ⊎_elim (λ set. set.1) (λ clear. absurd (not_both (length bytes - (at + 1)) clear.0)) commit_byte.1

  pub ends_there : (left at : ℕ) (found : Found) (lists : List (List Entry)) (e : Ended) → StandsTo at lists → records_at p batch bytes left at found lists ≡ Ok e → EndsThere e
  unfolding records_at
  ends_there zero at found lists e stands is =
      let b = bind_ok (rest_at bytes at) (λ tail. or_more tail (ended at found lists) (Err (Refused TooMany))) e is in
      by b.0 b.1 b.2
    where
      by : (o : Option ℕ) → rest_at bytes at ≡ Ok o → or_more o (ended at found lists) (Err (Refused TooMany)) ≡ Ok e → EndsThere e
      by (Some n) read done = ends_here at n found lists e stands (commit_byte_is bytes at (Some n) read) (same_ok (ended at found lists n) e done)
      by None read done = absurd cc
  ends_there (suc left) at found lists e stands is =
      let more : Result Ended LoadFault = record_at p batch bytes at found >>= λ read. records_at p batch bytes left read.1 read.2 (lists ++ read.0 ∷ []) in
      let b = bind_ok (rest_at bytes at) (λ tail. or_more tail (ended at found lists) more) e is in
      by (λ after next es s w. ends_there left after next (lists ++ es ∷ []) e s w) b.0 b.1 b.2
    where
      by : ((after : ℕ) (next : Found) (es : List Entry) → StandsTo after (lists ++ es ∷ []) → records_at p batch bytes left after next (lists ++ es ∷ []) ≡ Ok e → EndsThere e) → (o : Option ℕ) → rest_at bytes at ≡ Ok o
          → or_more o (ended at found lists) (record_at p batch bytes at found >>= λ read. records_at p batch bytes left read.1 read.2 (lists ++ read.0 ∷ [])) ≡ Ok e → EndsThere e
      by later (Some n) read done = ends_here at n found lists e stands (commit_byte_is bytes at (Some n) read) (same_ok (ended at found lists n) e done)
      by later None read done =
          let commit_byte = commit_byte_is bytes at None read in
          let r = bind_ok (record_at p batch bytes at found) (λ read. records_at p batch bytes left read.1 read.2 (lists ++ read.0 ∷ [])) e done in
          later r.0.1 r.0.2 r.0.0 (stands_more at r.0.1 found r.0.2 r.0.0 lists stands commit_byte.0 (is_open at commit_byte) r.1) r.2
