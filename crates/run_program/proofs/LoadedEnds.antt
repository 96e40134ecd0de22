-- The records that are loaded of a journal end at a commit byte of 0, or the file is no journal yet.
use Rattle.std.proofs.Common.{◌≡◌, ℕ, zero, suc, ◌+◌, ◌-◌, Bool, true, false, ◌&&◌, ◌||◌, not, ◌==◌, if◌then◌else◌, List, [], ◌∷◌, ◌++◌, length, get_or, take, Option, Some, None, Result, Ok, Err, refl, sym, subst, arith}
use Rattle.std.specs.Prelude.{nat_le, nat_lt}
use Rattle.std.proofs.lemmas.Bool.Decides.{nat_tests}
use Rattle.base_num.specs.Steps.{◌>>=◌}
use Rattle.problem.specs.Validated.{Validated}
use Rattle.theory.specs.declared.cut.Cut.{Cut}
use Rattle.cut_pool.specs.declared.entry.Entry.{Entry}
use Rattle.journal_file.specs.declared.commit_byte.CommitByte.{CommitByte}
use Rattle.journal_file.specs.declared.commit_byte.CommitByte.TheVariants.{Clear, Set}
use Rattle.journal_file.specs.declared.commit_byte.CommitByteFault.{CommitByteFault}
use Rattle.journal_file.specs.declared.commit_byte.CommitByteFault.TheVariants as commit_bytes
use Rattle.journal_file.specs.declared.head.Head.{Head}
use Rattle.journal_file.specs.declared.head.Head.TheVariants.{Uncommitted, Committed}
use Rattle.journal_file.specs.declared.head.HeadFault.{HeadFault}
use Rattle.journal_file.specs.declared.head.HeadFault.TheVariants.{NotAJournal, OtherVersion, Short, BadBatch}
use Rattle.journal_file.specs.CommitBytes.{IsClearAt, commit_byte_of}
use Rattle.journal_file.specs.Head.{IsUncommitted, batch_of, byte_at, digest_of, has_magic, head_at, head_of, is_uncommitted, seed_of, title_at, version_of}
use Rattle.journal_load.specs.declared.refusal.LoadFault.{LoadFault}
use Rattle.journal_load.specs.declared.refusal.LoadFault.TheVariants.{Refused}
use Rattle.journal_load.specs.declared.refusal.JournalRefusal.TheVariants.{TooMany}
use Rattle.journal_load.specs.Load.{Outcome, committed, load_from, load_of, load_records, title_asked, uncommitted, first_commit_byte, outcome_of}
use Rattle.journal_load.specs.Records.{Ended, Found, fresh_found, or_more, records_at, record_at, rest_at, rest_behind}
use Rattle.journal_load.specs.Refusals.{of_commit_byte, of_head, with_fault}

same_ok : {A E : Type 0} (x y : A) → (let l : Result A E = Ok x in l ≡ Ok y) → x ≡ y
same_ok x y h = cc

-- both parts of a step that did not refuse
parts : {A B E : Type 0} (part : Result A E) (f : A → Result B E) (y : B) → (part >>= f) ≡ Ok y → (x : A) × (part ≡ Ok x) × (f x ≡ Ok y)
parts (Err e) f y h = absurd cc
parts (Ok x) f y h = (x, refl, h)

-- ---- commit bytes

clear_is : (bytes : List ℕ) (at m tail : ℕ) (fault : CommitByteFault) (past set : Bool) → nat_le (length bytes) at ≡ past → (get_or bytes at 1 == 1) ≡ set → (if past then Err fault else if set then Ok Set else Ok (Clear tail)) ≡ Ok (Clear m) → IsClearAt at bytes
clear_is bytes at m tail fault true set p o h = absurd cc
clear_is bytes at m tail fault false true p o h = absurd cc
clear_is bytes at m tail fault false false p o h = (grind (arith, nat_tests), grind (arith, nat_tests))

commit_byte_clear : (bytes : List ℕ) (at m : ℕ) → commit_byte_of bytes at ≡ Ok (Clear m) → IsClearAt at bytes
unfolding commit_byte_of
commit_byte_clear bytes at m h = clear_is bytes at m (length bytes - (at + 1)) (commit_bytes.Short at) (nat_le (length bytes) at) (get_or bytes at 1 == 1) refl refl h

rest_clear : (bytes : List ℕ) (at n : ℕ) → rest_at bytes at ≡ Ok (Some n) → IsClearAt at bytes
unfolding rest_at
rest_clear bytes at n h = by (commit_byte_of bytes at) refl h
  where
    by : (r : Result CommitByte CommitByteFault) → commit_byte_of bytes at ≡ r → (with_fault of_commit_byte r >>= λ g. Ok (rest_behind g)) ≡ Ok (Some n) → IsClearAt at bytes
    by (Ok (Clear m)) is w = commit_byte_clear bytes at m is
    by (Ok Set) is w = absurd cc
    by (Err f) is w = absurd cc

-- the records end at a commit byte of 0
records_end : (p : Validated) (batch : ℕ) (bytes : List ℕ) (left at : ℕ) (found : Found) (lists : List (List Entry)) (e : Ended) → records_at p batch bytes left at found lists ≡ Ok e → IsClearAt e.end bytes
unfolding records_at
records_end p batch bytes zero at found lists e h =
    let b = parts (rest_at bytes at) (λ tail. or_more tail (λ n. record { found = found; lists = lists; end = at; tail = n }) (Err (Refused TooMany))) e h in
    by b.0 b.1 b.2
  where
    by : (o : Option ℕ) → rest_at bytes at ≡ Ok o → or_more o (λ n. record { found = found; lists = lists; end = at; tail = n }) (Err (Refused TooMany)) ≡ Ok e → IsClearAt e.end bytes
    by (Some n) read done = subst (λ (x : Ended). IsClearAt x.end bytes) (same_ok (record { found = found; lists = lists; end = at; tail = n }) e done) (rest_clear bytes at n read)
    by None read done = absurd cc
records_end p batch bytes (suc left) at found lists e h =
    let more : Result Ended LoadFault = record_at p batch bytes at found >>= λ read. records_at p batch bytes left read.1 read.2 (lists ++ read.0 ∷ []) in
    let b = parts (rest_at bytes at) (λ tail. or_more tail (λ n. record { found = found; lists = lists; end = at; tail = n }) more) e h in
    by (λ after next ls w. records_end p batch bytes left after next ls e w) b.0 b.1 b.2
  where
    by : ((after : ℕ) (next : Found) (ls : List (List Entry)) → records_at p batch bytes left after next ls ≡ Ok e → IsClearAt e.end bytes) → (o : Option ℕ) → rest_at bytes at ≡ Ok o
        → or_more o (λ n. record { found = found; lists = lists; end = at; tail = n }) (record_at p batch bytes at found >>= λ read. records_at p batch bytes left read.1 read.2 (lists ++ read.0 ∷ [])) ≡ Ok e → IsClearAt e.end bytes
    by later (Some n) read done = subst (λ (x : Ended). IsClearAt x.end bytes) (same_ok (record { found = found; lists = lists; end = at; tail = n }) e done) (rest_clear bytes at n read)
    by later None read done =
        let r = parts (record_at p batch bytes at found) (λ read. records_at p batch bytes left read.1 read.2 (lists ++ read.0 ∷ [])) e done in
        later r.0.1 r.0.2 (lists ++ r.0.0 ∷ []) r.2

-- ---- heads

title_committed : (bytes : List ℕ) (len n : ℕ) (one two short some : Bool)
    → (if one then Ok (Committed 1 (digest_of bytes) (seed_of bytes) 1) else if two then (if short then Err (Short len) else if some then Ok (Committed 2 (digest_of bytes) (seed_of bytes) (batch_of bytes)) else Err (BadBatch (batch_of bytes))) else Err (OtherVersion (version_of bytes))) ≡ Ok (Uncommitted n) → ⊥
title_committed bytes len n true two short some h = cc
title_committed bytes len n false true true some h = cc
title_committed bytes len n false true false true h = cc
title_committed bytes len n false true false false h = cc
title_committed bytes len n false false short some h = cc

title_not : (bytes : List ℕ) (len n : ℕ) → title_at bytes len ≡ Ok (Uncommitted n) → ⊥
unfolding title_at
title_not bytes len n h = title_committed bytes len n (version_of bytes == 1) (version_of bytes == 2) (nat_lt len 54) (nat_lt 0 (batch_of bytes) && nat_le (batch_of bytes) 64) h

head_is : (bytes : List ℕ) (len n : ℕ) (none bad short : Bool) → is_uncommitted bytes len ≡ none → (if none then Ok (Uncommitted len) else if bad then Err NotAJournal else if short then Err (Short len) else title_at bytes len) ≡ Ok (Uncommitted n) → is_uncommitted bytes len ≡ true
head_is bytes len n true bad short is h = is
head_is bytes len n false true short is h = absurd cc
head_is bytes len n false false true is h = absurd cc
head_is bytes len n false false false is h = absurd (title_not bytes len n h)

head_uncommitted : (bytes : List ℕ) (n : ℕ) → head_of bytes ≡ Ok (Uncommitted n) → IsUncommitted bytes
unfolding head_at
head_uncommitted bytes n h =
    let front : List ℕ = take 54 bytes in
    let len : ℕ = length bytes in
    head_is front len n (is_uncommitted front len) (nat_lt len 9 || not (byte_at front 0 == 1) || not (has_magic front)) (nat_lt len 52) refl h

-- ---- what is loaded

true_false : (b : Bool) → b ≡ true → b ≡ false → ⊥
true_false b t f = cc

module _ (p : Validated) (base : List (List Cut)) (digest : List ℕ) (seed batch : Option ℕ) (bytes : List ℕ) where
  -- by the head: no journal yet, or one whose records end at a commit byte of 0
  data Kind (o : Outcome) : Type 0 where
    no_journal : o.committed ≡ false → IsUncommitted bytes → Kind o
    a_journal : o.committed ≡ true → IsClearAt o.end bytes → Kind o

  from_records : (version paths : ℕ) (x : Outcome × List (List Entry)) → load_records p base bytes version paths ≡ Ok x → Kind x.0
  unfolding load_records
  from_records version paths x h =
      let r = parts (records_at p paths bytes 2000 (first_commit_byte version) (fresh_found base) []) (λ ended. Ok (committed version paths ended, ended.lists)) x h in
      let e = same_ok (committed version paths r.0, r.0.lists) x r.2 in
      subst (λ (y : Outcome × List (List Entry)). Kind y.0) e (a_journal refl (records_end p paths bytes 2000 (first_commit_byte version) (fresh_found base) [] r.0 r.1))

  from_head : (head : Head) (x : Outcome × List (List Entry)) → head_of bytes ≡ Ok head → load_from p base digest seed batch bytes head ≡ Ok x → Kind x.0
  unfolding load_from
  from_head (Uncommitted n) x is h = subst (λ (y : Outcome × List (List Entry)). Kind y.0) (same_ok (uncommitted base batch, []) x h) (no_journal refl (head_uncommitted bytes n is))
  from_head (Committed version kept own paths) x is h =
      let r = parts (title_asked digest seed batch kept own paths) (λ title. load_records p base bytes version paths) x h in
      from_records version paths x r.2

  from_bytes : (x : Outcome × List (List Entry)) → load_of p base digest seed batch bytes ≡ Ok x → Kind x.0
  unfolding load_of
  from_bytes x h =
      let r = parts (with_fault of_head (head_of bytes)) (λ head. load_from p base digest seed batch bytes head) x h in
      by (head_of bytes) refl r.1
    where
      by : (r : Result Head HeadFault) → head_of bytes ≡ r → with_fault of_head r ≡ Ok (parts (with_fault of_head (head_of bytes)) (λ head. load_from p base digest seed batch bytes head) x h).0 → Kind x.0
      by (Ok head) is w = from_head head x is (subst (λ (k : Head). load_from p base digest seed batch bytes k ≡ Ok x) (sym (same_ok head (parts (with_fault of_head (head_of bytes)) (λ head. load_from p base digest seed batch bytes head) x h).0 w)) (parts (with_fault of_head (head_of bytes)) (λ head. load_from p base digest seed batch bytes head) x h).2)
      by (Err f) is w = absurd cc

  is_found : (r : Result (Outcome × List (List Entry)) LoadFault) (o : Outcome) → load_of p base digest seed batch bytes ≡ r → outcome_of r ≡ Ok o → Kind o
  is_found (Ok x) o is h = subst (λ (y : Outcome). Kind y) (same_ok x.0 o h) (from_bytes x is)
  is_found (Err f) o is h = absurd cc

  not_committed : (o : Outcome) → Kind o → o.committed ≡ false → IsUncommitted bytes
  not_committed o (no_journal is file) none = file
  not_committed o (a_journal is clear) none = absurd (true_false o.committed is none)

  is_committed : (o : Outcome) → Kind o → o.committed ≡ true → IsClearAt o.end bytes
  is_committed o (no_journal is file) so = absurd (true_false o.committed so is)
  is_committed o (a_journal is clear) so = clear

  pub loaded_uncommitted : (o : Outcome) → outcome_of (load_of p base digest seed batch bytes) ≡ Ok o → o.committed ≡ false → IsUncommitted bytes
  loaded_uncommitted o h none = not_committed o (is_found (load_of p base digest seed batch bytes) o refl h) none

  pub loaded_clear : (o : Outcome) → outcome_of (load_of p base digest seed batch bytes) ≡ Ok o → o.committed ≡ true → IsClearAt o.end bytes
  loaded_clear o h so = is_committed o (is_found (load_of p base digest seed batch bytes) o refl h) so
