-- A journal of records that are read is loaded.
use Rattle.std.proofs.Common.{◌≡◌, ◌≢◌, ◌∙◌, ℕ, zero, suc, ◌+◌, ◌<◌, ◌≤◌, ◌^◌, Bool, true, List, [], ◌∷◌, ◌++◌, length, take, get_or, Option, Some, None, Result, Ok, Err, inl, ◌==◌, if◌then◌else◌, refl, sym, ap, subst, append_assoc, length-append, arith}
use Rattle.std.proofs.lemmas.Bool.Decides.{nat_tests}
use Rattle.std.proofs.lemmas.List.{append-nil}
use Rattle.std.proofs.lemmas.Slice.Eq.{bytes_eq-Decides}
use Rattle.std.proofs.Math.Seq.{take-append_seam}
use Rattle.base_num.specs.Steps.{◌>>=◌}
use Rattle.problem.specs.Formulas.{too_much}
use Rattle.problem.specs.Validated.{Validated, is_validated}
use Rattle.theory.specs.declared.cut.Cut.{Cut}
use Rattle.cut_pool.specs.declared.entry.Entry.{Entry}
use Rattle.journal_record.specs.Reading.{read_batch}
use Rattle.journal_record.specs.Spelling.{spell}
use Rattle.journal_record.proofs.Whole.{batch_again}
use Rattle.journal_file.specs.declared.commit_byte.CommitByte.{CommitByte}
use Rattle.journal_file.specs.declared.commit_byte.CommitByte.TheVariants.{Clear, Set}
use Rattle.journal_file.specs.declared.commit_byte.CommitByteFault.{CommitByteFault}
use Rattle.journal_file.specs.declared.head.Head.TheVariants.{Uncommitted, Committed}
use Rattle.journal_file.specs.CommitBytes.{commit_byte_of, payload_of}
use Rattle.journal_file.specs.Layout.{Title, IsTitle, front, journal}
use Rattle.journal_file.specs.IsPrefix as prefix
use Rattle.journal_file.proofs.CommitBytesRead.{open_commit_byte, payload_there, next_commit_byte, last_commit_byte}
use Rattle.journal_file.proofs.HeadsRead.{head_of_journal, head_of_uncommitted, first_commit_byte}
use Rattle.journal_load.specs.declared.refusal.LoadFault.{LoadFault}
use Rattle.journal_load.specs.declared.refusal.LoadFault.TheVariants.{Refused}
use Rattle.journal_load.specs.declared.refusal.JournalRefusal.TheVariants.{OtherProblem, OtherSeed, OtherBatch}
use Rattle.journal_load.specs.Refusals.{of_commit_byte, with_fault}
use Rattle.journal_load.specs.Records.{Found, fresh_found, Ended, rest_behind, rest_at, record_entries_at, record_at, record_added, records_at}
use Rattle.journal_load.specs.Load.{committed, uncommitted, same_problem, same_seed, same_batch, title_asked, load_records, load_of}
use Rattle.journal_load.specs.Load as loads
use Rattle.journal_load.proofs.Outcomes.{head_good, title_good, uncommitted_from}
use Rattle.plan_train.specs.Training.{payloads}
use Rattle.plan_train.proofs.Placed.{payloads-append}
use Rattle.plan_train.proofs.Recorded.{IsRead, AreRead}

-- ---- a record between others

module _ (before : List (List ℕ)) (x : List ℕ) (behind : List (List ℕ)) where
  abbrev whole : List (List ℕ)
  whole = before ++ x ∷ behind

  there : length before < length whole
  there = omega (arith, length-append before (x ∷ behind))

  ahead : take (length before) whole ≡ before
  ahead = take-append_seam before (x ∷ behind)

  with_it : take (suc (length before)) whole ≡ before ++ x ∷ []
  with_it =
      let one : suc (length before) ≡ length (before ++ x ∷ []) = omega (arith, length-append before (x ∷ [])) in
      ap (λ (n : ℕ). take n whole) one ∙ ap (λ (l : List (List ℕ)). take (length (before ++ x ∷ [])) l) (sym (append_assoc before (x ∷ []) behind)) ∙ take-append_seam (before ++ x ∷ []) behind

here : (before : List (List ℕ)) (x : List ℕ) (behind : List (List ℕ)) → get_or (before ++ x ∷ behind) (length before) [] ≡ x
here [] x behind = refl
here (y ∷ before) x behind = here before x behind

-- its commit byte, its payload, and the commit byte behind it
module _ (t : Title) (before : List (List ℕ)) (x : List ℕ) (behind : List (List ℕ)) (commit_byte : ℕ) (tail : List ℕ) where
  open_there : commit_byte_of (journal t (before ++ x ∷ behind) commit_byte tail) (length (front t before)) ≡ Ok Set
  open_there =
      ap (λ (ps : List (List ℕ)). commit_byte_of (journal t (before ++ x ∷ behind) commit_byte tail) (length (front t ps))) (sym (ahead before x behind))
      ∙ open_commit_byte t (before ++ x ∷ behind) commit_byte tail (length before) (there before x behind)

  payload_is : length x ≤ 2 ^ 26 → payload_of (journal t (before ++ x ∷ behind) commit_byte tail) (length (front t before)) ≡ Ok x
  payload_is few =
      ap (λ (ps : List (List ℕ)). payload_of (journal t (before ++ x ∷ behind) commit_byte tail) (length (front t ps))) (sym (ahead before x behind))
      ∙ payload_there t (before ++ x ∷ behind) commit_byte tail (length before) (there before x behind) (subst (λ (l : List ℕ). length l ≤ 2 ^ 26) (sym (here before x behind)) few)
      ∙ ap (λ (l : List ℕ). Ok l) (here before x behind)

  next_place : length (front t (before ++ x ∷ [])) ≡ length (front t before) + 5 + length x
  next_place =
      ap (λ (ps : List (List ℕ)). length (front t ps)) (sym (with_it before x behind))
      ∙ next_commit_byte t (before ++ x ∷ behind) (length before) (there before x behind)
      ∙ ap (λ (ps : List (List ℕ)). length (front t ps) + 5 + length (get_or (before ++ x ∷ behind) (length before) [])) (ahead before x behind)
      ∙ ap (λ (l : List ℕ). length (front t before) + 5 + length l) (here before x behind)

-- ---- the definition of loading at a commit byte

module _ (bytes : List ℕ) (at : ℕ) where
  abbrev to_rest : Result CommitByte CommitByteFault → Result (Option ℕ) LoadFault
  to_rest g = with_fault of_commit_byte g >>= λ commit_byte. Ok (rest_behind commit_byte)

  rest_open : commit_byte_of bytes at ≡ Ok Set → rest_at bytes at ≡ Ok None
  unfolding rest_at
  rest_open e = ap to_rest e

  rest_clear : (n : ℕ) → commit_byte_of bytes at ≡ Ok (Clear n) → rest_at bytes at ≡ Ok (Some n)
  unfolding rest_at
  rest_clear n e = ap to_rest e

module _ (p : Validated) (batch : ℕ) (bytes : List ℕ) (at : ℕ) where
  entries_there : (k : ℕ) (x : List ℕ) (es : List Entry) → too_much p k batch ≡ None → payload_of bytes at ≡ Ok x → read_batch p k batch x ≡ Ok es → record_entries_at p batch bytes k at ≡ Ok (es, at + 5 + length x)
  unfolding record_entries_at
  entries_there k x es room payload read = rw (room, payload, read) refl

  record_there : (found next : Found) (es : List Entry) (after : ℕ) → record_entries_at p batch bytes (suc (length found.bounds)) at ≡ Ok (es, after) → record_added p found es ≡ Ok next → record_at p batch bytes at found ≡ Ok (es, after, next)
  unfolding record_at
  record_there found next es after entries added = rw (entries, added) refl

  abbrev ended : Found → List (List Entry) → ℕ → Ended
  ended found lists n = record { found = found; lists = lists; end = at; tail = n }

  at_clear : (left n : ℕ) (found : Found) (lists : List (List Entry)) → rest_at bytes at ≡ Ok (Some n) → records_at p batch bytes left at found lists ≡ Ok (ended found lists n)
  unfolding records_at
  at_clear zero n found lists e = rw e refl
  at_clear (suc left) n found lists e = rw e refl

  at_record : (left next : ℕ) (found more : Found) (es : List Entry) (lists : List (List Entry)) → rest_at bytes at ≡ Ok None → record_at p batch bytes at found ≡ Ok (es, next, more) → records_at p batch bytes (suc left) at found lists ≡ records_at p batch bytes left next more (lists ++ es ∷ [])
  unfolding records_at
  at_record left next found more es lists e h = rw (e, h) refl

-- ---- the records of a journal

module _ (p : Validated) (validated : is_validated p ≡ true) (batch : ℕ) (t : Title) (commit_byte : ℕ) (tail : List ℕ) (other : commit_byte ≢ 1) (bytes : List ℕ) where
  abbrev place : List (List Entry) → ℕ
  place lists = length (front t (payloads lists))

  abbrev finished : Found → List (List Entry) → Ended
  finished found lists = record { found = found; lists = lists; end = place lists; tail = length tail }

  -- one of them, and the place of the next commit byte
  one_there : (done left : List (List Entry)) (i : ℕ) (found next : Found) (es : List Entry) → bytes ≡ journal t (payloads (done ++ es ∷ left)) commit_byte tail → IsRead p batch i found es next
      → (rest_at bytes (place done) ≡ Ok None) × (record_at p batch bytes (place done) found ≡ Ok (es, place (done ++ es ∷ []), next))
  one_there done left i found next es is r =
      let same : bytes ≡ journal t (payloads done ++ spell es ∷ payloads left) commit_byte tail = is ∙ ap (λ (ps : List (List ℕ)). journal t ps commit_byte tail) (payloads-append done (es ∷ left)) in
      let set : commit_byte_of bytes (place done) ≡ Ok Set = ap (λ (b : List ℕ). commit_byte_of b (place done)) same ∙ open_there t (payloads done) (spell es) (payloads left) commit_byte tail in
      let payload : payload_of bytes (place done) ≡ Ok (spell es) = ap (λ (b : List ℕ). payload_of b (place done)) same ∙ payload_is t (payloads done) (spell es) (payloads left) commit_byte tail r.short in
      let number : suc i ≡ suc (length found.bounds) = ap suc (sym r.count) in
      let next_at : place done + 5 + length (spell es) ≡ place (done ++ es ∷ []) = sym (next_place t (payloads done) (spell es) (payloads left) commit_byte tail) ∙ ap (λ (ps : List (List ℕ)). length (front t ps)) (sym (payloads-append done (es ∷ []))) in
      let entries : record_entries_at p batch bytes (suc i) (place done) ≡ Ok (es, place done + 5 + length (spell es)) = entries_there p batch bytes (place done) (suc i) (spell es) es r.room payload (batch_again p (suc i) batch es validated r.written) in (
        rest_open bytes (place done) set,
        record_there p batch bytes (place done) found next es (place (done ++ es ∷ []))
            (ap (λ (k : ℕ). record_entries_at p batch bytes k (place done)) (sym number) ∙ entries ∙ ap (λ (n : ℕ). Ok (es, n)) next_at) r.added,
      )

  pub reread : (left done : List (List Entry)) (i more : ℕ) (found after : Found) → length left ≤ more → AreRead p batch i found left after → bytes ≡ journal t (payloads (done ++ left)) commit_byte tail
      → records_at p batch bytes more (place done) found done ≡ Ok (finished after (done ++ left))
  reread [] done i more found after few r is =
      let same : done ++ [] ≡ done = append-nil done in
      let whole : bytes ≡ journal t (payloads done) commit_byte tail = is ∙ ap (λ (ls : List (List Entry)). journal t (payloads ls) commit_byte tail) same in
      let clear : commit_byte_of bytes (place done) ≡ Ok (Clear (length tail)) = ap (λ (b : List ℕ). commit_byte_of b (place done)) whole ∙ last_commit_byte t (payloads done) commit_byte tail other in
      at_clear p batch bytes (place done) more (length tail) found done (rest_clear bytes (place done) (length tail) clear)
      ∙ ap (λ (f : Found). Ok (finished f done)) r ∙ ap (λ (ls : List (List Entry)). Ok (finished after ls)) (sym same)
  reread (es ∷ left) done i zero found after few r is = absurd (omega (arith, few))
  reread (es ∷ left) done i (suc more) found after few r is =
      let one = one_there done left i found r.0 es is r.1 in
      let same : (done ++ es ∷ []) ++ left ≡ done ++ es ∷ left = append_assoc done (es ∷ []) left in
      at_record p batch bytes (place done) more (place (done ++ es ∷ [])) found r.0 es done one.0 one.1
      ∙ reread left (done ++ es ∷ []) (suc i) more r.0 after (omega (arith, few)) r.2 (is ∙ ap (λ (ls : List (List Entry)). journal t (payloads ls) commit_byte tail) (sym same))
      ∙ ap (λ (ls : List (List Entry)). Ok (finished after ls)) same

-- ---- the head

-- the premise on an asked batch
abbrev pub AsksFor : Option ℕ → ℕ → Type 0
AsksFor None batch = Unit {0}
AsksFor (Some b) batch = b ≡ batch

asked_batch : (asked : Option ℕ) (batch : ℕ) → AsksFor asked batch → same_batch asked batch ≡ Ok tt
asked_batch None batch h = refl
asked_batch (Some b) batch h =
    let same : (batch == b) ≡ true = grind (arith, nat_tests, h) in
    ap (λ (x : Bool). if x then Ok tt else Err (Refused (OtherBatch batch b))) same

asked_seed : (seed : ℕ) → same_seed (Some seed) seed ≡ Ok tt
asked_seed seed =
    let same : (seed == seed) ≡ true = grind (arith, nat_tests) in
    ap (λ (x : Bool). if x then Ok tt else Err (Refused (OtherSeed seed seed))) same

asked_problem : (digest : List ℕ) → same_problem digest digest ≡ Ok tt
asked_problem digest = ap (λ (x : Bool). if x then Ok tt else Err (Refused (OtherProblem digest digest))) ((bytes_eq-Decides digest digest).1 refl)

title_there : (digest : List ℕ) (seed batch : ℕ) (asked : Option ℕ) → AsksFor asked batch → title_asked digest (Some seed) asked digest seed batch ≡ Ok tt
unfolding title_asked
title_there digest seed batch asked h = rw (asked_problem digest, asked_seed seed) (asked_batch asked batch h)

records_loaded : (p : Validated) (base : List (List Cut)) (bytes : List ℕ) (version batch : ℕ) (e : Ended) → records_at p batch bytes 2000 (loads.first_commit_byte version) (fresh_found base) [] ≡ Ok e → load_records p base bytes version batch ≡ Ok (committed version batch e, e.lists)
unfolding load_records
records_loaded p base bytes version batch e h = rw h refl

-- A journal of records that are read, behind the head of a title, is loaded where that title is asked.
pub journal_loaded : (p : Validated) → is_validated p ≡ true → (base : List (List Cut)) (t : Title) (asked : Option ℕ) (commit_byte : ℕ) (tail : List ℕ) (lists : List (List Entry)) (after : Found) → IsTitle t → AsksFor asked t.batch → commit_byte ≢ 1
    → length lists ≤ 2000 → AreRead p t.batch 0 (fresh_found base) lists after
    → load_of p base t.digest (Some t.seed) asked (journal t (payloads lists) commit_byte tail)
    ≡ Ok (committed t.version t.batch (record { found = after; lists = lists; end = length (front t (payloads lists)); tail = length tail }), lists)
journal_loaded p validated base t asked commit_byte tail lists after title asks other few read =
    let bytes : List ℕ = journal t (payloads lists) commit_byte tail in
    let e : Ended = record { found = after; lists = lists; end = length (front t (payloads lists)); tail = length tail } in
    let first : loads.first_commit_byte t.version ≡ length (front t []) = omega (arith, first_commit_byte t title) in
    let records : records_at p t.batch bytes 2000 (loads.first_commit_byte t.version) (fresh_found base) [] ≡ Ok e = ap (λ (n : ℕ). records_at p t.batch bytes 2000 n (fresh_found base) []) first ∙ reread p validated t.batch t commit_byte tail other bytes lists [] 0 2000 (fresh_found base) after few read refl in
    head_good p base t.digest (Some t.seed) asked bytes (Committed t.version t.digest t.seed t.batch) (inl (sym (head_of_journal t (payloads lists) commit_byte tail title)))
    ∙ title_good p base t.digest (Some t.seed) asked bytes t.version t.seed t.batch t.digest (title_there t.digest t.seed t.batch asked asks)
    ∙ records_loaded p base bytes t.version t.batch e records

-- And so is what is no journal yet.
pub uncommitted_loaded : (p : Validated) (base : List (List Cut)) (t : Title) (digest : List ℕ) (seed asked : Option ℕ) (bytes : List ℕ) → IsTitle t → prefix.Uncommitted t bytes → load_of p base digest seed asked bytes ≡ Ok (uncommitted base asked, [])
uncommitted_loaded p base t digest seed asked bytes title is =
    head_good p base digest seed asked bytes (Uncommitted (length bytes)) (inl (sym (head_of_uncommitted t bytes title is))) ∙ uncommitted_from p base digest seed asked bytes (length bytes)
