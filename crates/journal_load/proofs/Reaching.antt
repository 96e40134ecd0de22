-- The records of a journal one after the other, as the loop reads them.
use Rattle.std.proofs.Common.{◌≡◌, ℕ, zero, suc, ◌+◌, ◌*◌, ◌-◌, ◌≤◌, ◌<◌, ◌^◌, Bool, true, false, nat_lt, List, [], ◌∷◌, ◌++◌, length, Option, Some, None, IfSome, Result, Ok, Err, refl, sym, ap, subst, ◌∙◌, length-append, arith}
use Rattle.std.specs.Option.{option_map}
use Rattle.std.proofs.lemmas.Bool.Decides.{nat_tests}
use Rattle.std.proofs.lemmas.List.Elements.{All-nil}
use Rattle.base_num.specs.Steps.{◌>>=◌}
use Rattle.problem.specs.Validated.{Validated, is_validated}
use Rattle.theory.specs.declared.cut.Cut.{Cut}
use Rattle.theory.specs.Pools.{pool}
use Rattle.theory.specs.Bound.{Under}
use Rattle.theory.specs.Range.{based}
use Rattle.theory.specs.View.{problem_of}
use Rattle.theory.proofs.Based.{sound-based, fit-based, one-based}
use Rattle.cut_pool.specs.declared.entry.Entry.{Entry}
use Rattle.journal_record.specs.Shape.{IsBatch}
use Rattle.journal_load.proofs.DiskReadings.{told, known}
use Rattle.journal_load.specs.declared.refusal.LoadFault.{LoadFault}
use Rattle.journal_load.specs.declared.refusal.LoadFault.TheVariants as faults
use Rattle.journal_load.specs.declared.refusal.JournalRefusal.TheVariants.{TooMany}
use Rattle.journal_load.specs.Refusals.{LoadFails}
use Rattle.journal_load.specs.Records.{Found, fresh_found, Ended, AreListsKept, EndsAs, or_more, record_added, lists_added, record_at, rest_at, records_at}
use Rattle.journal_load.specs.Accepted.{Accepted, IsSound}
use Rattle.journal_load.proofs.Binding.{bind_on, fails_on, fails_as}
use Rattle.journal_load.proofs.Recorded.{record_sound, is_record, accepted_more}

abbrev ended : Found → List (List Entry) → ℕ → ℕ → Ended
ended found lists at n = record { found = found; lists = lists; end = at; tail = n }

-- the definition at one commit byte
module _ (p : Validated) (batch : ℕ) (bytes : List ℕ) (at : ℕ) (found : Found) (lists : List (List Entry)) where
  abbrev later : ℕ → Result Ended LoadFault
  later left = record_at p batch bytes at found >>= λ read. records_at p batch bytes left read.1 read.2 (lists ++ read.0 ∷ [])

  at_clear : (left n : ℕ) → rest_at bytes at ≡ Ok (Some n) → records_at p batch bytes left at found lists ≡ Ok (ended found lists at n)
  unfolding records_at
  at_clear zero n e = bind_on (rest_at bytes at) (Some n) (λ tail. or_more tail (ended found lists at) (Err (faults.Refused TooMany))) e
  at_clear (suc left) n e = bind_on (rest_at bytes at) (Some n) (λ tail. or_more tail (ended found lists at) (later left)) e

  at_fault : (left : ℕ) (fault : LoadFault) → LoadFails fault (rest_at bytes at) → LoadFails fault (records_at p batch bytes left at found lists)
  unfolding records_at
  at_fault zero fault e = fails_on fault (rest_at bytes at) (λ tail. or_more tail (ended found lists at) (Err (faults.Refused TooMany))) e
  at_fault (suc left) fault e = fails_on fault (rest_at bytes at) (λ tail. or_more tail (ended found lists at) (later left)) e

  too_many : rest_at bytes at ≡ Ok None → records_at p batch bytes 0 at found lists ≡ Err (faults.Refused TooMany)
  unfolding records_at
  too_many e = bind_on (rest_at bytes at) None (λ tail. or_more tail (ended found lists at) (Err (faults.Refused TooMany))) e

  at_open : (left : ℕ) → rest_at bytes at ≡ Ok None → records_at p batch bytes (suc left) at found lists ≡ later left
  unfolding records_at
  at_open left e = bind_on (rest_at bytes at) None (λ tail. or_more tail (ended found lists at) (later left)) e

  at_record : (left next : ℕ) (es : List Entry) (more : Found) → rest_at bytes at ≡ Ok None → record_at p batch bytes at found ≡ Ok (es, next, more) → records_at p batch bytes (suc left) at found lists ≡ records_at p batch bytes left next more (lists ++ es ∷ [])
  at_record left next es more e h = at_open left e ∙ bind_on (record_at p batch bytes at found) (es, next, more) (λ read. records_at p batch bytes left read.1 read.2 (lists ++ read.0 ∷ [])) h

  at_bad : (left : ℕ) (fault : LoadFault) → rest_at bytes at ≡ Ok None → LoadFails fault (record_at p batch bytes at found) → LoadFails fault (records_at p batch bytes (suc left) at found lists)
  at_bad left fault e h = fails_as fault (later left) (records_at p batch bytes (suc left) at found lists) (sym (at_open left e)) (fails_on fault (record_at p batch bytes at found) (λ read. records_at p batch bytes left read.1 read.2 (lists ++ read.0 ∷ [])) h)

-- after i records: what they gave over the base cuts, and that the definition goes on from there
pub record Reached (p : Validated) (base : List (List Cut)) (batch first : ℕ) (reads : Option (List ℕ)) (kept : Option (List (List Entry))) (i at : ℕ) (found : Found) : Type 0 where
  pub lists : List (List Entry)
  pub keeps : AreListsKept kept lists
  pub sound : IsSound p batch i found
  pub accepted : Accepted p base lists found
  pub count : length lists ≡ i
  pub near : at ≤ 54 + i * (5 + 2 ^ 26)
  pub goes_on : IfSome reads (λ bytes. records_at p batch bytes (2000 - i) at found lists ≡ records_at p batch bytes 2000 first (fresh_found base) [])

-- the base cuts
base_cuts : (p : Validated) (base : List (List Cut)) → is_validated p ≡ true → based p ≡ Ok base → (m : ℕ) → length (pool base m) ≤ 1
base_cuts p base validated is m = by (nat_lt m (length p.parts.nodes)) refl
  where
    beyond : (m : ℕ) (pools : List (List Cut)) → length pools ≤ m → length (pool pools m) ≡ 0
    beyond m [] h = refl
    beyond zero (c ∷ pools) h = absurd (omega arith)
    beyond (suc m) (c ∷ pools) h = beyond m pools (omega arith)

    by : (b : Bool) → nat_lt m (length p.parts.nodes) ≡ b → length (pool base m) ≤ 1
    by true e =
        let below : m < length p.parts.nodes = grind (arith, nat_tests, e) in
        omega (arith, one-based p base validated is m below)
    by false e =
        let above : length p.parts.nodes ≤ m = grind (arith, nat_tests, e) in
        omega (arith, beyond m base (omega (arith, (fit-based p base validated is).lists, above)))

pub sound_none : (p : Validated) (base : List (List Cut)) (batch : ℕ) → is_validated p ≡ true → based p ≡ Ok base → IsSound p batch 0 (fresh_found base)
sound_none p base batch validated is = record {
  sound = sound-based p base validated is;
  fit = fit-based p base validated is;
  under = All-nil (Under (problem_of p));
  count = refl;
  cuts = λ m. omega (arith, base_cuts p base validated is m);
  unanswered = omega arith;
}

pub accepted_none : (p : Validated) (base : List (List Cut)) → Accepted p base [] (fresh_found base)
unfolding lists_added
accepted_none p base = record { few = omega arith; records = tt; added = refl }

module _ (p : Validated) (base : List (List Cut)) (batch first : ℕ) (reads : Option (List ℕ)) where
  abbrev After : Option (List (List Entry)) → ℕ → ℕ → Found → Type 0
  After kept i at found = Reached p base batch first reads kept i at found

  pub reached_none : (kept : Option (List (List Entry))) → is_validated p ≡ true → based p ≡ Ok base → first ≤ 54 → AreListsKept kept [] → After kept 0 first (fresh_found base)
  reached_none kept validated is near empty = record {
    lists = [];
    keeps = empty;
    sound = sound_none p base batch validated is;
    accepted = accepted_none p base;
    count = refl;
    near = omega (arith, near);
    goes_on = told reads (λ bytes observable. refl);
  }

  module _ (kept : Option (List (List Entry))) (i at : ℕ) (found : Found) (r : After kept i at found) where
    -- the definition from there
    from_there : (bytes : List ℕ) → reads ≡ Some bytes → records_at p batch bytes (2000 - i) at found r.lists ≡ records_at p batch bytes 2000 first (fresh_found base) []
    from_there bytes observable = known (λ b. records_at p batch b (2000 - i) at found r.lists ≡ records_at p batch b 2000 first (fresh_found base) []) reads bytes observable r.goes_on

    -- the commit byte is 0, or does not tell
    pub reached_clear : (n : ℕ) → IfSome reads (λ bytes. rest_at bytes at ≡ Ok (Some n)) → IfSome reads (λ bytes. EndsAs kept found (Ok (record { end = at; tail = n })) (records_at p batch bytes 2000 first (fresh_found base) []))
    reached_clear n clear = told reads (λ bytes observable. (r.lists, r.keeps, sym (from_there bytes observable) ∙ at_clear p batch bytes at found r.lists (2000 - i) n (known (λ b. rest_at b at ≡ Ok (Some n)) reads bytes observable clear)))

    pub reached_fault : (fault : LoadFault) → IfSome reads (λ bytes. LoadFails fault (rest_at bytes at)) → IfSome reads (λ bytes. LoadFails fault (records_at p batch bytes 2000 first (fresh_found base) []))
    reached_fault fault bad = told reads (λ bytes observable. fails_as fault (records_at p batch bytes (2000 - i) at found r.lists) (records_at p batch bytes 2000 first (fresh_found base) []) (from_there bytes observable) (at_fault p batch bytes at found r.lists (2000 - i) fault (known (λ b. LoadFails fault (rest_at b at)) reads bytes observable bad)))

    module _ (set : IfSome reads (λ bytes. rest_at bytes at ≡ Ok None)) where
      is_open : (bytes : List ℕ) → reads ≡ Some bytes → rest_at bytes at ≡ Ok None
      is_open bytes observable = known (λ b. rest_at b at ≡ Ok None) reads bytes observable set

      pub reached_many : 2000 ≤ i → IfSome reads (λ bytes. LoadFails (faults.Refused TooMany) (records_at p batch bytes 2000 first (fresh_found base) []))
      reached_many last = told reads (λ bytes observable.
          let none : 2000 - i ≡ 0 = omega (arith, last) in
          sym (from_there bytes observable) ∙ ap (λ (n : ℕ). records_at p batch bytes n at found r.lists) none ∙ too_many p batch bytes at found r.lists (is_open bytes observable))

      module _ (below : i < 2000) where
        left : 2000 - i ≡ suc (2000 - (i + 1))
        left = omega (arith, below)

        pub reached_bad : (fault : LoadFault) → IfSome reads (λ bytes. LoadFails fault (record_at p batch bytes at found)) → IfSome reads (λ bytes. LoadFails fault (records_at p batch bytes 2000 first (fresh_found base) []))
        reached_bad fault bad = told reads (λ bytes observable.
            fails_as fault (records_at p batch bytes (suc (2000 - (i + 1))) at found r.lists) (records_at p batch bytes 2000 first (fresh_found base) []) (ap (λ (n : ℕ). records_at p batch bytes n at found r.lists) (sym left) ∙ from_there bytes observable)
            (at_bad p batch bytes at found r.lists (2000 - (i + 1)) fault (is_open bytes observable) (known (λ b. LoadFails fault (record_at p batch b at found)) reads bytes observable bad)))

        pub reached_more : is_validated p ≡ true → batch ≤ 64 → (next : ℕ) (es : List Entry) (more : Found) (keep : Option (List (List Entry)))
            → IfSome reads (λ bytes. record_at p batch bytes at found ≡ Ok (es, next, more)) → IsBatch p (suc (length found.bounds)) batch es → record_added p found es ≡ Ok more
            → next ≤ at + 5 + 2 ^ 26 → keep ≡ option_map (λ (k : List (List Entry)). k ++ es ∷ []) kept → After keep (i + 1) next more
        reached_more validated few next es more keep reading is_batch added near keeping =
            let batch_i : IsBatch p (suc i) batch es = subst (λ (k : ℕ). IsBatch p (suc k) batch es) r.sound.count is_batch in
            record {
              lists = r.lists ++ es ∷ [];
              keeps = kept_more kept keep r.lists es keeping r.keeps;
              sound = subst (λ (k : ℕ). IsSound p batch k more) (omega arith) (record_sound p validated batch i es batch_i few found more r.sound added);
              accepted = accepted_more p base r.lists es found more (omega (arith, r.count, below)) r.accepted (is_record p validated batch i es batch_i few) added;
              count = omega (arith, length-append r.lists (es ∷ []), r.count);
              near = omega (arith, near, r.near);
              goes_on = told reads (λ bytes observable.
                  sym (at_record p batch bytes at found r.lists (2000 - (i + 1)) next es more (is_open bytes observable) (known (λ b. record_at p batch b at found ≡ Ok (es, next, more)) reads bytes observable reading))
                  ∙ ap (λ (n : ℕ). records_at p batch bytes n at found r.lists) (sym left) ∙ from_there bytes observable);
            }
          where
            kept_more : (kept keep : Option (List (List Entry))) (lists : List (List Entry)) (es : List Entry) → keep ≡ option_map (λ (k : List (List Entry)). k ++ es ∷ []) kept → AreListsKept kept lists → AreListsKept keep (lists ++ es ∷ [])
            kept_more None keep lists es is has = subst (λ (o : Option (List (List Entry))). AreListsKept o (lists ++ es ∷ [])) (sym is) tt
            kept_more (Some k) keep lists es is has = subst (λ (o : Option (List (List Entry))). AreListsKept o (lists ++ es ∷ [])) (sym is) (ap (λ (x : List (List Entry)). x ++ es ∷ []) has)
