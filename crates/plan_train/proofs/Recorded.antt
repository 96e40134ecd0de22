-- The lists of iterations are records that are read, one after another, from the base cuts on.
use Rattle.std.proofs.Common.{◌≡◌, ◌∙◌, ℕ, zero, suc, ◌+◌, ◌*◌, ◌≤◌, ◌^◌, true, List, [], ◌∷◌, ◌++◌, length, Option, Some, None, Result, Ok, Err, refl, sym, ap, subst, arith, length-append}
use Rattle.std.specs.List.{sum_by}
use Rattle.std.proofs.lemmas.List.Sums.{sum_by_push}
use Rattle.problem.specs.Formulas.{too_much}
use Rattle.problem.specs.Validated.{Validated, is_validated}
use Rattle.theory.specs.declared.cut.Cut.{Cut}
use Rattle.theory.specs.Bound.{bound}
use Rattle.theory.specs.Range.{based}
use Rattle.theory.specs.Pools.{pool}
use Rattle.theory.specs.View.{problem_of}
use Rattle.cut_pool.specs.declared.entry.Entry.{Entry}
use Rattle.lp_program.specs.Solving.{Solving}
use Rattle.plan_answer.specs.declared.plan_fault.PlanFault.{PlanFault}
use Rattle.journal_record.specs.Shape.{IsBatch}
use Rattle.journal_record.specs.Spelling.{spell}
use Rattle.journal_load.specs.Cuts.{entries_added}
use Rattle.journal_load.specs.Records.{Found, fresh_found, record_added, lists_added}
use Rattle.journal_load.specs.Accepted.{IsSound}
use Rattle.journal_load.proofs.Binding.{bind_on}
use Rattle.journal_load.proofs.Reaching.{sound_none}
use Rattle.journal_load.proofs.Recorded.{record_sound, lists_more}
use Rattle.plan_train.specs.Stepping.{Stepped, training_step}
use Rattle.plan_train.specs.Continuing.{Continued, with_step, continued}
use Rattle.plan_train.specs.Training.{unanswered_in}
use Rattle.plan_train.proofs.Continuing.{goes_on, stays, counted}
use Rattle.plan_train.proofs.Formulas.{too_much-fewer, IsRecorded, is_recorded}

-- a record that is read after i others: its entries have one text, which is not too long, the formulas are kept, and
-- its steps are accepted
pub record IsRead (p : Validated) (batch i : ℕ) (found : Found) (es : List Entry) (next : Found) : Type 0 where
  pub written : IsBatch p (suc i) batch es
  pub short : length (spell es) ≤ 2 ^ 26
  pub room : too_much p (suc i) batch ≡ None
  pub added : record_added p found es ≡ Ok next
  pub count : length found.bounds ≡ i

-- one after another, from what was found before on
abbrev pub AreRead : Validated → ℕ → ℕ → Found → List (List Entry) → Found → Type 0
AreRead p batch i found [] after = found ≡ after
AreRead p batch i found (es ∷ lists) after = (next : Found) × IsRead p batch i found es next × AreRead p batch (suc i) next lists after

read_more : (p : Validated) (batch i n : ℕ) (found mid after : Found) (lists : List (List Entry)) (es : List Entry) → i + length lists ≡ n → AreRead p batch i found lists mid → IsRead p batch n mid es after → AreRead p batch i found (lists ++ es ∷ []) after
read_more p batch i n found mid after [] es is r one =
    let same : n ≡ i = omega (arith, is) in
    (after, subst (λ (f : Found). IsRead p batch i f es after) (sym r) (subst (λ (k : ℕ). IsRead p batch k mid es after) same one), refl)
read_more p batch i n found mid after (x ∷ lists) es is r one = (r.0, r.1, read_more p batch (suc i) n r.0 mid after lists es (omega (arith, is)) r.2 one)

-- the findings of iterations, as records have them
abbrev pub found_by : Continued → Found
found_by c = record { pools = c.pools; bounds = c.bounds; unanswered = unanswered_in c.lists }

-- their lists are read so
pub record AreRecorded (p : Validated) (base : List (List Cut)) (batch : ℕ) (c : Continued) : Type 0 where
  pub read : AreRead p batch 0 (fresh_found base) c.lists (found_by c)
  pub sound : IsSound p batch (length c.lists) (found_by c)
  pub added : lists_added p (fresh_found base) c.lists ≡ Ok (found_by c)

module _ (p : Validated) (base : List (List Cut)) (batch : ℕ) where
  -- the addition of an iteration to the findings
  step_added : (c : Continued) (s : Stepped) → entries_added p c.pools s.entries ≡ Ok s.pools → record_added p (found_by c) s.entries ≡ Ok (found_by (with_step p c (Ok s)))
  unfolding record_added
  step_added c s e =
      bind_on (entries_added p c.pools s.entries) s.pools (λ pools. Ok (record { pools = pools; bounds = c.bounds ++ bound (problem_of p) pools ∷ []; unanswered = unanswered_in c.lists + sum_by (λ (x : Entry). x.unanswered) s.entries })) e
      ∙ ap (λ (n : ℕ). Ok (record { pools = s.pools; bounds = c.bounds ++ bound (problem_of p) s.pools ∷ []; unanswered = n })) (sym (sum_by_push (sum_by (λ (x : Entry). x.unanswered)) c.lists s.entries))

  recorded_none : is_validated p ≡ true → based p ≡ Ok base → (c : Continued) → c.lists ≡ [] → fresh_found base ≡ found_by c → AreRecorded p base batch c
  unfolding lists_added
  recorded_none validated is c none same = record {
    read = subst (λ (ls : List (List Entry)). AreRead p batch 0 (fresh_found base) ls (found_by c)) (sym none) same;
    sound = subst (λ (ls : List (List Entry)). IsSound p batch (length ls) (found_by c)) (sym none) (subst (IsSound p batch 0) same (sound_none p base batch validated is));
    added = subst (λ (ls : List (List Entry)). lists_added p (fresh_found base) ls ≡ Ok (found_by c)) (sym none) (ap (λ (f : Found). Ok f) same);
  }

  recorded_more : is_validated p ≡ true → batch ≤ 64 → (c : Continued) (s : Stepped) (n : ℕ) → AreRecorded p base batch c → length c.lists ≡ n → too_much p (suc n) batch ≡ None → IsRecorded p batch n c.pools s → AreRecorded p base batch (with_step p c (Ok s))
  recorded_more validated paths c s n r count room i =
      let next : Continued = with_step p c (Ok s) in
      let added = step_added c s i.iteration.added in
      let at : IsSound p batch n (found_by c) = subst (λ (k : ℕ). IsSound p batch k (found_by c)) count r.sound in
      let longer : suc n ≡ length next.lists = omega (arith, count, length-append c.lists (s.entries ∷ [])) in
      record {
        read = read_more p batch 0 n (fresh_found base) (found_by c) (found_by next) c.lists s.entries (omega (arith, count)) r.read (record { written = i.iteration.written; short = i.short; room = room; added = added; count = at.count });
        sound = subst (λ (k : ℕ). IsSound p batch k (found_by next)) longer (record_sound p validated batch n s.entries i.iteration.written paths (found_by c) (found_by next) at added);
        added = lists_more p (fresh_found base) (found_by c) (found_by next) c.lists s.entries r.added added;
      }

-- Iterations from the base cuts, up to so many for which the formulas are kept.
module _ {Start Chain : Type 0} (v : Solving Start Chain) (p : Validated) (validated : is_validated p ≡ true) (base : List (List Cut)) (is : based p ≡ Ok base) (seed batch count : ℕ) (few : count ≤ 2000) (paths : batch ≤ 64) (room : too_much p count batch ≡ None) where
  abbrev after : ℕ → Continued
  after n = continued v p base seed batch 0 n

  abbrev Good : ℕ → Type 0
  Good n = AreRecorded p base batch (after n)

  none_yet : Good 0
  unfolding continued
  none_yet = recorded_none p base batch validated is (after 0) refl refl

  -- the next iteration, by what it gave
  next_by : (n : ℕ) (r : Result Stepped PlanFault) → suc n ≤ count → (after n).stop ≡ None → training_step v p (after n).pools seed batch (suc n) ≡ r → Good n → AreRecorded p base batch (with_step p (after n) r)
  next_by n (Err f) below running gives good = record { read = good.read; sound = good.sound; added = good.added }
  next_by n (Ok s) below running gives good =
      let c : Continued = after n in
      let there : length c.lists ≡ n = (counted v p base seed batch 0 n running).0 in
      let cuts : (m : ℕ) → length (pool c.pools m) ≤ 1 + n * batch = λ m. subst (λ (k : ℕ). length (pool c.pools m) ≤ 1 + k * batch) there (good.sound.cuts m) in
      recorded_more p base batch validated paths c s n good there (too_much-fewer p (suc n) count batch below room)
      (is_recorded v p validated c.pools seed batch n count s good.sound.fit cuts below few paths room gives)

  next : (n : ℕ) (o : Option PlanFault) → suc n ≤ count → (after n).stop ≡ o → Good n → Good (suc n)
  next n (Some f) below stopped good = subst (AreRecorded p base batch) (sym (stays v p base seed batch 0 (suc n) n f (omega arith) stopped)) good
  next n None below running good =
      let same : suc (0 + n) ≡ suc n = omega arith in
      let gives : training_step v p (after n).pools seed batch (suc (0 + n)) ≡ training_step v p (after n).pools seed batch (suc n) = ap (λ (k : ℕ). training_step v p (after n).pools seed batch k) same in
      subst (AreRecorded p base batch) (sym (goes_on v p base seed batch 0 n (training_step v p (after n).pools seed batch (suc n)) running gives)) (next_by n (training_step v p (after n).pools seed batch (suc n)) below running refl good)

  pub are_recorded : (n : ℕ) → n ≤ count → Good n
  are_recorded zero below = none_yet
  are_recorded (suc n) below = next n (after n).stop below refl (are_recorded n (omega (arith, below)))
