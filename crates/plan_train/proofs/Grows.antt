-- The loaded outcome and the journal's disk, as iterations leave them.
use Rattle.std.proofs.Common.{◌≡◌, ℕ, suc, ◌+◌, ◌*◌, ℤ, ◌≤◌, ◌<◌, ◌^◌, List, [], ◌∷◌, ◌++◌, length, take, get_or, Bool, true, if◌then◌else◌, Option, Some, None, IfSome, Result, Ok, Err, All, refl, sym, ap, subst, ◌∙◌, append_assoc, arith}
use Rattle.std.specs.Option.{option_map}
use Rattle.std.specs.List.{sum_by}
use Rattle.std.proofs.lemmas.List.{append-nil}
use Rattle.std.proofs.lemmas.List.Sums.{sum_by-append, sum_by-cons}
use Rattle.base_num.specs.Steps.{◌>>=◌}
use Rattle.base_device.specs.Disks.{Store, Lawful}
use Rattle.base_device.specs.Since.{Quiet, LeavesOnly}
use Rattle.base_device.proofs.RunsOfCalls.{then_on}
use Rattle.problem.specs.Validated.{Validated}
use Rattle.theory.specs.declared.cut.Cut.{Cut}
use Rattle.theory.specs.Bound.{bound, Under}
use Rattle.theory.specs.Pools.{pool, Sound}
use Rattle.theory.specs.View.{problem_of}
use Rattle.cut_pool.specs.AtNodes.{PoolsFit}
use Rattle.cut_pool.specs.declared.entry.Entry.{Entry}
use Rattle.journal_record.specs.Spelling.{spell}
use Rattle.journal_file.specs.Layout.{Title, body_of, journal, records}
use Rattle.journal_file.specs.IsPrefix.{IsGrownPrefix, clear}
use Rattle.journal_file.proofs.DiskBytes.{told, known, mapped, map_same, begins}
use Rattle.journal_load.specs.declared.loaded.Loaded.{Loaded}
use Rattle.journal_load.specs.Load.{Outcome, first_commit_byte, seen_outcome}
use Rattle.lp_program.specs.Solving.{Solving}
use Rattle.plan_answer.specs.declared.plan_fault.PlanFault.{PlanFault}
use Rattle.plan_train.specs.Stepping.{Stepped, training_step}
use Rattle.plan_train.specs.Continuing.{Continued, before_any, with_step, continued}
use Rattle.plan_answer.specs.declared.plan_fault.PlanFault.TheVariants as faults
use Rattle.plan_answer.specs.Faults.{Stops}
use Rattle.plan_train.specs.Iterating.{EndsClear, behind, iterated, with_stepped}
use Rattle.plan_train.specs.Training.{GoesOnWith, StopsAs, WhenWhole, last_commit_byte, payloads, trained, unanswered_in}
use Rattle.plan_train.proofs.Continuing.{goes_on, next_list, stays}
use Rattle.plan_train.proofs.Placed.{parted, behind_none, behind_ends, behind_more, behind_journal, records_longer, payloads-append}
use Rattle.journal_load.proofs.Binding.{bind_ok}
use Rattle.plan_train.proofs.Answered.{same_ok}

-- ---- the disk

-- the records of these lists stand behind a commit byte, and a crash at any moment left a journal that grows to the last ones
pub record HasRecorded (old new : Store) (at : ℕ) (lists final : List (List Entry)) : Type 0 where
  pub reads : new.reads ≡ option_map (behind at lists) old.reads
  pub quiet : Quiet new
  pub moment : IfSome old.reads (λ bytes. (t : Title) (ps : List (List ℕ)) (j : ℕ) → bytes ≡ journal t (take j ps) 0 [] → GoesOnWith j ps final → LeavesOnly old new (IsGrownPrefix t ps j))

-- at the start
pub recorded_none : (s : Store) (at : ℕ) (final : List (List Entry)) → Lawful s → Quiet s → IfSome s.reads (EndsClear at) → HasRecorded s s at [] final
recorded_none s at final lawful quiet ends = record {
  reads = sym (map_same s.reads (behind at []) (told s.reads (λ bytes is. behind_none at bytes (known (EndsClear at) s.reads bytes is ends))));
  quiet = quiet;
  moment = told s.reads (λ bytes is t ps j same goes. begins s (IsGrownPrefix t ps j) bytes lawful is quiet (j, omega arith, clear goes.0 [] same));
}

-- the place of the commit byte behind the records, and what stands there
pub recorded_ends : (old new : Store) (at : ℕ) (lists final : List (List Entry)) → HasRecorded old new at lists final → IfSome old.reads (EndsClear at) → IfSome new.reads (EndsClear (at + length (records (payloads lists))))
recorded_ends old new at lists final has ends =
    subst (λ (r : Option (List ℕ)). IfSome r (EndsClear (at + length (records (payloads lists))))) (sym has.reads) (each old.reads ends)
  where
    each : (r : Option (List ℕ)) → IfSome r (EndsClear at) → IfSome (option_map (behind at lists) r) (EndsClear (at + length (records (payloads lists))))
    each None e = tt
    each (Some bytes) e = behind_ends at bytes lists e

-- a crash at any moment while a record is appended
abbrev pub LeavesAppended : List ℕ → Store → Store → Type 0
LeavesAppended body old new = IfSome old.reads (λ bytes. (t : Title) (ps : List (List ℕ)) (j : ℕ) → j < length ps → bytes ≡ journal t (take j ps) 0 [] → body ≡ body_of (get_or ps j []) → LeavesOnly old new (IsGrownPrefix t ps j))

module _ (old mid new : Store) (at : ℕ) (lists : List (List Entry)) (es : List Entry) (tail : List (List Entry)) (body : List ℕ) (has : HasRecorded old mid at lists (lists ++ es ∷ tail)) (ends : IfSome old.reads (EndsClear at)) (is : body ≡ body_of (spell es)) where
  -- while a record is appended
  pub moment_more : LeavesAppended body mid new → IfSome old.reads (λ bytes. (t : Title) (ps : List (List ℕ)) (j : ℕ) → bytes ≡ journal t (take j ps) 0 [] → GoesOnWith j ps (lists ++ es ∷ tail) → LeavesOnly old new (IsGrownPrefix t ps j))
  moment_more leaves = told old.reads (λ bytes reads t ps j same goes.
      let e = known (EndsClear at) old.reads bytes reads ends in
      let k : ℕ = j + length (payloads lists) in
      let later : List (List ℕ) = goes.1 in
      let parts = parted [] j ps (payloads lists) (spell es) (payloads tail ++ later) goes.0
      (goes.2 ∙ ap (λ (qs : List (List ℕ)). qs ++ later) (payloads-append lists (es ∷ tail)) ∙ append_assoc (payloads lists) (payloads (es ∷ tail)) later) in
      let so_far = known (λ b. (t : Title) (ps : List (List ℕ)) (j : ℕ) → b ≡ journal t (take j ps) 0 [] → GoesOnWith j ps (lists ++ es ∷ tail) → LeavesOnly old mid (IsGrownPrefix t ps j)) old.reads bytes reads has.moment t ps j same goes in
      let now : mid.reads ≡ Some (behind at lists bytes) = mapped old.reads mid.reads (behind at lists) bytes reads has.reads in
      let run = known (λ b. (t : Title) (ps : List (List ℕ)) (j : ℕ) → j < length ps → b ≡ journal t (take j ps) 0 [] → body ≡ body_of (get_or ps j []) → LeavesOnly mid new (IsGrownPrefix t ps j)) mid.reads (behind at lists bytes) now leaves t ps k parts.below (behind_journal t ps j at bytes lists e same parts.front) (is ∙ ap body_of (sym parts.here)) in
      then_on old mid new (IsGrownPrefix t ps j) (IsGrownPrefix t ps k) so_far run (λ c grown. (grown.0, omega (arith, grown.1), grown.2)))

  -- once it is appended
  pub recorded_more : LeavesAppended body mid new → Quiet new → new.reads ≡ option_map (λ bytes. take (at + length (records (payloads lists))) bytes ++ 1 ∷ body) mid.reads → HasRecorded old new at (lists ++ es ∷ []) (lists ++ es ∷ tail)
  recorded_more leaves quiet reads = record {
    reads = reads ∙ ap (option_map (λ bytes. take (at + length (records (payloads lists))) bytes ++ 1 ∷ body)) has.reads ∙ each old.reads ends;
    quiet = quiet;
    moment = moment_more leaves;
  }
    where
      each : (r : Option (List ℕ)) → IfSome r (EndsClear at) → option_map (λ bytes. take (at + length (records (payloads lists))) bytes ++ 1 ∷ body) (option_map (behind at lists) r) ≡ option_map (behind at (lists ++ es ∷ [])) r
      each None e = refl
      each (Some bytes) e = ap (λ (b : List ℕ). Some b) (behind_more at bytes lists es body e is)

-- ---- what was loaded

ok_err : {A E : Type 0} (x : A) (f : E) → (let l : Result A E = Ok x in l ≡ Err f) → ⊥
ok_err x f h = cc

same_err : {A E : Type 0} (e f : E) → (let l : Result A E = Err e in l ≡ Err f) → e ≡ f
same_err e f h = cc

module _ {Start Chain : Type 0} (v : Solving Start Chain) (p : Validated) (seed : ℕ) where
  abbrev pub after : Loaded → ℕ → Continued
  after old n = continued v p old.pools.lists seed old.batch (length old.bounds) n

  -- n iterations were done
  pub record HasIterated (n : ℕ) (old new : Loaded) : Type 0 where
    pub value : seen_outcome new ≡ trained (seen_outcome old) (after old n)
    pub running : (after old n).stop ≡ None
    pub fit : PoolsFit p new.pools.lists
    pub cuts : (m : ℕ) → length (pool new.pools.lists m) ≤ 1 + (length old.bounds + n) * old.batch
    pub sound : Sound (problem_of p) old.pools.lists → Sound (problem_of p) new.pools.lists
    pub under : Sound (problem_of p) old.pools.lists → All (Under (problem_of p)) old.bounds → All (Under (problem_of p)) new.bounds
    pub unanswered : new.unanswered ≤ old.unanswered + n * 2 ^ 38
    pub end : new.end ≤ old.end + n * (2 ^ 26 + 5)

  record_is : (l : Loaded) → l.committed ≡ true → l.tail ≡ 0 → seen_outcome l ≡ trained (seen_outcome l) (before_any l.pools.lists)
  unfolding records
  record_is l committed tail =
      let u : l.unanswered + 0 ≡ l.unanswered = omega arith in
      let e : l.end + 0 ≡ l.end = omega arith in
      rw (committed, tail, append-nil l.bounds, u, e) refl

  pub iterated_none : (l : Loaded) → l.committed ≡ true → l.tail ≡ 0 → PoolsFit p l.pools.lists → ((m : ℕ) → length (pool l.pools.lists m) ≤ 1 + length l.bounds * l.batch) → HasIterated 0 l l
  unfolding continued
  iterated_none l committed tail fit cuts = record {
    value = record_is l committed tail;
    running = refl;
    fit = fit;
    cuts = λ m. omega (arith, cuts m);
    sound = λ s. s;
    under = λ s u. u;
    unanswered = omega arith;
    end = omega arith;
  }

  -- an outcome with another end
  abbrev pub moved : Outcome → ℕ → Outcome
  moved o end = record { pools = o.pools; bounds = o.bounds; unanswered = o.unanswered; committed = o.committed; end = end; tail = o.tail; version = o.version; batch = o.batch }

  unanswered_more : (lists : List (List Entry)) (es : List Entry) → unanswered_in (lists ++ es ∷ []) ≡ unanswered_in lists + sum_by (λ (e : Entry). e.unanswered) es
  unanswered_more lists es = let one = sum_by-append (sum_by (λ (e : Entry). e.unanswered)) lists (es ∷ []) in let nil = sum_by-cons (sum_by (λ (e : Entry). e.unanswered)) es [] in omega (arith, one, nil)

  fields : (pools : List (List Cut)) (bounds bounds' : List ℤ) (u u' : ℕ) (committed committed' : Bool) (end end' tail tail' version version' batch batch' : ℕ) → bounds ≡ bounds' → u ≡ u' → committed ≡ committed' → end ≡ end' → tail ≡ tail' → version ≡ version' → batch ≡ batch'
      → (let o : Outcome = record { pools = pools; bounds = bounds; unanswered = u; committed = committed; end = end; tail = tail; version = version; batch = batch } in o) ≡ record { pools = pools; bounds = bounds'; unanswered = u'; committed = committed'; end = end'; tail = tail'; version = version'; batch = batch' }
  fields pools bounds bounds' u u' committed committed' end end' tail tail' version version' batch batch' a b c d e f g = rw (a, b, c, d, e, f, g) refl

  value_more : (old mid : Loaded) (c : Continued) (s : Stepped) (body : List ℕ) → seen_outcome mid ≡ trained (seen_outcome old) c → body ≡ body_of (spell s.entries) → moved (with_stepped p mid s) (mid.end + length body) ≡ trained (seen_outcome old) (with_step p c (Ok s))
  value_more old mid c s body is spells =
      fields s.pools _ _ _ _ _ _ _ _ _ _ _ _ _ _
      (ap (λ (o : Outcome). o.bounds ++ bound (problem_of p) s.pools ∷ []) is ∙ append_assoc old.bounds c.bounds (bound (problem_of p) s.pools ∷ []))
      (ap (λ (o : Outcome). o.unanswered + sum_by (λ (e : Entry). e.unanswered) s.entries) is ∙ omega (arith, unanswered_more c.lists s.entries))
      (ap (λ (o : Outcome). o.committed) is)
      (ap (λ (o : Outcome). o.end + length body) is ∙ omega (arith, records_longer c.lists s.entries, ap length spells))
      (ap (λ (o : Outcome). o.tail) is)
      (ap (λ (o : Outcome). o.version) is)
      (ap (λ (o : Outcome). o.batch) is)

  -- the outcome of an iteration, by its parts
  pub record WasStepped (n : ℕ) (old mid : Loaded) (body : List ℕ) (o : Outcome) : Type 0 where
    pub s : Stepped
    pub step : training_step v p (after old n).pools seed old.batch (suc (length old.bounds + n)) ≡ Ok s
    pub outcome : o ≡ with_stepped p mid s
    pub spells : body ≡ body_of (spell s.entries)

  same_pair : {A B E : Type 0} (a a' : A) (b b' : B) → (let l : Result (A × B) E = Ok (a, b) in l ≡ Ok (a', b')) → (a ≡ a') × (b ≡ b')
  same_pair a a' b b' h = let e = same_ok (a, b) (a', b') h in (ap (λ x. x.0) e, ap (λ x. x.1) e)

  pub was_stepped : (n k : ℕ) (old mid : Loaded) (body : List ℕ) (o : Outcome) → HasIterated n old mid → k ≡ suc (length old.bounds + n) → iterated v p mid seed k ≡ Ok (o, body) → WasStepped n old mid body o
  unfolding iterated
  was_stepped n k old mid body o has number is =
      let parts = bind_ok (training_step v p mid.pools.lists seed mid.batch k) (λ s. Ok (with_stepped p mid s, body_of (spell s.entries))) (o, body) is in
      let same = same_pair (with_stepped p mid parts.0) o (body_of (spell parts.0.entries)) body parts.2 in
      let pools : mid.pools.lists ≡ (after old n).pools = ap (λ (x : Outcome). x.pools) has.value in
      let batch : mid.batch ≡ old.batch = ap (λ (x : Outcome). x.batch) has.value in
      record {
        s = parts.0;
        step = rw (sym pools, sym batch, sym number) parts.1;
        outcome = sym same.0;
        spells = sym same.1;
      }

  only_stops : {A B E : Type 0} (r : Result A E) (g : A → B) (f : E) → (r >>= λ x. Ok (g x)) ≡ Err f → r ≡ Err f
  only_stops (Ok x) g f h = absurd (ok_err (g x) f h)
  only_stops (Err e) g f h = ap Err (same_err e f h)

  -- an iteration stopped
  pub was_stopped : (n k : ℕ) (old mid : Loaded) (f : PlanFault) → HasIterated n old mid → k ≡ suc (length old.bounds + n) → iterated v p mid seed k ≡ Err f → after old (suc n) ≡ with_step p (after old n) (Err f)
  unfolding iterated
  was_stopped n k old mid f has number is =
      let pools : mid.pools.lists ≡ (after old n).pools = ap (λ (x : Outcome). x.pools) has.value in
      let batch : mid.batch ≡ old.batch = ap (λ (x : Outcome). x.batch) has.value in
      let step : training_step v p mid.pools.lists seed mid.batch k ≡ Err f = only_stops (training_step v p mid.pools.lists seed mid.batch k) (λ s. (with_stepped p mid s, body_of (spell s.entries))) f is in
      goes_on v p old.pools.lists seed old.batch (length old.bounds) n (Err f) has.running (rw (sym pools, sym batch, sym number) step)

  -- the last iterations stop where one does
  pub all_stopped : (n left : ℕ) (old : Loaded) (f : PlanFault) → suc n ≤ left → after old (suc n) ≡ with_step p (after old n) (Err f) → after old left ≡ with_step p (after old n) (Err f)
  all_stopped n left old f below is = stays v p old.pools.lists seed old.batch (length old.bounds) left (suc n) f below (ap (λ (c : Continued). c.stop) is) ∙ is

  -- the entries of the next iteration stand behind those before it
  pub list_more : (n left : ℕ) (old mid : Loaded) (body : List ℕ) (o : Outcome) → suc n ≤ left → HasIterated n old mid → (w : WasStepped n old mid body o) → (tail : List (List Entry)) × ((after old left).lists ≡ (after old n).lists ++ w.s.entries ∷ tail)
  list_more n left old mid body o below has w = next_list v p old.pools.lists seed old.batch (length old.bounds) left n w.s below has.running w.step

  -- one iteration more was done
  pub iterated_more : (n : ℕ) (old mid mid' new : Loaded) (body : List ℕ) → HasIterated n old mid → WasStepped n old mid body (seen_outcome mid') → seen_outcome new ≡ moved (seen_outcome mid') (mid.end + length body)
      → length body ≤ 2 ^ 26 + 5
      → PoolsFit p mid'.pools.lists
      → ((m : ℕ) → length (pool mid'.pools.lists m) ≤ 1 + suc (length old.bounds + n) * mid.batch)
      → (Sound (problem_of p) mid.pools.lists → Sound (problem_of p) mid'.pools.lists)
      → (Sound (problem_of p) mid.pools.lists → All (Under (problem_of p)) mid.bounds → All (Under (problem_of p)) mid'.bounds)
      → mid'.unanswered ≤ mid.unanswered + 2 ^ 38
      → HasIterated (suc n) old new
  iterated_more n old mid mid' new body has w is short fit cuts sound under unanswered =
      let pools : new.pools.lists ≡ mid'.pools.lists = ap (λ (x : Outcome). x.pools) is in
      let bounds : new.bounds ≡ mid'.bounds = ap (λ (x : Outcome). x.bounds) is in
      let batch : mid.batch ≡ old.batch = ap (λ (x : Outcome). x.batch) has.value in
      let more = goes_on v p old.pools.lists seed old.batch (length old.bounds) n (Ok w.s) has.running w.step in
      record {
        value = is ∙ ap (λ (o : Outcome). moved o (mid.end + length body)) w.outcome ∙ value_more old mid (after old n) w.s body has.value w.spells ∙ ap (λ (c : Continued). trained (seen_outcome old) c) (sym more);
        running = ap (λ (c : Continued). c.stop) more;
        fit = subst (λ (x : List (List Cut)). PoolsFit p x) (sym pools) fit;
        cuts = λ m. subst (λ (b : ℕ). length (pool new.pools.lists m) ≤ 1 + (length old.bounds + suc n) * b) batch (subst (λ (x : List (List Cut)). length (pool x m) ≤ 1 + (length old.bounds + suc n) * mid.batch) (sym pools) (subst (λ (k : ℕ). length (pool mid'.pools.lists m) ≤ 1 + k * mid.batch) (omega arith) (cuts m)));
        sound = λ s. subst (λ (x : List (List Cut)). Sound (problem_of p) x) (sym pools) (sound (has.sound s));
        under = λ s u. subst (λ (x : List ℤ). All (Under (problem_of p)) x) (sym bounds) (under (has.sound s) (has.under s u));
        unanswered = omega (arith, ap (λ (x : Outcome). x.unanswered) is, unanswered, has.unanswered);
        end = omega (arith, ap (λ (x : Outcome). x.end) is, short, has.end);
      }

-- the outcome of an open journal ends at its commit byte
pub commit_byte_is : (l : Loaded) → l.committed ≡ true → last_commit_byte (seen_outcome l) ≡ l.end
commit_byte_is l committed = ap (λ (b : Bool). if b then l.end else first_commit_byte l.version) committed

-- an appended record, where the last lists are known
module _ (old mid new : Store) (at : ℕ) (lists final : List (List Entry)) (es : List Entry) (tail : List (List Entry)) (body : List ℕ) (has : HasRecorded old mid at lists final) (ends : IfSome old.reads (EndsClear at)) (goes : final ≡ lists ++ es ∷ tail) (is : body ≡ body_of (spell es)) where
  pub moment_on : LeavesAppended body mid new → IfSome old.reads (λ bytes. (t : Title) (ps : List (List ℕ)) (j : ℕ) → bytes ≡ journal t (take j ps) 0 [] → GoesOnWith j ps final → LeavesOnly old new (IsGrownPrefix t ps j))
  moment_on leaves =
      subst (λ (f : List (List Entry)). IfSome old.reads (λ bytes. (t : Title) (ps : List (List ℕ)) (j : ℕ) → bytes ≡ journal t (take j ps) 0 [] → GoesOnWith j ps f → LeavesOnly old new (IsGrownPrefix t ps j))) (sym goes)
      (moment_more old mid new at lists es tail body (subst (λ (f : List (List Entry)). HasRecorded old mid at lists f) goes has) ends is leaves)

  pub recorded_on : LeavesAppended body mid new → Quiet new → (end : ℕ) → end ≡ at + length (records (payloads lists)) → new.reads ≡ option_map (λ bytes. take end bytes ++ 1 ∷ body) mid.reads → (more : List (List Entry)) → more ≡ lists ++ es ∷ [] → HasRecorded old new at more final
  recorded_on leaves quiet end place reads more grown =
      subst (λ (m : List (List Entry)). HasRecorded old new at m final) (sym grown)
      (subst (λ (f : List (List Entry)). HasRecorded old new at (lists ++ es ∷ []) f) (sym goes)
      (recorded_more old mid new at lists es tail body (subst (λ (f : List (List Entry)). HasRecorded old mid at lists f) goes has) ends is leaves quiet
      (subst (λ (n : ℕ). new.reads ≡ option_map (λ bytes. take n bytes ++ 1 ∷ body) mid.reads) place reads)))

-- where iterations stop
pub stops_as : {X : Type 0} (Y : Type 0) (fault : PlanFault) (r : Result X PlanFault) (stop : Option PlanFault) → Stops fault r → ((f : PlanFault) → r ≡ Err f → stop ≡ Some f) → (let y : Result Y PlanFault = Err fault in StopsAs y stop)
stops_as Y (faults.Infeasible infeasible) r stop h so = so _ h
stops_as Y (faults.Range k m i) r stop h so = so _ h
stops_as Y faults.DiskFault r stop h so = tt
stops_as Y faults.Memory r stop h so = tt

pub when_whole : {X : Type 0} (Y : Type 0) (fault : PlanFault) (r : Result X PlanFault) (P : Type 0) → Stops fault r → ((f : PlanFault) → r ≡ Err f → P) → (let y : Result Y PlanFault = Err fault in WhenWhole y P)
when_whole Y (faults.Infeasible infeasible) r P h so = so _ h
when_whole Y (faults.Range k m i) r P h so = so _ h
when_whole Y faults.DiskFault r P h so = tt
when_whole Y faults.Memory r P h so = tt
