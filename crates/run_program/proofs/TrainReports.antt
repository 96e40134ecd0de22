-- The report of training, or why there is none, and what is left of the journal.
use Rattle.std.proofs.Common.{◌≡◌, ℕ, ◌+◌, ◌-◌, ◌≤◌, ℤ, Bool, true, false, List, [], ◌++◌, length, max, Option, Some, None, IfSome, Result, Ok, Err, All, refl, sym, ap, ◌∙◌, subst}
use Rattle.std.specs.Option.{option_map}
use Rattle.std.specs.Prelude.{MatchBool, ⊤}
use Rattle.sha2.specs.Sha256.{sha256}
use Rattle.read_json.specs.Steps.{◌>>=◌}
use Rattle.base_device.specs.Disks.{Store, Stays, Lawful}
use Rattle.base_device.specs.Since.{Quiet, LeavesOnly}
use Rattle.base_device.proofs.RunsOfCalls.{started, stays_on, then_on}
use Rattle.problem.specs.declared.refusal.Refusal.{Refusal}
use Rattle.problem.specs.declared.formulas.TooMuch as formulas
use Rattle.problem.specs.Formulas.{too_much}
use Rattle.problem.specs.Validated.{Validated, is_validated}
use Rattle.theory.specs.Pools.{Sound}
use Rattle.theory.specs.Bound.{Under}
use Rattle.theory.specs.View.{problem_of}
use Rattle.theory.proofs.BoundBelow.{sound_bound}
use Rattle.theory.proofs.ValidatedPremises.{root_shaped-validated, have_cuts-root}
use Rattle.theory.specs.declared.cut.Cut.{Cut}
use Rattle.cut_pool.specs.AtNodes.{PoolsFit}
use Rattle.cut_pool.specs.declared.entry.Entry.{Entry}
use Rattle.journal_file.specs.Causes.{DiskCause}
use Rattle.journal_file.specs.CommitBytes.{IsClearAt}
use Rattle.journal_file.specs.Head.{IsUncommitted}
use Rattle.journal_file.specs.Layout.{Title}
use Rattle.journal_file.proofs.DiskBytes.{told, known}
use Rattle.journal_load.specs.declared.refusal.LoadFault.{LoadFault}
use Rattle.journal_load.specs.Load.{Outcome, load_of, outcome_of}
use Rattle.lp_program.specs.Solving.{Solving}
use Rattle.plan_answer.specs.declared.plan_fault.PlanFault.{PlanFault}
use Rattle.plan_answer.specs.declared.plan_fault.PlanFault.TheVariants as plans
use Rattle.policy_report.specs.Report.{train_text}
use Rattle.plan_train.specs.Continuing.{Continued}
use Rattle.plan_train.specs.Training as training
use Rattle.plan_train.specs.Training.{GoesOnWith, IsPrefixFrom, HoldsPrefix, WhenWhole, grown_journal, iterations, title_of, trained, unanswered_in}
use Rattle.run_program.specs.Causes.{Lacks}
use Rattle.run_program.specs.Journals.{IfTraining, Leaves, RunLeavesPrefix, status_of_report}
use Rattle.run_program.specs.Kinds.{has_trained}
use Rattle.run_program.specs.Outcome.{WithBase, Reports, based_at, loaded_for, or_refused, or_status, ready_for, report_at, report_by, report_trained, status_of_plan, trained_for, unless_much, unless_stopped, within_formulas}
use Rattle.run_program.specs.SoundText.{IsSoundReport}
use Rattle.run_program.specs.Refuted.{IsRealized}
use Rattle.run_program.specs.Training.{ComesOfLoading, Refuses, StatusStopsAs, WhenTrained}
use Rattle.run_program.specs.declared.status.Status.{Status}
use Rattle.run_program.specs.declared.status.Status.TheVariants.{Done, Usage, ReadFault, TooLong, HydroRefused, ProblemRefused, JournalRefused, TooMuch, Range, Infeasible, DiskFault, WriteFault, Memory}
use Rattle.run_words.specs.declared.command.Command.{Command}
use Rattle.run_words.specs.declared.command.TrainingNumbers.{TrainingNumbers}
use Rattle.run_words.specs.declared.command.Command.TheVariants.{Train}
use Rattle.run_program.proofs.LoadedEnds.{loaded_clear, loaded_uncommitted}
use Rattle.run_program.proofs.RefutedPlace.{Located, refuted_here}
use Rattle.run_program.proofs.RefutedSweeps.{OnInfeasible}
use Rattle.run_program.proofs.RefutedTraining.{stop_located}
use Rattle.run_program.proofs.Synced.{LeavesFrom}

-- the numbers behind `train`
abbrev pub numbers : ℕ → ℕ → Option ℕ → TrainingNumbers
numbers seed count batch = record { seed = seed; count = count; batch = batch }

same_ok : {A E : Type 0} (x y : A) → (let l : Result A E = Ok x in l ≡ Ok y) → x ≡ y
same_ok x y h = cc

parts : {A B E : Type 0} (part : Result A E) (f : A → Result B E) (y : B) → (part >>= f) ≡ Ok y → (x : A) × (part ≡ Ok x) × (f x ≡ Ok y)
parts (Err e) f y h = absurd cc
parts (Ok x) f y h = (x, refl, h)

kept_as : (formula : Option formulas.TooMuch) (x y : Outcome) → unless_much formula x ≡ Ok y → (x ≡ y) × (unless_much formula y ≡ Ok y)
kept_as None x y h = (same_ok x y h, refl)
kept_as (Some f) x y h = absurd cc

loaded_ok : (r : Result Outcome LoadFault) (o : Outcome) → or_status r ≡ Ok o → r ≡ Ok o
loaded_ok (Ok x) o h = ap (λ (y : Outcome). Ok y) (same_ok x o h)
loaded_ok (Err e) o h = absurd cc

-- what was loaded
outcome_as : (bytes : List ℕ) (b : WithBase) (seed : ℕ) (batch : Option ℕ) (kept : List ℕ) (o : Outcome) → loaded_for bytes b seed batch kept ≡ Ok o → outcome_of (load_of b.problem b.pools (sha256 bytes) (Some seed) batch kept) ≡ Ok o
unfolding loaded_for
outcome_as bytes b seed batch kept o h = loaded_ok (outcome_of (load_of b.problem b.pools (sha256 bytes) (Some seed) batch kept)) o h

loaded_as : (bytes : List ℕ) (b : WithBase) (seed count : ℕ) (batch : Option ℕ) (kept : List ℕ) (o : Outcome) → ready_for b.problem b.pools (sha256 bytes) seed count batch kept ≡ Ok o → loaded_for bytes b seed batch kept ≡ Ok o
unfolding ready_for loaded_for within_formulas
loaded_as bytes b seed count batch kept o h =
    let r = parts (or_status (outcome_of (load_of b.problem b.pools (sha256 bytes) (Some seed) batch kept))) (within_formulas b.problem count) o h in
    r.1 ∙ ap (λ (x : Outcome). Ok x) (kept_as (too_much b.problem (max count (length r.0.bounds)) r.0.batch) r.0 o r.2).0

-- a journal, as far as it is told, gives this to training with a problem and its base cuts
pub record IsReady (bytes : List ℕ) (b : WithBase) (seed count : ℕ) (batch : Option ℕ) (reads : Option (List ℕ)) (o : Outcome) : Type 0 where
  pub base : based_at bytes ≡ Ok b
  pub ready : IfSome reads (λ kept. ready_for b.problem b.pools (sha256 bytes) seed count batch kept ≡ Ok o)
  pub loads : IfSome reads (λ kept. loaded_for bytes b seed batch kept ≡ Ok o)

-- by the digest that was asked for
pub is_ready : (bytes digest : List ℕ) (b : WithBase) (seed count : ℕ) (batch : Option ℕ) (reads : Option (List ℕ)) (o : Outcome) → based_at bytes ≡ Ok b → digest ≡ sha256 bytes → IfSome reads (λ kept. ready_for b.problem b.pools digest seed count batch kept ≡ Ok o) → IsReady bytes b seed count batch reads o
is_ready bytes digest b seed count batch reads o base own value =
    let ready = subst (λ (x : List ℕ). IfSome reads (λ kept. ready_for b.problem b.pools x seed count batch kept ≡ Ok o)) own value in record {
      base = base;
      ready = ready;
      loads = told reads (λ kept there. loaded_as bytes b seed count batch kept o (known (λ k. ready_for b.problem b.pools (sha256 bytes) seed count batch k ≡ Ok o) reads kept there ready));
    }

module _ {bytes : List ℕ} {b : WithBase} {seed count : ℕ} {batch : Option ℕ} {reads : Option (List ℕ)} {o : Outcome} (r : IsReady bytes b seed count batch reads o) (now : Option (List ℕ)) (same : now ≡ reads) where
  loads_at : (kept : List ℕ) → reads ≡ Some kept → outcome_of (load_of b.problem b.pools (sha256 bytes) (Some seed) batch kept) ≡ Ok o
  loads_at kept there = outcome_as bytes b seed batch kept o (known (λ k. loaded_for bytes b seed batch k ≡ Ok o) reads kept there r.loads)

  -- the journal is not committed yet
  pub ready_uncommitted : o.committed ≡ false → IfSome now IsUncommitted
  ready_uncommitted none = subst (λ (x : Option (List ℕ)). IfSome x IsUncommitted) (sym same) (told reads (λ kept there. loaded_uncommitted b.problem b.pools (sha256 bytes) (Some seed) batch kept o (loads_at kept there) none))

  -- its records end at a commit byte of 0
  pub ready_clear : o.committed ≡ true → IfSome now (IsClearAt o.end)
  ready_clear so = subst (λ (x : Option (List ℕ)). IfSome x (IsClearAt o.end)) (sym same) (told reads (λ kept there. loaded_clear b.problem b.pools (sha256 bytes) (Some seed) batch kept o (loads_at kept there) so))

-- what the report of training shows
text_trained : (p : Validated) (o new : Outcome) (c : Continued) (text : List ℕ) → new ≡ trained o c → text ≡ train_text p new.pools new.bounds new.unanswered → text ≡ train_text p c.pools (o.bounds ++ c.bounds) (o.unanswered + unanswered_in c.lists)
text_trained p o new c text same is = is ∙ ap (λ (x : Outcome). train_text p x.pools x.bounds x.unanswered) same

module _ {Start Chain : Type 0} (v : Solving Start Chain) (bytes : List ℕ) (b : WithBase) (seed count : ℕ) (batch : Option ℕ) (is : based_at bytes ≡ Ok b) where
  abbrev command : Command
  command = Train seed count batch

  abbrev ready : List ℕ → Result Outcome Status
  ready kept = ready_for b.problem b.pools (sha256 bytes) seed count batch kept

  within_as : (kept : List ℕ) (o : Outcome) → ready kept ≡ Ok o → within_formulas b.problem count o ≡ Ok o
  unfolding ready_for within_formulas
  within_as kept o h =
      let r = parts (or_status (outcome_of (load_of b.problem b.pools (sha256 bytes) (Some seed) batch kept))) (within_formulas b.problem count) o h in
      let k = kept_as (too_much b.problem (max count (length r.0.bounds)) r.0.batch) r.0 o r.2 in
      subst (λ (x : Outcome). unless_much (too_much b.problem (max count (length x.bounds)) x.batch) o ≡ Ok o) k.0 k.1

  train_at : (kept : List ℕ) → report_at v command bytes kept ≡ trained_for v bytes b seed count batch kept
  unfolding report_at
  train_at kept = ap (λ (r : Result WithBase Refusal). or_refused r >>= report_by v command bytes kept) is

  pub ended_at : (kept : List ℕ) (o : Outcome) → ready kept ≡ Ok o → report_at v command bytes kept ≡ report_trained b.problem o (iterations v b.problem seed count o)
  unfolding trained_for
  ended_at kept o h =
      train_at kept
      ∙ ap (λ (r : Result Outcome Status). r >>= λ loaded. within_formulas b.problem count loaded >>= λ x. report_trained b.problem x (iterations v b.problem seed count x)) (loaded_as bytes b seed count batch kept o h)
      ∙ ap (λ (r : Result Outcome Status). r >>= λ x. report_trained b.problem x (iterations v b.problem seed count x)) (within_as kept o h)

  refused_by : (l : Result Outcome Status) (s : Status) → (l >>= within_formulas b.problem count) ≡ Err s → (l >>= λ loaded. within_formulas b.problem count loaded >>= λ x. report_trained b.problem x (iterations v b.problem seed count x)) ≡ Err s
  refused_by (Ok o) s h = ap (λ (r : Result Outcome Status). r >>= λ x. report_trained b.problem x (iterations v b.problem seed count x)) h
  refused_by (Err e) s h = same e s h
    where
      same : (e s : Status) → (let l : Result Outcome Status = Err e in l ≡ Err s) → (let l : Result (List ℕ) Status = Err e in l ≡ Err s)
      same e s h = ap (λ (x : Status). Err x) (error e s h)
        where
          error : (e s : Status) → (let l : Result Outcome Status = Err e in l ≡ Err s) → e ≡ s
          error e s h = cc

  refused_at : (kept : List ℕ) (s : Status) → ready kept ≡ Err s → report_at v command bytes kept ≡ Err s
  unfolding trained_for ready_for loaded_for
  refused_at kept s h = train_at kept ∙ refused_by (or_status (outcome_of (load_of b.problem b.pools (sha256 bytes) (Some seed) batch kept))) s h

  module _ (reads : Option (List ℕ)) where
    at_kept : (P : List ℕ → Type 0) (kept : List ℕ) → reads ≡ Some kept → IfSome reads P → P kept
    at_kept P kept e h = known P reads kept e h

    -- the report
    pub trained_reports : (o new : Outcome) (text : List ℕ) → IfSome reads (λ kept. ready kept ≡ Ok o) → (iterations v b.problem seed count o).stop ≡ None → new ≡ trained o (iterations v b.problem seed count o) → text ≡ train_text b.problem new.pools new.bounds new.unanswered → Reports v command reads bytes (Ok text)
    trained_reports o new text has stop same is_text = λ kept e.
        let c : Continued = iterations v b.problem seed count o in
        ended_at kept o (at_kept (λ k. ready k ≡ Ok o) kept e has) ∙ ap (unless_stopped b.problem o c) stop ∙ ap (λ (x : List ℕ). Ok x) (sym (text_trained b.problem o new c text same is_text))

    stopped_reports : (o : Outcome) (f : PlanFault) → IfSome reads (λ kept. ready kept ≡ Ok o) → (iterations v b.problem seed count o).stop ≡ Some f → Reports v command reads bytes (Err (status_of_plan f))
    stopped_reports o f has stop = λ kept e. ended_at kept o (at_kept (λ k. ready k ≡ Ok o) kept e has) ∙ ap (unless_stopped b.problem o (iterations v b.problem seed count o)) stop

    refused_reports : (s : Status) → IfSome reads (λ kept. ready kept ≡ Err s) → Reports v command reads bytes (Err s)
    refused_reports s has = λ kept e. refused_at kept s (at_kept (λ k. ready k ≡ Err s) kept e has)

    -- the journal gives nothing to train on
    unloaded : (disk now : ℕ) (s : Status) → ComesOfLoading s → IfSome reads (λ kept. Refuses s (ready kept)) → DiskCause disk now (s ≡ DiskFault) → Lacks v command reads disk now bytes s
    unloaded disk now Done own has cause = absurd own
    unloaded disk now Usage own has cause = absurd own
    unloaded disk now ReadFault own has cause = absurd own
    unloaded disk now TooLong own has cause = absurd own
    unloaded disk now (HydroRefused refusal) own has cause = absurd own
    unloaded disk now (ProblemRefused r) own has cause = absurd own
    unloaded disk now (JournalRefused r) own has cause = (tt, refused_reports (JournalRefused r) has)
    unloaded disk now (TooMuch t) own has cause = (tt, refused_reports (TooMuch t) has)
    unloaded disk now (Range k m r) own has cause = absurd own
    unloaded disk now (Infeasible infeasible) own has cause = absurd own
    unloaded disk now DiskFault own has cause = (tt, cause.failed refl)
    unloaded disk now WriteFault own has cause = absurd own
    unloaded disk now Memory own has cause = cause.otherwise (λ e. cc)

    pub unloaded_lacks : (digest : List ℕ) (disk now : ℕ) (s : Status) → ComesOfLoading s → digest ≡ sha256 bytes → IfSome reads (λ kept. Refuses s (ready_for b.problem b.pools digest seed count batch kept)) → DiskCause disk now (s ≡ DiskFault) → Lacks v command reads disk now bytes s
    unloaded_lacks digest disk now s own is_digest has cause = unloaded disk now s own (subst (λ (x : List ℕ). IfSome reads (λ kept. Refuses s (ready_for b.problem b.pools x seed count batch kept))) is_digest has) cause

    -- iterations stop
    pub stopped_lacks : (A : Type 0) (disk now : ℕ) (o : Outcome) (s : Status) → IfSome reads (λ kept. ready kept ≡ Ok o) → (let r : Result A Status = Err s in StatusStopsAs r (iterations v b.problem seed count o).stop) → DiskCause disk now (s ≡ DiskFault) → is_validated b.problem ≡ true → Lacks v command reads disk now bytes s
    stopped_lacks A disk now o Done has stops cause validated = absurd stops
    stopped_lacks A disk now o Usage has stops cause validated = absurd stops
    stopped_lacks A disk now o ReadFault has stops cause validated = absurd stops
    stopped_lacks A disk now o TooLong has stops cause validated = absurd stops
    stopped_lacks A disk now o (HydroRefused refusal) has stops cause validated = absurd stops
    stopped_lacks A disk now o (ProblemRefused r) has stops cause validated = absurd stops
    stopped_lacks A disk now o (JournalRefused r) has stops cause validated = absurd stops
    stopped_lacks A disk now o (TooMuch t) has stops cause validated = absurd stops
    stopped_lacks A disk now o (Range k m r) has stops cause validated = (tt, stopped_reports o (plans.Range k m r) has stops)
    stopped_lacks A disk now o (Infeasible infeasible) has stops cause validated =
        let there = stop_located v b.problem validated o.pools seed o.batch (length o.bounds) (count - length o.bounds) in
        let here = subst (λ (stop : Option PlanFault). IfSome stop (OnInfeasible (Located b.problem (IsRealized b.problem)))) stops there in
        (tt, (stopped_reports o (plans.Infeasible infeasible) has stops, refuted_here command bytes b infeasible is here))
    stopped_lacks A disk now o DiskFault has stops cause validated = (tt, cause.failed refl)
    stopped_lacks A disk now o WriteFault has stops cause validated = absurd stops
    stopped_lacks A disk now o Memory has stops cause validated = cause.otherwise (λ e. cc)

-- how training ends, by the fault that stopped it
pub plan_stops : (A B : Type 0) (f : PlanFault) (stop : Option PlanFault) → (let r : Result A PlanFault = Err f in training.StopsAs r stop) → (let r : Result B Status = Err (status_of_plan f) in StatusStopsAs r stop)
plan_stops A B (plans.Infeasible infeasible) stop h = h
plan_stops A B (plans.Range k m r) stop h = h
plan_stops A B plans.DiskFault stop h = tt
plan_stops A B plans.Memory stop h = tt

pub plan_whole : (A B : Type 0) (f : PlanFault) (P : Type 0) → (let r : Result A PlanFault = Err f in WhenWhole r P) → (let r : Result B Status = Err (status_of_plan f) in WhenTrained r P)
plan_whole A B (plans.Infeasible infeasible) P h = h
plan_whole A B (plans.Range k m r) P h = h
plan_whole A B plans.DiskFault P h = tt
plan_whole A B plans.Memory P h = tt

same_err : (B : Type 0) (s t : Status) → (let r : Result B Status = Err s in r ≡ Err t) → s ≡ t
same_err B s t e = cc

pub plan_disk : (A B : Type 0) (f : PlanFault) (s : Status) → s ≡ status_of_plan f → (let r : Result B Status = Err s in r ≡ Err DiskFault) → (let r : Result A PlanFault = Err f in r ≡ Err plans.DiskFault)
plan_disk A B f s is e = by f (sym is ∙ same_err B s DiskFault e)
  where
    by : (f : PlanFault) → status_of_plan f ≡ DiskFault → (let r : Result A PlanFault = Err f in r ≡ Err plans.DiskFault)
    by (plans.Infeasible infeasible) e = absurd cc
    by (plans.Range k m r) e = absurd cc
    by plans.DiskFault e = refl
    by plans.Memory e = absurd cc

pub disk_plan : (A B : Type 0) (f : PlanFault) (s : Status) → s ≡ status_of_plan f → (let r : Result A PlanFault = Err f in r ≡ Err plans.DiskFault) → (let r : Result B Status = Err s in r ≡ Err DiskFault)
disk_plan A B f s is e = ap (λ (x : Status). let r : Result B Status = Err x in r) (is ∙ ap status_of_plan (same_fault A f plans.DiskFault e))
  where
    same_fault : (A : Type 0) (f g : PlanFault) → (let r : Result A PlanFault = Err f in r ≡ Err g) → f ≡ g
    same_fault A f g e = cc

-- more is known once all is trained
pub when_both : (A : Type 0) (r : Result A Status) (P Q R : Type 0) → WhenTrained r P → WhenTrained r Q → (P → Q → R) → WhenTrained r R
when_both A r P Q R p q so = by (has_trained (status_of_report r)) p q
  where
    by : (b : Bool) → MatchBool b P ⊤ → MatchBool b Q ⊤ → MatchBool b R ⊤
    by true p q = so p q
    by false p q = tt

-- an answer of another type
pub when_as : (A B : Type 0) (s : Status) (r : Result B Status) (P : Type 0) → r ≡ Err s → (let q : Result A Status = Err s in WhenTrained q P) → WhenTrained r P
when_as A B s r P is h = subst (λ (x : Result B Status). WhenTrained x P) (sym is) h

-- what a crash leaves of a journal that was only read, and then by what follows
module _ (digest : List ℕ) (seed : ℕ) (o : Outcome) (lists : List (List Entry)) (old mid : Store) (lawful : Lawful old) (stays : Stays old mid) where
  read_only : (t : Title) (ps : List (List ℕ)) (i : ℕ) → ((c : List ℕ) → old.images c → IsPrefixFrom t ps i c) → LeavesOnly old mid (IsPrefixFrom t ps i)
  read_only t ps i here = stays_on old old mid (IsPrefixFrom t ps i) (started old (IsPrefixFrom t ps i) lawful here) stays

  pub read_leaves : LeavesFrom digest seed o lists old mid
  read_leaves = told old.reads (λ kept is ps j i stands goes le here. read_only (title_of digest seed o) ps i here)

  pub read_then : (new : Store) → LeavesFrom digest seed o lists mid new → LeavesFrom digest seed o lists old new
  read_then new run = told old.reads (λ kept is ps j i stands goes le here.
      let t : Title = title_of digest seed o in
      let more = known (λ k. (ps : List (List ℕ)) (j i : ℕ) → HoldsPrefix t o ps j k → GoesOnWith j ps lists → i ≤ j → ((c : List ℕ) → mid.images c → IsPrefixFrom t ps i c) → LeavesOnly mid new (IsPrefixFrom t ps i)) mid.reads kept (stays.reads ∙ is) run ps j i stands goes le (λ c left. here c ((stays.images c).0 left)) in
      then_on old mid new (IsPrefixFrom t ps i) (IsPrefixFrom t ps i) (read_only t ps i here) more (λ c m. m))

-- the base cuts and what is loaded are determined
module _ {Start Chain : Type 0} (v : Solving Start Chain) (bytes : List ℕ) (b : WithBase) (seed count : ℕ) (batch : Option ℕ) (is : based_at bytes ≡ Ok b) (old new : Store) where
  pub leaves_prefix : (o : Outcome) → IfSome old.reads (λ kept. loaded_for bytes b seed batch kept ≡ Ok o) → LeavesFrom (sha256 bytes) seed o (iterations v b.problem seed count o).lists old new → IfSome old.reads (λ kept. RunLeavesPrefix v bytes kept old new (numbers seed count batch))
  leaves_prefix o has run = told old.reads (λ kept there b' o' ps j i is' load' stands goes le here.
      let same_b : b ≡ b' = same_ok b b' (sym is ∙ is') in
      let load : loaded_for bytes b seed batch kept ≡ Ok o = known (λ k. loaded_for bytes b seed batch k ≡ Ok o) old.reads kept there has in
      let same_o : o ≡ o' = same_ok o o' (sym load ∙ subst (λ (x : WithBase). loaded_for bytes x seed batch kept ≡ Ok o') (sym same_b) load') in
      let more = known (λ k. (ps : List (List ℕ)) (j i : ℕ) → HoldsPrefix (title_of (sha256 bytes) seed o) o ps j k → GoesOnWith j ps (iterations v b.problem seed count o).lists → i ≤ j → ((c : List ℕ) → old.images c → IsPrefixFrom (title_of (sha256 bytes) seed o) ps i c) → LeavesOnly old new (IsPrefixFrom (title_of (sha256 bytes) seed o) ps i)) old.reads kept there run in
      let at_o' = subst (λ (x : Outcome). (ps : List (List ℕ)) (j i : ℕ) → HoldsPrefix (title_of (sha256 bytes) seed x) x ps j kept → GoesOnWith j ps (iterations v b.problem seed count x).lists → i ≤ j → ((c : List ℕ) → old.images c → IsPrefixFrom (title_of (sha256 bytes) seed x) ps i c) → LeavesOnly old new (IsPrefixFrom (title_of (sha256 bytes) seed x) ps i)) same_o more in
      at_o' ps j i stands (subst (λ (x : WithBase). GoesOnWith j ps (iterations v x.problem seed count o').lists) (sym same_b) goes) le here)

  -- nothing is loaded
  pub leaves_read : Lawful old → Stays old new → IfSome old.reads (λ kept. RunLeavesPrefix v bytes kept old new (numbers seed count batch))
  leaves_read lawful stays = told old.reads (λ kept there b' o' ps j i is' load' stands goes le here. read_only (sha256 bytes) seed o' [] old new lawful stays (title_of (sha256 bytes) seed o') ps i here)

  -- a journal that was read, and then trained on
  pub leaves_trained : (digest : List ℕ) (mid : Store) (o : Outcome) → digest ≡ sha256 bytes → IfSome old.reads (λ kept. loaded_for bytes b seed batch kept ≡ Ok o) → Lawful old → Stays old mid
      → LeavesFrom digest seed o (iterations v b.problem seed count o).lists mid new → IfSome old.reads (λ kept. RunLeavesPrefix v bytes kept old new (numbers seed count batch))
  leaves_trained digest mid o own has lawful stays run =
      let lists = (iterations v b.problem seed count o).lists in
      leaves_prefix o has (read_then (sha256 bytes) seed o lists old mid lawful stays new (subst (λ (x : List ℕ). LeavesFrom x seed o lists mid new) own run))

  -- what training leaves of the journal
  pub grown_after : (A : Type 0) (r : Result A Status) (digest : List ℕ) (mid : Store) (o : Outcome) → digest ≡ sha256 bytes → IfSome old.reads (λ kept. loaded_for bytes b seed batch kept ≡ Ok o) → mid.reads ≡ old.reads
      → WhenTrained r (new.reads ≡ option_map (λ kept. grown_journal digest seed o kept (iterations v b.problem seed count o).lists) mid.reads) → WhenTrained r (Quiet new)
      → IfSome old.reads (λ kept. (o' : Outcome) → loaded_for bytes b seed batch kept ≡ Ok o' → WhenTrained r ((new.reads ≡ Some (grown_journal (sha256 bytes) seed o' kept (iterations v b.problem seed count o').lists)) × Quiet new))
  grown_after A r digest mid o own has same by_digest quiet = told old.reads (λ kept there o' load'.
      let reads = subst (λ (x : List ℕ). WhenTrained r (new.reads ≡ option_map (λ k. grown_journal x seed o k (iterations v b.problem seed count o).lists) mid.reads)) own by_digest in
      let load : loaded_for bytes b seed batch kept ≡ Ok o = known (λ k. loaded_for bytes b seed batch k ≡ Ok o) old.reads kept there has in
      let same_o : o ≡ o' = same_ok o o' (sym load ∙ load') in
      when_both A r (new.reads ≡ option_map (λ k. grown_journal (sha256 bytes) seed o k (iterations v b.problem seed count o).lists) mid.reads) (Quiet new) ((new.reads ≡ Some (grown_journal (sha256 bytes) seed o' kept (iterations v b.problem seed count o').lists)) × Quiet new) reads quiet
      (λ e q. (
        subst (λ (x : Outcome). new.reads ≡ Some (grown_journal (sha256 bytes) seed x kept (iterations v b.problem seed count x).lists)) same_o
            (e ∙ ap (option_map (λ k. grown_journal (sha256 bytes) seed o k (iterations v b.problem seed count o).lists)) (same ∙ there)),
        q,
      )))

-- a count that stayed as it was, and then another call
pub cause_later : (a b c : ℕ) (P : Type 0) → b ≡ a → DiskCause b c P → DiskCause a c P
cause_later a b c P stayed cause = subst (λ (n : ℕ). DiskCause n c P) stayed cause

-- a fault that two answers tell
pub cause_as : (before now : ℕ) (P Q : Type 0) → DiskCause before now P → (Q → P) → (P → Q) → DiskCause before now Q
cause_as before now P Q cause back on = record { later = cause.later; failed = λ q. cause.failed (back q); otherwise = λ not. cause.otherwise (λ p. not (on p)) }

-- the status of a result that ended with it
pub cause_of_status : (A : Type 0) (before now : ℕ) (r : Result A Status) (s : Status) → r ≡ Err s → DiskCause before now (r ≡ Err DiskFault) → DiskCause before now (s ≡ DiskFault)
cause_of_status A before now r s is cause = cause_as before now (r ≡ Err DiskFault) (s ≡ DiskFault) cause (λ e. is ∙ ap (λ (x : Status). Err x) e) (λ e. same_err A s DiskFault (sym is ∙ e))

-- sound cuts and bounds give a sound report
pub train_is_sound : (bytes : List ℕ) (p : Validated) (pools : List (List Cut)) (bounds : List ℤ) (unanswered seed count : ℕ) (batch : Option ℕ) (text : List ℕ) → is_validated p ≡ true → PoolsFit p pools → Sound (problem_of p) pools → All (Under (problem_of p)) bounds → text ≡ train_text p pools bounds unanswered → IsSoundReport (Train seed count batch) bytes p pools text
train_is_sound bytes p pools bounds unanswered seed count batch text e fit sound under is = record {
  is = (bounds, unanswered, is, under);
  cuts = sound;
  bound = sound_bound (problem_of p) pools (root_shaped-validated p e) (have_cuts-root p pools e fit.some) sound;
}

-- all is trained where the status says so
pub trained_then : (A : Type 0) (r : Result A Status) (P : Type 0) → WhenTrained r P → has_trained (status_of_report r) ≡ true → P
trained_then A r P h e = subst (λ (b : Bool). MatchBool b P ⊤) e h

-- what the report of training says of the journal
pub leaves_grown : {Start Chain : Type 0} (v : Solving Start Chain) (A : Type 0) (r : Result A Status) (bytes : List ℕ) (b : WithBase) (seed count : ℕ) (batch : Option ℕ) (reads : Option (List ℕ)) (new : Store) (command : Command) → command ≡ Train seed count batch → based_at bytes ≡ Ok b
    → IfSome reads (λ kept. (o : Outcome) → loaded_for bytes b seed batch kept ≡ Ok o → WhenTrained r ((new.reads ≡ Some (grown_journal (sha256 bytes) seed o kept (iterations v b.problem seed count o).lists)) × Quiet new))
    → IfTraining command (λ t. IfSome reads (λ kept. Leaves v r bytes kept new t))
leaves_grown v A r bytes b seed count batch reads new command at is has = subst (λ (k : Command). IfTraining k (λ t. IfSome reads (λ kept. Leaves v r bytes kept new t))) (sym at) (told reads (λ kept there. λ b' o is' load e.
    let same_b : b' ≡ b = same_ok b' b (sym is' ∙ is) in
    let grown = known (λ k. (o : Outcome) → loaded_for bytes b seed batch k ≡ Ok o → WhenTrained r ((new.reads ≡ Some (grown_journal (sha256 bytes) seed o k (iterations v b.problem seed count o).lists)) × Quiet new)) reads kept there has o (subst (λ (x : WithBase). loaded_for bytes x seed batch kept ≡ Ok o) same_b load) in
    let all = trained_then A r ((new.reads ≡ Some (grown_journal (sha256 bytes) seed o kept (iterations v b.problem seed count o).lists)) × Quiet new) grown e in
    (subst (λ (x : WithBase). new.reads ≡ Some (grown_journal (sha256 bytes) seed o kept (iterations v x.problem seed count o).lists)) (sym same_b) all.0, all.1)))
