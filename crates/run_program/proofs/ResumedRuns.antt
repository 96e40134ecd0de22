-- Training that was stopped and is resumed leaves and prints what unstopped training does.
use Rattle.std.proofs.Common.{◌≡◌, inl, inr, ℕ, zero, suc, ◌+◌, ◌≤◌, ◌<◌, ◌^◌, max, ℤ, true, List, [], ◌∷◌, ◌++◌, length, take, String, Option, Some, None, IfSome, Result, Ok, Err, refl, sym, ap, subst, ◌∙◌, length-append, arith}
use Rattle.std.specs.declared.alloc.Global.{Global}
use Rattle.std.specs.Io.KnownBytes.{Appends}
use Rattle.sha2.specs.Sha256.{sha256}
use Rattle.sha2.proofs.Facts256.{length-sha256}
use Rattle.read_json.specs.Steps.{◌>>=◌}
use Rattle.base_device.specs.Disks.{Store}
use Rattle.problem.specs.Formulas.{too_much}
use Rattle.problem.specs.Validated.{Validated, is_validated}
use Rattle.problem.specs.Arranged.{arranged}
use Rattle.problem.proofs.Fitting.{arranged_validated}
use Rattle.read_file.specs.Problem.{problem_at}
use Rattle.read_file.specs.Read.{problem_parts_of}
use Rattle.read_file.proofs.ReadFits.{parts_are_lawful-read}
use Rattle.theory.specs.declared.cut.Cut.{Cut}
use Rattle.theory.specs.Bound.{bound}
use Rattle.theory.specs.Range.{based}
use Rattle.theory.specs.View.{problem_of}
use Rattle.cut_pool.specs.declared.entry.Entry.{Entry}
use Rattle.journal_file.specs.Layout.{IsTitle, Title, journal, new_title}
use Rattle.journal_load.specs.Load.{Outcome, load_of, outcome_of}
use Rattle.lp_program.specs.Solving.{Solving}
use Rattle.plan_answer.specs.declared.plan_fault.PlanFault.{PlanFault}
use Rattle.policy_report.specs.Report.{train_text}
use Rattle.plan_train.specs.Stepping.{Stepped, training_step}
use Rattle.plan_train.specs.Continuing.{Continued, with_step, with_iteration, continued}
use Rattle.plan_train.specs.Resuming.{Resumes, unstopped}
use Rattle.plan_train.specs.Training.{grown_journal, iterations, payloads, unanswered_in}
use Rattle.plan_train.proofs.Resumed.{resumed}
use Rattle.run_words.specs.declared.command.Command.{Command}
use Rattle.run_words.specs.declared.command.Command.TheVariants.{Base, Train, Check, Simulate, Validate, Gen, Evaluate, Hydro, Robust}
use Rattle.run_words.specs.declared.command.TrainingNumbers.{TrainingNumbers}
use Rattle.run_words.specs.Commands.{texts}
use Rattle.run_words.specs.Traits.{IsWithin}
use Rattle.run_words.proofs.Within.{numbers_within}
use Rattle.run_program.specs.Causes.{Ends, Explains, ExplainsTask}
use Rattle.run_program.specs.Journals.{JournalGrows, IfTraining, IsResumed, OfTraining}
use Rattle.run_program.specs.Outcome.{Reads, WithBase, based_at, based_of, loaded_for, or_status, ready_for, report_at, unless_much, unless_stopped, with_base, within_formulas}
use Rattle.run_program.specs.Words.{asked_command}
use Rattle.run_program.specs.declared.status.Status.{Status}
use Rattle.run_program.specs.declared.status.Status.TheVariants.{Done}
use Rattle.run_program.proofs.TrainReports.{ended_at, numbers}

same_ok : {A E : Type 0} (x y : A) → (let l : Result A E = Ok x in l ≡ Ok y) → x ≡ y
same_ok x y h = cc

at_some : {A : Type 0} (P : A → Type 0) (o : Option A) (x : A) → o ≡ Some x → IfSome o P → P x
at_some P o x is h = subst (λ y. IfSome y P) is h

each : {A : Type 0} {P : A → Type 0} (o : Option A) → ((x : A) → o ≡ Some x → P x) → IfSome o P
each None h = tt
each (Some x) h = h x refl

parts : {A B E : Type 0} (part : Result A E) (f : A → Result B E) (y : B) → (part >>= f) ≡ Ok y → (x : A) × (part ≡ Ok x) × (f x ≡ Ok y)
parts (Err e) f y h = absurd cc
parts (Ok x) f y h = (x, refl, h)

-- ---- the problem that was read

read_validated : (bytes : List ℕ) (p : Validated) → problem_at bytes ≡ Ok p → is_validated p ≡ true
unfolding problem_at
read_validated bytes p h =
    let r = parts (problem_parts_of bytes) arranged p h in
    arranged_validated r.0 p (parts_are_lawful-read bytes r.0 r.1) r.2

has_base : (p : Validated) (r : Result (List (List Cut)) (ℕ × ℕ)) (b : WithBase) → with_base p r ≡ Ok b → (p ≡ b.problem) × (r ≡ Ok b.pools)
has_base p (Ok pools) b h = let e = same_ok (record { problem = p; pools = pools }) b h in (ap (λ (x : WithBase). x.problem) e, ap (λ (x : WithBase). Ok x.pools) e)
has_base p (Err at) b h = absurd cc

pub base_parts : (bytes : List ℕ) (b : WithBase) → based_at bytes ≡ Ok b → (is_validated b.problem ≡ true) × (based b.problem ≡ Ok b.pools)
unfolding based_at based_of
base_parts bytes b h =
    let r = parts (problem_at bytes) based_of b h in
    let e = has_base r.0 (based r.0) b r.2 in
    (read_validated bytes b.problem (r.1 ∙ ap (λ (x : Validated). Ok x) e.0), ap based (sym e.0) ∙ e.1)

-- ---- what is asked for

pub asked_within : (ws : List (String Global)) → IfSome (asked_command ws) IsWithin
asked_within ws = numbers_within (texts ws)

pub is_title : (digest : List ℕ) (seed : ℕ) (batch : Option ℕ) → length digest ≡ 32 → seed < 2 ^ 64 → IfSome batch (λ b. (1 ≤ b) × (b ≤ 64)) → IsTitle (new_title digest seed batch)
is_title digest seed None long small h = record { digest = long; seed = small; version = inl (refl, refl) }
is_title digest seed (Some b) long small h = record { digest = long; seed = small; version = inr (refl, h.0, h.1) }

pub title_digest : (digest : List ℕ) (seed : ℕ) (batch : Option ℕ) → (new_title digest seed batch).digest ≡ digest
title_digest digest seed None = refl
title_digest digest seed (Some b) = refl

pub title_seed : (digest : List ℕ) (seed : ℕ) (batch : Option ℕ) → (new_title digest seed batch).seed ≡ seed
title_seed digest seed None = refl
title_seed digest seed (Some b) = refl

module _ {Start Chain : Type 0} (v : Solving Start Chain) where
  -- ---- at most one bound an iteration
  step_few : (p : Validated) (c : Continued) (r : Result Stepped PlanFault) (n : ℕ) → length c.bounds ≤ n → length (with_step p c r).bounds ≤ suc n
  step_few p c (Ok s) n h = omega (arith, h, length-append c.bounds (bound (problem_of p) s.pools ∷ []))
  step_few p c (Err f) n h = omega (arith, h)

  iteration_few : (p : Validated) (seed batch k : ℕ) (c : Continued) (o : Option PlanFault) (n : ℕ) → length c.bounds ≤ n → length (with_iteration v p seed batch k c o).bounds ≤ suc n
  iteration_few p seed batch k c None n h = step_few p c (training_step v p c.pools seed batch k) n h
  iteration_few p seed batch k c (Some f) n h = omega (arith, h)

  few_bounds : (p : Validated) (pools : List (List Cut)) (seed batch j n : ℕ) → length (continued v p pools seed batch j n).bounds ≤ n
  unfolding continued
  few_bounds p pools seed batch j zero = omega arith
  few_bounds p pools seed batch j (suc n) = iteration_few p seed batch (suc (j + n)) (continued v p pools seed batch j n) (continued v p pools seed batch j n).stop n (few_bounds p pools seed batch j n)

  -- ---- a resumed run
  module _ (bytes kept : List ℕ) (seed count : ℕ) (batch : Option ℕ) (b : WithBase) (j : ℕ) (o : Outcome) where
    abbrev p : Validated
    p = b.problem

    abbrev t : Title
    t = new_title (sha256 bytes) seed batch

    abbrev whole : Continued
    whole = unstopped v p b.pools t count

    -- the same at the digest and the seed that are asked
    pub record IsBehind : Type 0 where
      pub loads : load_of p b.pools (sha256 bytes) (Some seed) batch kept ≡ Ok (o, take j whole.lists)
      pub batch_is : o.batch ≡ t.batch
      pub bounds : o.bounds ++ (iterations v p seed count o).bounds ≡ whole.bounds
      pub unanswered : o.unanswered + unanswered_in (iterations v p seed count o).lists ≡ unanswered_in whole.lists
      pub pools : (iterations v p seed count o).pools ≡ whole.pools
      pub stop : (iterations v p seed count o).stop ≡ whole.stop
      pub all_bytes : grown_journal (sha256 bytes) seed o kept (iterations v p seed count o).lists ≡ journal t (payloads whole.lists) 0 []

    pub behind : Resumes v p b.pools t batch count j kept o → IsBehind
    behind r =
        let d : t.digest ≡ sha256 bytes = title_digest (sha256 bytes) seed batch in
        let s : t.seed ≡ seed = title_seed (sha256 bytes) seed batch in
        record {
          loads = subst (λ (x : List ℕ). load_of p b.pools x (Some seed) batch kept ≡ Ok (o, take j whole.lists)) d (subst (λ (x : ℕ). load_of p b.pools t.digest (Some x) batch kept ≡ Ok (o, take j whole.lists)) s r.loads);
          batch_is = ap (λ (x : Title). x.batch) r.title;
          bounds = subst (λ (x : ℕ). o.bounds ++ (iterations v p x count o).bounds ≡ whole.bounds) s r.all_bounds;
          unanswered = subst (λ (x : ℕ). o.unanswered + unanswered_in (iterations v p x count o).lists ≡ unanswered_in whole.lists) s r.all_unanswered;
          pools = subst (λ (x : ℕ). (iterations v p x count o).pools ≡ whole.pools) s r.last_pools;
          stop = subst (λ (x : ℕ). (iterations v p x count o).stop ≡ whole.stop) s r.stop;
          all_bytes = subst (λ (x : List ℕ). grown_journal x seed o kept (iterations v p seed count o).lists ≡ journal t (payloads whole.lists) 0 []) d
              (subst (λ (x : ℕ). grown_journal t.digest x o kept (iterations v p x count o).lists ≡ journal t (payloads whole.lists) 0 []) s r.all_bytes);
        }

    pub load_is : IsBehind → loaded_for bytes b seed batch kept ≡ Ok o
    unfolding loaded_for
    load_is r = ap (λ (x : Result (Outcome × List (List Entry)) _). or_status (outcome_of x)) r.loads

    few : IsBehind → length o.bounds ≤ count
    few r = omega (arith, few_bounds p b.pools t.seed t.batch 0 count, ap (λ (x : List ℤ). length x) r.bounds, length-append o.bounds (iterations v p seed count o).bounds)

    fits : IsBehind → too_much p count t.batch ≡ None → within_formulas p count o ≡ Ok o
    unfolding within_formulas
    fits r room =
        let most : max count (length o.bounds) ≡ count = omega (arith, few r) in
        ap (λ x. unless_much x o) (ap (λ (n : ℕ). too_much p n o.batch) most ∙ ap (λ (n : ℕ). too_much p count n) r.batch_is ∙ room)

    pub ready : IsBehind → too_much p count t.batch ≡ None → ready_for p b.pools (sha256 bytes) seed count batch kept ≡ Ok o
    unfolding ready_for
    ready r room = ap (λ (x : Result (Outcome × List (List Entry)) _). or_status (outcome_of x) >>= within_formulas p count) r.loads ∙ fits r room

    printed : (c : Continued) (stop : Option PlanFault) (text : List ℕ) → unless_stopped p o c stop ≡ Ok text → (stop ≡ None) × (train_text p c.pools (o.bounds ++ c.bounds) (o.unanswered + unanswered_in c.lists) ≡ text)
    printed c None text h = (refl, same_ok (train_text p c.pools (o.bounds ++ c.bounds) (o.unanswered + unanswered_in c.lists)) text h)
    printed c (Some f) text h = absurd cc

    -- what is printed
    prints : IsBehind → too_much p count t.batch ≡ None → based_at bytes ≡ Ok b → (text : List ℕ) → report_at v (Train seed count batch) bytes kept ≡ Ok text → (whole.stop ≡ None) × (text ≡ train_text p whole.pools whole.bounds (unanswered_in whole.lists))
    prints r room is text h =
        let c : Continued = iterations v p seed count o in
        let e = printed c c.stop text (sym (ended_at v bytes b seed count batch is kept o (ready r room)) ∙ h) in (
          sym r.stop ∙ e.0,
          sym e.1 ∙ ap (λ (x : List (List Cut)). train_text p x (o.bounds ++ c.bounds) (o.unanswered + unanswered_in c.lists)) r.pools
              ∙ ap (λ (x : List ℤ). train_text p whole.pools x (o.unanswered + unanswered_in c.lists)) r.bounds ∙ ap (train_text p whole.pools whole.bounds) r.unanswered,
        )

  -- the text of a task that is Done
  done_text : (e : Ends) (command : Command) (bytes kept : List ℕ) → e.left ≡ Some bytes → Reads command e.kept kept → ExplainsTask v command e Done → (text : List ℕ) × (report_at v command bytes kept ≡ Ok text) × Appends e.taken e.taken_now text
  done_text e command bytes kept left reads h =
      let w = at_some _ e.left bytes left h.1 in
      (w.1.0, w.1.1 kept reads, w.1.3)

  by_numbers : (e : Ends) (status : Status) (new : Store) (bytes kept : List ℕ) (seed count : ℕ) (batch : Option ℕ) → IsWithin (Train seed count batch) → e.left ≡ Some bytes → e.kept ≡ Some kept
      → ExplainsTask v (Train seed count batch) e status → JournalGrows v status bytes kept new (numbers seed count batch) → IsResumed v status bytes kept new e.taken e.taken_now (numbers seed count batch)
  by_numbers e status new bytes kept seed count batch within left told explains grown = λ b j base small room prefix.
      let ps = base_parts bytes b base in
      let r = resumed v b.problem b.pools (sha256 bytes) seed count batch j kept ps.0 ps.1 (is_title (sha256 bytes) seed batch (length-sha256 bytes) small within.1) within.0 room prefix in
      let q = behind bytes kept seed count batch b j r.0 r.1 in
      let whole : Continued = unstopped v b.problem b.pools (new_title (sha256 bytes) seed batch) count in (
        λ trained. (grown b r.0 base (load_is bytes kept seed count batch b j r.0 q) trained).0 ∙ ap (λ (x : List ℕ). Some x) q.all_bytes,
        λ done.
            let d = done_text e (Train seed count batch) bytes kept left told (subst (λ (s : Status). ExplainsTask v (Train seed count batch) e s) done explains) in
            let x = prints bytes kept seed count batch b j r.0 q room base d.0 d.1 in
            (x.0, subst (λ (y : List ℕ). Appends e.taken e.taken_now y) x.1 d.2),
      )

  by_command : (command : Command) (e : Ends) (status : Status) (new : Store) → IsWithin command → Explains v (Some command) e status → IfTraining command (λ t. IfSome e.left (λ bytes. IfSome e.kept (λ kept. JournalGrows v status bytes kept new t)))
      → IfTraining command (λ t. IfSome e.left (λ bytes. IfSome e.kept (λ kept. IsResumed v status bytes kept new e.taken e.taken_now t)))
  by_command (Train seed count batch) e status new within explains grown =
      let t : TrainingNumbers = numbers seed count batch in
      each e.left (λ bytes left. each e.kept (λ kept told. by_numbers e status new bytes kept seed count batch within left told explains
      (at_some (λ k. JournalGrows v status bytes k new t) e.kept kept told (at_some (λ y. IfSome e.kept (λ k. JournalGrows v status y k new t)) e.left bytes left grown))))
  by_command Base e status new within explains grown = tt
  by_command Check e status new within explains grown = tt
  by_command (Simulate seed count) e status new within explains grown = tt
  by_command Validate e status new within explains grown = tt
  by_command (Gen seed stages reservoirs) e status new within explains grown = tt
  by_command Evaluate e status new within explains grown = tt
  by_command Hydro e status new within explains grown = tt
  by_command Robust e status new within explains grown = tt

  pub resumes : (asked : Option Command) (e : Ends) (status : Status) (new : Store) → IfSome asked IsWithin → Explains v asked e status → OfTraining e.left e.kept asked (λ bytes kept. JournalGrows v status bytes kept new)
      → OfTraining e.left e.kept asked (λ bytes kept. IsResumed v status bytes kept new e.taken e.taken_now)
  resumes None e status new within explains grown = tt
  resumes (Some command) e status new within explains grown = by_command command e status new within explains grown
