-- Training that is stopped any number of times and goes on leaves, prints and answers what unstopped training does.
use Rattle.std.proofs.Common.{◌≡◌, ◌⊎◌, ℕ, ◌+◌, ◌-◌, ◌≤◌, ◌^◌, ℤ, List, [], ◌++◌, length, take, drop, Option, Some, None, IfSome, Result, Ok, Err, refl, sym, ap, subst, ◌∙◌, if◌then◌else◌, nat_le, arith}
use Rattle.std.proofs.lemmas.List.{drop_at, length-map, length-take}
use Rattle.sha2.specs.Sha256.{sha256}
use Rattle.sha2.proofs.Facts256.{length-sha256}
use Rattle.base_device.specs.Disks.{Store}
use Rattle.theory.specs.declared.cut.Cut.{Cut}
use Rattle.cut_pool.specs.declared.entry.Entry.{Entry}
use Rattle.journal_record.specs.Spelling.{spell}
use Rattle.journal_file.specs.Layout.{Title, new_title}
use Rattle.journal_file.specs.IsPrefix.{IsPrefix, committed, half_open, short, clear, uncommitted}
use Rattle.journal_load.specs.Load.{Outcome}
use Rattle.lp_program.specs.Solving.{Solving}
use Rattle.plan_answer.specs.declared.plan_fault.PlanFault.{PlanFault}
use Rattle.policy_report.specs.Report.{train_text}
use Rattle.plan_train.specs.Continuing.{Continued}
use Rattle.plan_train.specs.Resuming.{Resumes}
use Rattle.plan_train.specs.Training.{GoesOnWith, IsPrefixFrom, HoldsPrefix, iterations, payloads, title_of, unanswered_in}
use Rattle.plan_train.proofs.Continuing.{in_front}
use Rattle.plan_train.proofs.Placed.{payloads-append}
use Rattle.plan_train.proofs.Resumed.{resumed}
use Rattle.run_program.specs.AnyStops.{EndsAlike, IsAsked, LeavesAtStop, Reachable, Trains, nothing, stopped, whole_training}
use Rattle.run_program.specs.Causes.{expected, status_of}
use Rattle.run_program.specs.Journals.{IsResumed, RunLeavesPrefix}
use Rattle.run_program.specs.Outcome.{WithBase, report_at, status_of_plan, unless_stopped}
use Rattle.run_program.specs.Run.{Devices, Observable}
use Rattle.run_program.specs.declared.status.Status.{Status}
use Rattle.run_program.specs.declared.status.Status.TheVariants.{Memory, TooLong}
use Rattle.run_words.specs.declared.command.Command.{Command}
use Rattle.run_words.specs.declared.command.TrainingNumbers.{TrainingNumbers}
use Rattle.run_words.specs.declared.command.Command.TheVariants.{Train}
use Rattle.run_program.proofs.ResumedRuns.{IsBehind, base_parts, behind, is_title, load_is, ready, title_digest, title_seed}
use Rattle.run_program.proofs.TrainReports.{ended_at, numbers}

at_some : {A : Type 0} (P : A → Type 0) (x : Option A) (y : A) → x ≡ Some y → IfSome x P → P y
at_some P x y is h = subst (λ z. IfSome z P) is h

-- as many payloads as are stood for are there
few_stood : (t : Title) (ps : List (List ℕ)) (j : ℕ) (c : List ℕ) → IsPrefix t ps j c → j ≤ length ps
few_stood t ps j c (uncommitted none un) = omega (arith, none)
few_stood t ps j c (committed (clear there tail same)) = there
few_stood t ps j c (committed (half_open there commit_byte z o same)) = omega (arith, there)

module _ {Start Chain : Type 0} (v : Solving Start Chain) (bytes : List ℕ) (b : WithBase) (seed : ℕ) (batch : Option ℕ) (count : ℕ) (asked : IsAsked bytes b seed batch count) where
  abbrev t : Title
  t = new_title (sha256 bytes) seed batch

  abbrev all : Continued
  all = whole_training v bytes b seed batch count

  abbrev ps : List (List ℕ)
  ps = payloads all.lists

  -- what stands for some of the records is loaded, and the others go on behind them
  loads : (j : ℕ) (kept : List ℕ) → IsPrefix t ps j kept → (o : Outcome) × Resumes v b.problem b.pools t batch count j kept o
  loads j kept prefix =
      let p = base_parts bytes b asked.based in
      resumed v b.problem b.pools (sha256 bytes) seed count batch j kept p.0 p.1 (is_title (sha256 bytes) seed batch (length-sha256 bytes) asked.long asked.within.1) asked.within.0 asked.room prefix

  module _ (j : ℕ) (kept : List ℕ) (prefix : IsPrefix t ps j kept) (o : Outcome) (r : Resumes v b.problem b.pools t batch count j kept o) where
    abbrev q : IsBehind v bytes kept seed count batch b j o
    q = behind v bytes kept seed count batch b j o r

    titled : title_of (sha256 bytes) seed o ≡ t
    titled = subst (λ (d : List ℕ). title_of d seed o ≡ t) (title_digest (sha256 bytes) seed batch) (subst (λ (s : ℕ). title_of t.digest s o ≡ t) (title_seed (sha256 bytes) seed batch) r.title)

    -- of fewer iterations the lists are the first of those of all
    goes_on : (fewer : ℕ) → fewer ≤ count → GoesOnWith j ps (iterations v b.problem seed fewer o).lists
    goes_on fewer few =
        let front = in_front v b.problem o.pools seed o.batch (length o.bounds) (count - length o.bounds) (fewer - length o.bounds) (omega (arith, few)) in
        let some : List (List Entry) = (iterations v b.problem seed fewer o).lists in
        let first : List (List Entry) = take j all.lists in
        let there : j ≤ length ps = few_stood t ps j kept prefix in
        let long : length (payloads first) ≡ j = length-map first spell ∙ omega (arith, there, length-map all.lists spell, length-take j all.lists) in
        let later : (iterations v b.problem seed count o).lists ≡ some ++ front.0 = front.1 in
        let parts : all.lists ≡ first ++ (some ++ front.0)
        = sym (subst (λ (s : ℕ). take j all.lists ++ (iterations v b.problem s count o).lists ≡ all.lists) (title_seed (sha256 bytes) seed batch) r.all_lists) ∙ ap (λ (ls : List (List Entry)). first ++ ls) later in (
          there,
          payloads front.0,
          ap (λ (ls : List (List Entry)). drop j (payloads ls)) parts ∙ ap (λ (qs : List (List ℕ)). drop j qs) (payloads-append first (some ++ front.0)) ∙ drop_at (payloads first) (payloads (some ++ front.0)) j long ∙ payloads-append some front.0,
        )

  -- so what a run leaves at any moment stands for some of the records
  left : {I D O : Type 0} (d : Observable I D O) (kept content : List ℕ) → (j : ℕ) × IsPrefix t ps j kept → LeavesAtStop v d bytes seed batch count kept content → (j : ℕ) × IsPrefix t ps j content
  left d kept content stands run =
      let j : ℕ = stands.0 in
      let l = loads j kept stands.1 in
      let o : Outcome = l.0 in
      let named = titled j kept stands.1 o l.1 in
      let old : Store = d.store run.old.journal in
      let new : Store = d.store run.new.journal in
      let moment : RunLeavesPrefix v bytes kept old new (numbers seed run.fewer batch)
      = at_some (λ k. RunLeavesPrefix v bytes k old new (numbers seed run.fewer batch)) old.reads kept run.run.reads
      (at_some (λ y. IfSome old.reads (λ k. RunLeavesPrefix v y k old new (numbers seed run.fewer batch))) (d.left run.old.problem) bytes run.run.problem run.run.is.any_moment) in
      let q = behind v bytes kept seed count batch b j o l.1 in
      let prefix : (c : List ℕ) → old.images c → IsPrefixFrom (title_of (sha256 bytes) seed o) ps 0 c
      = λ c here. (j, omega arith, subst (λ (x : Title). IsPrefix x ps j c) (sym named) (subst (λ (x : List ℕ). IsPrefix t ps j x) (sym (run.run.only c here)) stands.1)) in
      let leaves = moment b o ps j 0 asked.based (load_is v bytes kept seed count batch b j o q) (subst (λ (x : Title). HoldsPrefix x o ps j kept) (sym named) l.1.stands)
      (goes_on j kept stands.1 o l.1 run.fewer run.few) (omega arith) prefix in
      let found = leaves.each content run.crash in
      (found.0, subst (λ (x : Title). IsPrefix x ps found.0 content) named found.2)

  -- whatever was stopped, however often
  pub stands_for : {I D O : Type 0} (d : Observable I D O) (content : List ℕ) → Reachable v d bytes seed batch count content → (j : ℕ) × IsPrefix t ps j content
  stands_for d content (nothing c un) = (0, uncommitted refl un)
  stands_for d content (stopped kept c before run) = left d kept content (stands_for d kept before) run

  -- what all iterations give, or where they stop
  abbrev ending : Option PlanFault → Result (List ℕ) Status
  ending None = Ok (train_text b.problem all.pools all.bounds (unanswered_in all.lists))
  ending (Some fault) = Err (status_of_plan fault)

  reported : (j : ℕ) (kept : List ℕ) → IsPrefix t ps j kept → report_at v (Train seed count batch) bytes kept ≡ ending all.stop
  reported j kept prefix =
      let l = loads j kept prefix in
      let o : Outcome = l.0 in
      let q = behind v bytes kept seed count batch b j o l.1 in
      let c : Continued = iterations v b.problem seed count o in
      ended_at v bytes b seed count batch asked.based kept o (ready v bytes kept seed count batch b j o q asked.room)
      ∙ alike o c q.pools q.bounds q.unanswered c.stop ∙ ap ending q.stop
    where
      alike : (o : Outcome) (c : Continued) → c.pools ≡ all.pools → o.bounds ++ c.bounds ≡ all.bounds → o.unanswered + unanswered_in c.lists ≡ unanswered_in all.lists → (s : Option PlanFault) → unless_stopped b.problem o c s ≡ ending s
      alike o c pools bounds unanswered (Some fault) = refl
      alike o c pools bounds unanswered None =
          ap (λ (x : List (List Cut)). Ok (train_text b.problem x (o.bounds ++ c.bounds) (o.unanswered + unanswered_in c.lists))) pools
          ∙ ap (λ (x : List ℤ). Ok (train_text b.problem all.pools x (o.unanswered + unanswered_in c.lists))) bounds
          ∙ ap (λ (x : ℕ). Ok (train_text b.problem all.pools all.bounds x)) unanswered

  -- the report over what was left is that over nothing
  same_report : (kept : List ℕ) → (j : ℕ) × IsPrefix t ps j kept → report_at v (Train seed count batch) bytes kept ≡ report_at v (Train seed count batch) bytes []
  same_report kept stands = reported stands.0 kept stands.1 ∙ sym (reported 0 [] (uncommitted refl (short (omega arith))))

  pub ends_alike : {I D O : Type 0} (d : Observable I D O) (kept : List ℕ) (old new : Devices I D O) (status : Status) → Reachable v d bytes seed batch count kept → Trains v d bytes seed batch count kept old new status
      → EndsAlike v d bytes b seed batch count old new status
  ends_alike d kept old new status from run =
      let stands = stands_for d kept from in
      let command : Command = Train seed count batch in
      let own : TrainingNumbers = numbers seed count batch in
      let same : expected v command bytes kept ≡ expected v command bytes []
      = ap (λ (r : Result (List ℕ) Status). if nat_le (length bytes) (2 ^ 24) then status_of r else TooLong) (same_report kept stands) in
      let whole_run : IsResumed v status bytes kept (d.store new.journal) (d.taken old.out) (d.taken new.out) own
      = at_some (λ k. IsResumed v status bytes k (d.store new.journal) (d.taken old.out) (d.taken new.out) own) (d.store old.journal).reads kept run.reads
      (at_some (λ y. IfSome (d.store old.journal).reads (λ k. IsResumed v status y k (d.store new.journal) (d.taken old.out) (d.taken new.out) own)) (d.left old.problem) bytes run.problem run.is.resumed) in
      let end = whole_run b stands.0 asked.based asked.long asked.room stands.1 in
      record {
        answer = λ nr nd nw. subst (λ (s : Status). (status ≡ s) ⊎ (status ≡ Memory)) same (run.is.complete bytes kept run.problem run.reads nr nd nw);
        journal = end.0;
        text = end.1;
      }
