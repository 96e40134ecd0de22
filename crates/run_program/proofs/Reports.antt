-- A report is a sound text, and each status is the expected one where no device fails.
use Rattle.std.proofs.Common.{◌≡◌, ◌⊎◌, inl, inr, ℕ, ◌<◌, ◌≤◌, ◌^◌, ℤ, if◌then◌else◌, Bool, true, false, List, length, Option, Some, None, IfSome, IfOk, IsOk, Result, Ok, Err, nat_le, refl, sym, ap, ◌∙◌, subst, length-append, arith}
use Rattle.std.specs.Prelude.{MatchBool}
use Rattle.std.specs.Io.KnownBytes.{Consumes, IsAtEnd, Keeps}
use Rattle.base_device.specs.Causes.{FaultCountRose}
use Rattle.std.proofs.lemmas.Bool.Decides.{nat_tests}
use Rattle.std.proofs.lemmas.List.Elements.{All-weaker}
use Rattle.problem.specs.Validated.{Validated}
use Rattle.read_file.specs.Problem.{problem_at}
use Rattle.theory.specs.declared.cut.Cut.{Cut}
use Rattle.theory.specs.Problem.{Problem}
use Rattle.theory.specs.Range.{based}
use Rattle.theory.specs.View.{problem_of}
use Rattle.hydro_gen.specs.Generated.{generated}
use Rattle.hydro_make.specs.Text.{hydro_at}
use Rattle.policy_report.specs.SoundLines.{Line, Lines, SoundLines, claims_of, lines_of}
use Rattle.policy_report.proofs.SoundLines.{sound_lines, sound_check, sound_training}
use Rattle.policy_report.proofs.SoundTraces.{sound_traces}
use Rattle.read_json.specs.Steps.{◌>>=◌}
use Rattle.problem.specs.declared.refusal.Refusal.{Refusal}
use Rattle.lp_program.specs.Solving.{Solving}
use Rattle.run_program.specs.Outcome.{IsRefused, Reports, WithBase, based_at, problem_with_alternatives_at, with_alternatives, based_of, with_base, or_refused, report_by, report_at}
use Rattle.run_program.specs.SoundText.{IsSoundReport, RiskCutHolds, SoundText, WorstHolds}
use Rattle.run_program.specs.Causes.{Completes, CompletesBy, RunEnds, Ends, Explains, ExplainsBy, ExplainsDescribed, ExplainsProblem, ExplainsTask, Lacks, ReadAll, expected, expected_of, status_of, status_of_text}
use Rattle.run_program.specs.Kinds.{Output, all_written, partly_written, kind, none_written}
use Rattle.run_program.specs.Refuted.{IsRefuted}
use Rattle.run_words.specs.declared.command.Command.{Command}
use Rattle.run_words.specs.declared.command.Command.TheVariants.{Base, Train, Check, Simulate, Validate, Gen, Evaluate, Hydro, Robust}
use Rattle.run_words.specs.Traits.{Input, of_description, of_numbers, of_problem, traits}
use Rattle.run_program.specs.declared.status.Status.{Status}
use Rattle.run_program.specs.declared.status.Status.TheVariants.{Done, Usage, ReadFault, TooLong, HydroRefused, ProblemRefused, JournalRefused, TooMuch, Range, Infeasible, DiskFault, WriteFault, Memory}
use Rattle.run_program.proofs.KnownBytes.{all_taken}
use Rattle.run_program.proofs.Listed.{robust_refused}
use Rattle.run_program.proofs.SoundRiskCuts.{sound_risk_cuts}
use Rattle.run_program.proofs.SoundVerdict.{sound_verdict}

-- lines without a risk cut and a worst bound, whatever these are to promise
more_lines : (p : Problem) (risk_cuts : ℕ → Cut → Type 0) (worsts : ℤ → Type 0) (text : List ℕ) → SoundLines p text → Lines (claims_of p risk_cuts worsts) text
more_lines p risk_cuts worsts text s =
    All-weaker (Line (claims_of p (λ m c. ⊥) (λ b. ⊥))) (Line (claims_of p risk_cuts worsts))
    (λ line l. record { cut = l.cut; bound = l.bound; iteration = l.iteration; upper = l.upper; risk_cut = λ is. absurd (l.risk_cut is).claimed; worst = λ is. absurd (l.worst is).claimed }) (lines_of text) s

lines_of_report : (command : Command) (bytes : List ℕ) (p : Validated) (pools : List (List Cut)) (text : List ℕ) → IsSoundReport command bytes p pools text
    → Lines (claims_of (problem_of p) (RiskCutHolds bytes p) (WorstHolds bytes p)) text
lines_of_report Base bytes p pools text r = more_lines (problem_of p) _ _ text (subst (SoundLines (problem_of p)) (sym r.is) (sound_lines p pools r.cuts r.bound))
lines_of_report (Train seed count batch) bytes p pools text r =
    more_lines (problem_of p) _ _ text (subst (SoundLines (problem_of p)) (sym r.is.2) (sound_training p pools r.is.0 r.is.1 r.is.3 r.bound))
lines_of_report Check bytes p pools text r =
    more_lines (problem_of p) _ _ text (subst (SoundLines (problem_of p)) (sym r.is.3) (sound_check p pools r.is.0 r.is.1 r.is.2 r.cuts r.is.4 r.bound))
lines_of_report (Simulate seed count) bytes p pools text r = more_lines (problem_of p) _ _ text (subst (SoundLines (problem_of p)) (sym r.is.1) (sound_traces p pools r.is.0 r.bound))
lines_of_report Validate bytes p pools text r = more_lines (problem_of p) _ _ text (subst (SoundLines (problem_of p)) (sym r.is.1) (sound_traces p pools r.is.0 r.bound))
lines_of_report Evaluate bytes p pools text r = more_lines (problem_of p) _ _ text (subst (SoundLines (problem_of p)) (sym r.is.1) (sound_verdict p pools r.is.0 r.bound r.is.2))
lines_of_report Hydro bytes p pools text r = absurd r.is
lines_of_report (Gen seed stages reservoirs) bytes p pools text r = absurd r.is
lines_of_report Robust bytes p pools text r =
    subst (Lines (claims_of (problem_of p) (RiskCutHolds bytes p) (WorstHolds bytes p))) (sym r.is.3) (sound_risk_cuts bytes p r.is.0 r.is.1 r.is.2 r.is.4)

-- a report of the problem that the bytes give is sound
pub sound_text : (command : Command) (bytes : List ℕ) (p : Validated) (pools : List (List Cut)) (text : List ℕ) → problem_at bytes ≡ Ok p → IsSoundReport command bytes p pools text → SoundText command bytes text
sound_text command bytes p pools text read r = record {
  problem = p;
  pools = pools;
  read = read;
  is = r.is;
  cuts = r.cuts;
  bound = r.bound;
  lines = lines_of_report command bytes p pools text r;
}

-- the report of the problem that the bytes give, where there is one
pub sound_texts : {X E : Type 0} (view : X → List ℕ) (command : Command) (bytes : List ℕ) (p : Validated) (r : Result X E) → problem_at bytes ≡ Ok p → IfOk r (λ v. (cuts : List (List Cut)) × IsSoundReport command bytes p cuts (view v)) → IfOk r (λ v. SoundText command bytes (view v))
sound_texts view command bytes p (Ok v) read h = sound_text command bytes p h.0 (view v) read h.1
sound_texts view command bytes p (Err e) read h = tt

at_bytes : (o : Option (List ℕ)) (P : List ℕ → Type 0) (bytes : List ℕ) → o ≡ Some bytes → IfSome o P → P bytes
at_bytes o P bytes is h = subst (λ (k : Option (List ℕ)). IfSome k P) is h

few : (bytes : List ℕ) (s : Status) → length bytes ≤ 2 ^ 24 → (if nat_le (length bytes) (2 ^ 24) then s else TooLong) ≡ s
few bytes s h = let t : nat_le (length bytes) (2 ^ 24) ≡ true = grind (arith, nat_tests) in rw t refl

many : (bytes : List ℕ) (s : Status) → 2 ^ 24 < length bytes → (if nat_le (length bytes) (2 ^ 24) then s else TooLong) ≡ TooLong
many bytes s h = let t : nat_le (length bytes) (2 ^ 24) ≡ false = grind (arith, nat_tests) in rw t refl

-- the expected status of a task, by what comes of it
outcome_is : {Start Chain : Type 0} (v : Solving Start Chain) (command : Command) (bytes kept : List ℕ) (r : Result (List ℕ) Status) → length bytes ≤ 2 ^ 24 → report_at v command bytes kept ≡ r → status_of r ≡ expected v command bytes kept
outcome_is v command bytes kept r h e = ap status_of (sym e) ∙ sym (few bytes (status_of (report_at v command bytes kept)) h)

front_length : (now : Option (List ℕ)) (bytes piece : List ℕ) → Consumes (Some bytes) now piece → length piece ≤ length bytes
front_length None bytes piece h = absurd h
front_length (Some tail) bytes piece h = omega (arith, ap length h, length-append piece tail)

-- where the problem is refused, so is that of any command
pub refused_as : (command : Command) (bytes : List ℕ) (r : Refusal) → based_at bytes ≡ Err r → IsRefused command bytes r
unfolding problem_with_alternatives_at
refused_as command bytes r e = by (traits command).lists_weights
  where
    by : (b : Bool) → MatchBool b (problem_with_alternatives_at bytes ≡ Err r) (based_at bytes ≡ Err r)
    by true = ap (λ (b : Result WithBase Refusal). b >>= with_alternatives bytes) e
    by false = e

-- a refused problem is refused whatever the journal holds
refused_is : {Start Chain : Type 0} (v : Solving Start Chain) (command : Command) (bytes kept : List ℕ) (r : Refusal) → IsRefused command bytes r → report_at v command bytes kept ≡ Err (ProblemRefused r)
unfolding report_at
refused_is v command bytes kept r h = each command h
  where
    plain : (t : Command) → based_at bytes ≡ Err r → (or_refused (based_at bytes) >>= report_by v t bytes kept) ≡ Err (ProblemRefused r)
    plain t e = ap (λ (b : Result WithBase Refusal). or_refused b >>= report_by v t bytes kept) e

    each : (t : Command) → IsRefused t bytes r → (or_refused (based_at bytes) >>= report_by v t bytes kept) ≡ Err (ProblemRefused r)
    each Base e = plain Base e
    each (Train seed count batch) e = plain (Train seed count batch) e
    each Check e = plain Check e
    each (Simulate seed count) e = plain (Simulate seed count) e
    each Validate e = plain Validate e
    each Evaluate e = plain Evaluate e
    each Hydro e = plain Hydro e
    each (Gen seed stages reservoirs) e = plain (Gen seed stages reservoirs) e
    each Robust e = robust_refused v bytes kept r e

-- each status is the expected one, where no count rose and memory was there
task_completes : {Start Chain : Type 0} (v : Solving Start Chain) (command : Command) (e : Ends) (status : Status) → ExplainsTask v command e status → CompletesBy v of_problem command e status
task_completes v command e Done h bytes kept is r nr nd nw =
    let w = at_bytes e.left _ bytes is h.1 in
    inl (outcome_is v command bytes kept (Ok w.1.0) w.0 (w.1.1 kept r))
task_completes v command e Usage h bytes kept is r nr nd nw = absurd h.0
task_completes v command e ReadFault h bytes kept is r nr nd nw = absurd (nr h.0)
task_completes v command e TooLong h bytes kept is r nr nd nw =
    let f = front_length e.left_now bytes h.0.0 (subst (λ (o : Option (List ℕ)). Consumes o e.left_now h.0.0) is h.0.2) in
    inl (sym (many bytes (status_of (report_at v command bytes kept)) (omega (arith, h.0.1))))
task_completes v command e (HydroRefused refusal) h bytes kept is r nr nd nw = absurd h.0
task_completes v command e (ProblemRefused x) h bytes kept is r nr nd nw =
    let w = at_bytes e.left _ bytes is h.0.1 in
    inl (outcome_is v command bytes kept (Err (ProblemRefused x)) w.0 (refused_is v command bytes kept x w.1))
task_completes v command e (JournalRefused x) h bytes kept is r nr nd nw =
    let w = at_bytes e.left _ bytes is h.0.1.1 in
    inl (outcome_is v command bytes kept (Err (JournalRefused x)) w.0 (w.1 kept r))
task_completes v command e (TooMuch x) h bytes kept is r nr nd nw =
    let w = at_bytes e.left _ bytes is h.0.1.1 in
    inl (outcome_is v command bytes kept (Err (TooMuch x)) w.0 (w.1 kept r))
task_completes v command e (Range k m i) h bytes kept is r nr nd nw =
    let w = at_bytes e.left _ bytes is h.0.1.1 in
    inl (outcome_is v command bytes kept (Err (Range k m i)) w.0 (w.1 kept r))
task_completes v command e (Infeasible infeasible) h bytes kept is r nr nd nw =
    let w = at_bytes e.left _ bytes is h.0.1.1 in
    inl (outcome_is v command bytes kept (Err (Infeasible infeasible)) w.0 (w.1.0 kept r))
task_completes v command e DiskFault h bytes kept is r nr nd nw = absurd (nd h.0.0.1)
task_completes v command e WriteFault h bytes kept is r nr nd nw = absurd (nw h.0)
task_completes v command e Memory h bytes kept is r nr nd nw = inr refl

-- a run that wrote its whole text is Done
whole_is_done : (status : Status) → (kind status).output ≡ all_written → status ≡ Done
whole_is_done Done e = refl
whole_is_done Usage e = absurd cc
whole_is_done ReadFault e = absurd cc
whole_is_done TooLong e = absurd cc
whole_is_done (HydroRefused refusal) e = absurd cc
whole_is_done (ProblemRefused r) e = absurd cc
whole_is_done (JournalRefused r) e = absurd cc
whole_is_done (TooMuch t) e = absurd cc
whole_is_done (Range k m r) e = absurd cc
whole_is_done (Infeasible infeasible) e = absurd cc
whole_is_done DiskFault e = absurd cc
whole_is_done WriteFault e = absurd cc
whole_is_done Memory e = absurd cc

problem_completes : (text : List ℕ) (taken taken_now : Option (List ℕ)) (writes writes_now : ℕ) (status : Status) → ExplainsProblem text taken taken_now writes writes_now status → ¬ (FaultCountRose writes writes_now) → (status ≡ Done) ⊎ (status ≡ Memory)
problem_completes text taken taken_now writes writes_now status h nw = by (kind status).output refl h
  where
    by : (w : Output) → (kind status).output ≡ w → RunEnds w taken taken_now writes writes_now (λ written. IsOk (based_at text) × written text) (status ≡ Memory) → (status ≡ Done) ⊎ (status ≡ Memory)
    by all_written is h = inl (whole_is_done status is)
    by partly_written is h = absurd (nw h.0)
    by none_written is h = inr h.0

described_completes : (e : Ends) (status : Status) → ExplainsDescribed e.left e.left_now e.reads e.reads_now e.taken e.taken_now e.writes e.writes_now status → (bytes : List ℕ) → e.left ≡ Some bytes
    → ¬ (FaultCountRose e.reads e.reads_now) → ¬ (FaultCountRose e.writes e.writes_now) → (status ≡ expected_of bytes) ⊎ (status ≡ Memory)
described_completes e Done h bytes is nr nw = let w = at_bytes e.left _ bytes is h.1 in inl (ap status_of_text (sym w.1.1) ∙ sym (few bytes (status_of_text (hydro_at bytes)) w.0))
described_completes e (HydroRefused r) h bytes is nr nw = let w = at_bytes e.left _ bytes is h.0.1 in inl (ap status_of_text (sym w.1) ∙ sym (few bytes (status_of_text (hydro_at bytes)) w.0))
described_completes e TooLong h bytes is nr nw =
    let f = front_length e.left_now bytes h.0.0 (subst (λ (o : Option (List ℕ)). Consumes o e.left_now h.0.0) is h.0.2) in
    inl (sym (many bytes (status_of_text (hydro_at bytes)) (omega (arith, h.0.1))))
described_completes e WriteFault h bytes is nr nw = absurd (nw h.0)
described_completes e ReadFault h bytes is nr nw = absurd (nr h.0)
described_completes e Memory h bytes is nr nw = inr refl
described_completes e Usage h bytes is nr nw = absurd h.0
described_completes e (ProblemRefused r) h bytes is nr nw = absurd h.0
described_completes e (JournalRefused r) h bytes is nr nw = absurd h.0
described_completes e (TooMuch t) h bytes is nr nw = absurd h.0
described_completes e (Range k m r) h bytes is nr nw = absurd h.0
described_completes e (Infeasible infeasible) h bytes is nr nw = absurd h.0
described_completes e DiskFault h bytes is nr nw = absurd h.0

completes_by : {Start Chain : Type 0} (v : Solving Start Chain) (input : Input) (command : Command) (e : Ends) (status : Status) → ExplainsBy v input command e status → CompletesBy v input command e status
completes_by v of_problem command e status h = task_completes v command e status h
completes_by v of_description command e status h = described_completes e status h
completes_by v (of_numbers seed stages reservoirs) command e status h = problem_completes (generated seed stages reservoirs) e.taken e.taken_now e.writes e.writes_now status h.1

pub completes : {Start Chain : Type 0} (v : Solving Start Chain) (asked : Option Command) (e : Ends) (status : Status) → Explains v asked e status → Completes v asked e status
completes v None e status h = h.0
completes v (Some command) e status h = completes_by v (traits command).input command e status h

keeps_same : (taken taken_now : Option (List ℕ)) → taken_now ≡ taken → Keeps taken taken_now
keeps_same taken taken_now same = subst (Keeps taken) (sym same) (itself taken)
  where
    itself : (o : Option (List ℕ)) → Keeps o o
    itself None = tt
    itself (Some bytes) = refl

-- how a task ends that gives no report
module _ {Start Chain : Type 0} (v : Solving Start Chain) (command : Command) (e : Ends) (bytes : List ℕ) (consumes : Consumes e.left e.left_now bytes) (end : IsAtEnd e.left_now) (few : length bytes ≤ 2 ^ 24) (same : e.taken_now ≡ e.taken) (reads : e.reads_now ≡ e.reads) (writes : e.writes_now ≡ e.writes) where
  read_all : (P : List ℕ → Type 0) → P bytes → ReadAll e P
  read_all P h = (end, all_taken e.left e.left_now bytes (λ b. (length b ≤ 2 ^ 24) × P b) consumes end (few, h))

  keeps : Keeps e.taken e.taken_now
  keeps = keeps_same e.taken e.taken_now same

  without_report : (s : Status) → Lacks v command e.kept e.disk e.disk_now bytes s → ExplainsTask v command e s
  without_report (ProblemRefused r) h = (read_all (λ b. IsRefused command b r) h, writes, keeps)
  without_report (JournalRefused r) h = ((h.0, read_all (λ b. Reports v command e.kept b (Err (JournalRefused r))) h.1), writes, keeps)
  without_report (TooMuch t) h = ((h.0, read_all (λ b. Reports v command e.kept b (Err (TooMuch t))) h.1), writes, keeps)
  without_report (Range k m r) h = ((h.0, read_all (λ b. Reports v command e.kept b (Err (Range k m r))) h.1), writes, keeps)
  without_report (Infeasible infeasible) h = ((h.0, read_all (λ b. Reports v command e.kept b (Err (Infeasible infeasible)) × IsRefuted command b infeasible) h.1), writes, keeps)
  without_report DiskFault h = ((h, end), writes, keeps)
  without_report Memory h = ((h, reads), writes, keeps)
  without_report Done h = absurd h
  without_report Usage h = absurd h
  without_report ReadFault h = absurd h
  without_report TooLong h = absurd h
  without_report (HydroRefused refusal) h = absurd h
  without_report WriteFault h = absurd h

  pub lacks_explains : (slice : List ℕ) (s : Status) → slice ≡ bytes → Lacks v command e.kept e.disk e.disk_now slice s → ExplainsTask v command e s
  lacks_explains slice s is h = without_report s (subst (λ (b : List ℕ). Lacks v command e.kept e.disk e.disk_now b s) is h)

-- a problem that is read, and whose base cuts are in range, is accepted
with_base_ok : (p : Validated) (r : Result (List (List Cut)) (ℕ × ℕ)) → IsOk r → IsOk (with_base p r)
with_base_ok p (Ok pools) h = refl
with_base_ok p (Err at) h = absurd cc

based_ok : (r : Result Validated Refusal) → IsOk r → IfOk r (λ p. IsOk (based p)) → IsOk (r >>= based_of)
unfolding based_of
based_ok (Ok p) read fits = with_base_ok p (based p) fits
based_ok (Err e) read fits = absurd cc

pub accepts : {X E : Type 0} (view : X → List ℕ) (r : Result X E) → IfOk r (λ x. IsOk (problem_at (view x))) → IfOk r (λ x. IfOk (problem_at (view x)) (λ p. IsOk (based p))) → IfOk r (λ x. IsOk (based_at (view x)))
unfolding based_at
accepts view (Ok x) read fits = based_ok (problem_at (view x)) read fits
accepts view (Err e) read fits = tt
