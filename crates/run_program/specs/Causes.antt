-- The causes of each status: its claims on the words, the source, the disk and the sink.
use Rattle.std.specs.Prelude.{◌≡◌, ◌⊎◌, ℕ, ◌+◌, ◌^◌, ◌≤◌, List, length, take, Option, Some, None, IfSome, IsOk, Result, Ok, Err, nat_le, if◌then◌else◌, ⊤}
use Rattle.std.specs.Io.KnownBytes.{Appends, Consumes, IsAtEnd, Keeps}
use Rattle.base_device.specs.Causes.{FaultCountRose}
use Rattle.base_device.specs.Disks.{Store}
use Rattle.hydro_gen.specs.Generated.{generated}
use Rattle.hydro_read.specs.declared.refusal.HydroRefusal.{HydroRefusal}
use Rattle.hydro_make.specs.Text.{hydro_at}
use Rattle.lp_program.specs.Solving.{Solving}
use Rattle.run_program.specs.Outcome.{IsRefused, Makes, Reads, ReadsJournal, Reports, Solves, based_at, report_at}
use Rattle.run_program.specs.Refuted.{IsRefuted}
use Rattle.run_program.specs.SoundText.{SoundText}
use Rattle.run_words.specs.declared.command.Command.{Command}
use Rattle.run_words.specs.Traits.{Input, of_description, of_numbers, of_problem, traits}
use Rattle.run_program.specs.Kinds.{Cause, Output, all_written, failed_disk, failed_reading, kind, large_certificates, long_source, no_decisions, none_written, partly_written, refused_description, refused_journal, refused_memory, refused_problem}
use Rattle.run_program.specs.declared.status.Status.{Status}
use Rattle.run_program.specs.declared.status.Status.TheVariants.{Done, Usage, TooLong, HydroRefused, Memory}

-- a source, a disk and a sink, as far as they are known, before a call and after it
pub record Ends : Type 0 where
  pub left : Option (List ℕ)
  pub left_now : Option (List ℕ)
  pub reads : ℕ
  pub reads_now : ℕ
  pub kept : Option (List ℕ)
  pub disk : ℕ
  pub disk_now : ℕ
  pub taken : Option (List ℕ)
  pub taken_now : Option (List ℕ)
  pub writes : ℕ
  pub writes_now : ℕ

-- the three before and after, by what is known of them in any state
abbrev pub ends : {I D O : Type 0} → (I → Option (List ℕ)) → (I → ℕ) → (D → Store) → (D → ℕ) → (O → Option (List ℕ)) → (O → ℕ) → I → I → D → D → O → O → Ends
ends left reads store disk taken writes source source_now journal journal_now sink sink_now = record {
  left = left source;
  left_now = left source_now;
  reads = reads source;
  reads_now = reads source_now;
  kept = (store journal).reads;
  disk = disk journal;
  disk_now = disk journal_now;
  taken = taken sink;
  taken_now = taken sink_now;
  writes = writes sink;
  writes_now = writes sink_now;
}

-- the source was read to its end, and this holds of its bytes
abbrev pub WasRead : Option (List ℕ) → Option (List ℕ) → (List ℕ → Type 0) → Type 0
WasRead left left_now P = IsAtEnd left_now × IfSome left (λ bytes. (length bytes ≤ 2 ^ 24) × P bytes)

abbrev pub ReadAll : Ends → (List ℕ → Type 0) → Type 0
ReadAll e P = WasRead e.left e.left_now P

-- more was read than a source may hold
abbrev pub WasLong : Option (List ℕ) → Option (List ℕ) → Type 0
WasLong left left_now = (piece : List ℕ) × (length piece ≡ 2 ^ 24 + 1) × Consumes left left_now piece

-- the claim where a run wrote its text, or a front of it, and where it wrote nothing, which leaves the sink's count of faults as it was
abbrev pub RunEnds : Output → Option (List ℕ) → Option (List ℕ) → ℕ → ℕ → ((List ℕ → Type 0) → Type 0) → Type 0 → Type 0
RunEnds all_written taken taken_now writes writes_now W stopped = W (λ text. Appends taken taken_now text)
RunEnds partly_written taken taken_now writes writes_now W stopped = FaultCountRose writes writes_now × W (λ text. (n : ℕ) × Appends taken taken_now (take n text))
RunEnds none_written taken taken_now writes writes_now W stopped = stopped × (writes_now ≡ writes) × Keeps taken taken_now

-- of a report that was written, or a front of it
abbrev pub Wrote : {Start Chain : Type 0} → Solving Start Chain → Command → Ends → (List ℕ → Type 0) → Type 0
Wrote v command e written = ReadAll e (λ bytes. (text : List ℕ) × Reports v command e.kept bytes (Ok text) × SoundText command bytes text × written text)

-- how the reading of a source went: it failed, it was too long, its count of faults stayed as it was, or it ended, and this holds of its bytes
pub record Reading : Type 1 where
  pub failed : Type 0
  pub long : Type 0
  pub quiet : Type 0 → Type 0
  pub ended : Type 0 → Type 0
  pub says : (List ℕ → Type 0) → Type 0

-- of bytes that were read
abbrev pub of_bytes : List ℕ → Reading
of_bytes bytes = record { failed = ⊥; long = ⊥; quiet = λ P. P; ended = λ P. P; says = λ P. P bytes }

abbrev pub reading : Ends → Reading
reading e = record { failed = FaultCountRose e.reads e.reads_now; long = WasLong e.left e.left_now; quiet = λ P. P × (e.reads_now ≡ e.reads); ended = λ P. P × IsAtEnd e.left_now; says = ReadAll e }

-- Why a task gives no report, by what is told of the journal and how often the disk failed. Of the other causes, and with a text, it does
-- not end so; want of memory says that no count of faults rose, and is free otherwise.
abbrev pub StopsTaskBy : {Start Chain : Type 0} → Solving Start Chain → Command → Reading → Option (List ℕ) → ℕ → ℕ → Status → Cause → Type 0
StopsTaskBy v command r told disk disk_now status failed_reading = r.failed
StopsTaskBy v command r told disk disk_now status long_source = r.long
StopsTaskBy v command r told disk disk_now status (refused_problem refusal) = r.says (λ bytes. IsRefused command bytes refusal)
StopsTaskBy v command r told disk disk_now status refused_journal = ReadsJournal command × r.says (λ bytes. Reports v command told bytes (Err status))
StopsTaskBy v command r told disk disk_now status (large_certificates iteration node realization) = Makes command × r.says (λ bytes. Reports v command told bytes (Err status))
StopsTaskBy v command r told disk disk_now status (no_decisions infeasible) = Solves command × r.says (λ bytes. Reports v command told bytes (Err status) × IsRefuted command bytes infeasible)
StopsTaskBy v command r told disk disk_now status failed_disk = r.ended (ReadsJournal command × FaultCountRose disk disk_now)
StopsTaskBy v command r told disk disk_now status refused_memory = r.quiet (disk_now ≡ disk)
StopsTaskBy v command r told disk disk_now status cause = ⊥

abbrev pub StopsTask : {Start Chain : Type 0} → Solving Start Chain → Command → Reading → Option (List ℕ) → ℕ → ℕ → Status → Type 0
StopsTask v command r told disk disk_now status = StopsTaskBy v command r told disk disk_now status (kind status).cause

-- why a task gives no report of these bytes
abbrev pub Lacks : {Start Chain : Type 0} → Solving Start Chain → Command → Option (List ℕ) → ℕ → ℕ → List ℕ → Status → Type 0
Lacks v command told disk disk_now bytes status = StopsTask v command (of_bytes bytes) told disk disk_now status

-- the claim of each status on a task; want of memory says that no device failed and nothing was written, and is free otherwise
abbrev pub ExplainsTask : {Start Chain : Type 0} → Solving Start Chain → Command → Ends → Status → Type 0
ExplainsTask v command e status = RunEnds (kind status).output e.taken e.taken_now e.writes e.writes_now (Wrote v command e) (StopsTask v command (reading e) e.kept e.disk e.disk_now status)

-- the source is as it was
abbrev pub IsUnread : Ends → Type 0
IsUnread e = (e.left_now ≡ e.left) × (e.reads_now ≡ e.reads)

-- the claim of each status on a generated problem, which is one that the program accepts, and on the sink
abbrev pub ExplainsProblem : List ℕ → Option (List ℕ) → Option (List ℕ) → ℕ → ℕ → Status → Type 0
ExplainsProblem text taken taken_now writes writes_now status = RunEnds (kind status).output taken taken_now writes writes_now (λ written. IsOk (based_at text) × written text) (status ≡ Memory)

-- why a description gives no problem
abbrev pub StopsDescribedBy : Option (List ℕ) → Option (List ℕ) → ℕ → ℕ → Cause → Type 0
StopsDescribedBy left left_now reads reads_now failed_reading = FaultCountRose reads reads_now
StopsDescribedBy left left_now reads reads_now long_source = WasLong left left_now
StopsDescribedBy left left_now reads reads_now (refused_description refusal) = WasRead left left_now (λ bytes. hydro_at bytes ≡ Err refusal)
StopsDescribedBy left left_now reads reads_now refused_memory = reads_now ≡ reads
StopsDescribedBy left left_now reads reads_now cause = ⊥

abbrev pub StopsDescribed : Option (List ℕ) → Option (List ℕ) → ℕ → ℕ → Status → Type 0
StopsDescribed left left_now reads reads_now status = StopsDescribedBy left left_now reads reads_now (kind status).cause

-- the claim of each status on the problem that the description in the source means, which is one that the program accepts, and on the sink
abbrev pub ExplainsDescribed : Option (List ℕ) → Option (List ℕ) → ℕ → ℕ → Option (List ℕ) → Option (List ℕ) → ℕ → ℕ → Status → Type 0
ExplainsDescribed left left_now reads reads_now taken taken_now writes writes_now status =
    RunEnds (kind status).output taken taken_now writes writes_now
    (λ written. WasRead left left_now (λ bytes. (text : List ℕ) × (hydro_at bytes ≡ Ok text) × IsOk (based_at text) × written text)) (StopsDescribed left left_now reads reads_now status)

-- the claim of each status on a command, by what it works on; a generated problem leaves the source as it was
abbrev pub ExplainsBy : {Start Chain : Type 0} → Solving Start Chain → Input → Command → Ends → Status → Type 0
ExplainsBy v of_problem command e status = ExplainsTask v command e status
ExplainsBy v of_description command e status = ExplainsDescribed e.left e.left_now e.reads e.reads_now e.taken e.taken_now e.writes e.writes_now status
ExplainsBy v (of_numbers seed stages reservoirs) command e status = IsUnread e × ExplainsProblem (generated seed stages reservoirs) e.taken e.taken_now e.writes e.writes_now status

-- the claim of each status on what is asked for: words that ask for nothing are Usage
abbrev pub Explains : {Start Chain : Type 0} → Solving Start Chain → Option Command → Ends → Status → Type 0
Explains v None e status = (status ≡ Usage) × IsUnread e × Keeps e.taken e.taken_now
Explains v (Some command) e status = ExplainsBy v (traits command).input command e status

abbrev pub status_of : Result (List ℕ) Status → Status
status_of (Ok text) = Done
status_of (Err s) = s

-- the status of a task where no device fails and memory is there
abbrev pub expected : {Start Chain : Type 0} → Solving Start Chain → Command → List ℕ → List ℕ → Status
expected v command bytes kept = if nat_le (length bytes) (2 ^ 24) then status_of (report_at v command bytes kept) else TooLong

-- the status of a description where no device fails and memory is there
abbrev pub status_of_text : Result (List ℕ) HydroRefusal → Status
status_of_text (Ok text) = Done
status_of_text (Err r) = HydroRefused r

abbrev pub expected_of : List ℕ → Status
expected_of bytes = if nat_le (length bytes) (2 ^ 24) then status_of_text (hydro_at bytes) else TooLong

abbrev pub CompletesBy : {Start Chain : Type 0} → Solving Start Chain → Input → Command → Ends → Status → Type 0
CompletesBy v of_problem command e status =
    (bytes kept : List ℕ) → e.left ≡ Some bytes → Reads command e.kept kept → ¬ (FaultCountRose e.reads e.reads_now) → ¬ (FaultCountRose e.disk e.disk_now) → ¬ (FaultCountRose e.writes e.writes_now)
    → (status ≡ expected v command bytes kept) ⊎ (status ≡ Memory)
CompletesBy v of_description command e status =
    (bytes : List ℕ) → e.left ≡ Some bytes → ¬ (FaultCountRose e.reads e.reads_now) → ¬ (FaultCountRose e.writes e.writes_now) → (status ≡ expected_of bytes) ⊎ (status ≡ Memory)
CompletesBy v (of_numbers seed stages reservoirs) command e status = ¬ (FaultCountRose e.writes e.writes_now) → (status ≡ Done) ⊎ (status ≡ Memory)

-- where no count rose the status is the expected one, or memory was refused
abbrev pub Completes : {Start Chain : Type 0} → Solving Start Chain → Option Command → Ends → Status → Type 0
Completes v None e status = status ≡ Usage
Completes v (Some command) e status = CompletesBy v (traits command).input command e status

-- of a text that was written, or the front of one
abbrev pub Taken : Output → Option (List ℕ) → Option (List ℕ) → ((List ℕ → Type 0) → Type 0) → Type 0
Taken all_written taken taken_now W = W (λ text. Appends taken taken_now text)
Taken partly_written taken taken_now W = W (λ text. (n : ℕ) × Appends taken taken_now (take n text))
Taken none_written taken taken_now W = ⊤

-- a text of which this holds was written, or the front of one
abbrev pub IfWritten : (List ℕ → Type 0) → Ends → Status → Type 0
IfWritten P e status = Taken (kind status).output e.taken e.taken_now (λ written. (text : List ℕ) × P text × written text)

-- The text that was written, over any disk, by what the command works on: a report of the problem that the source held, the problem that a description
-- means, or a generated problem.
abbrev pub WrittenBy : Input → (List ℕ → List ℕ → Type 0) → (List ℕ → List ℕ → Type 0) → (List ℕ → Type 0) → Ends → Status → Type 0
WrittenBy of_problem Report Described Generated e status = IfSome e.left (λ bytes. IfWritten (Report bytes) e status)
WrittenBy of_description Report Described Generated e status = IfSome e.left (λ bytes. IfWritten (Described bytes) e status)
WrittenBy (of_numbers seed stages reservoirs) Report Described Generated e status = IfWritten Generated e status

abbrev pub Written : Option Command → (Command → List ℕ → List ℕ → Type 0) → (List ℕ → List ℕ → Type 0) → (List ℕ → Type 0) → Ends → Status → Type 0
Written None Report Described Generated e status = ⊤
Written (Some command) Report Described Generated e status = WrittenBy (traits command).input (Report command) Described Generated e status

-- Each text that was written is sound: a report of the problem that the source held, each line of it sound; or the problem that a description
-- means, or a generated one, in which no cut and no bound stands, and which the program accepts.
abbrev pub Sounds : Option Command → Ends → Status → Type 0
Sounds asked e status = Written asked SoundText (λ bytes text. (hydro_at bytes ≡ Ok text) × IsOk (based_at text)) (λ text. IsOk (based_at text)) e status
