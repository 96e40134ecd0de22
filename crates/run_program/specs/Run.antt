-- A run of the program: one record, with a name for each thing that is promised.
use Rattle.std.specs.Prelude.{◌≡◌, ◌⊎◌, ℕ, ℤ, true, false, List, String, ◌++◌, codes, take, All, Option, IfSome, IsSomeAnd, MatchOption, ⊤}
use Rattle.std.specs.declared.alloc.Global.{Global}
use Rattle.std.specs.Borrow.{MutBor}
use Rattle.std.specs.Io.KnownBytes.{Appends}
use Rattle.base_device.specs.Causes.{FaultCountRose, TakesFront}
use Rattle.base_device.specs.Counted.{Counted, CountedFile}
use Rattle.base_device.specs.Disks.{Store, Stays, unobservable}
use Rattle.lp_program.specs.Solving.{Solving}
use Rattle.run_program.specs.Causes.{Completes, Ends, Explains, Sounds, Written, ends}
use Rattle.run_program.specs.Journals.{JournalGrows, IsResumed, RunLeavesPrefix, OfTraining, OnlyReads}
use Rattle.run_program.specs.Kinds.{precedes_journal, writes_nothing}
use Rattle.hydro_accept.specs.Plans.{Means, UnderPlans}
use Rattle.policy_report.specs.Report.{word}
use Rattle.policy_report.specs.SoundLines.{first_word, lines_of}
use Rattle.run_words.specs.Commands.{texts}
use Rattle.run_program.specs.Meant.{Meant}
use Rattle.run_program.specs.OwnSolver.{own_solver}
use Rattle.run_program.specs.Outcome.{ReadsJournal}
use Rattle.run_program.specs.Status.{memory_line, status_line_text}
use Rattle.run_program.specs.Words.{asked_command, journal_name, reads_source, text_asked, writes_journal}
use Rattle.run_words.specs.declared.command.Command.{Command}
use Rattle.run_program.specs.declared.outside.Outside.{Outside}
use Rattle.run_program.specs.declared.status.Status.{Status}
use Rattle.run_program.specs.declared.status.Status.TheVariants.{Done, Memory, Usage, WriteFault}

-- functions that give what is known of a source, a disk and a sink in any state of theirs
pub record Observable (I D O : Type 0) : Type 1 where
  pub left : I → Option (List ℕ)  -- the bytes that the source has left, where it tells them
  pub reads : I → ℕ  -- how often it failed
  pub store : D → Store  -- what the disk tells
  pub disk : D → ℕ  -- how often it failed
  pub taken : O → Option (List ℕ)  -- the bytes that the sink has taken, where it tells them
  pub writes : O → ℕ  -- how often it failed

abbrev pub telling : {I D O : Type 0} → (I → Option (List ℕ)) → (I → ℕ) → (D → Store) → (D → ℕ) → (O → Option (List ℕ)) → (O → ℕ) → Observable I D O
telling left reads store disk taken writes = record { left = left; reads = reads; store = store; disk = disk; taken = taken; writes = writes }

-- a source, a disk and a sink
pub record Devices (I D O : Type 0) : Type 0 where
  pub problem : I
  pub journal : D
  pub out : O

abbrev pub devices : {I D O : Type 0} → I → D → O → Devices I D O
devices problem journal out = record { problem = problem; journal = journal; out = out }

-- the three that a run is lent, before it and after it
abbrev pub before : {I D O : Type 0} → Outside I D O → Devices I D O
before lent = devices lent.problem.now lent.journal.now lent.out.now

abbrev pub after : {I D O : Type 0} → MutBor I × (MutBor D × (MutBor O × ⊤)) → Devices I D O
after lent = devices lent.0.now lent.1.0.now lent.1.1.0.now

-- the three before a run and after it, as far as they are known
abbrev pub ends_of : {I D O : Type 0} → Observable I D O → Devices I D O → Devices I D O → Ends
ends_of t old new = ends t.left t.reads t.store t.disk t.taken t.writes old.problem new.problem old.journal new.journal old.out new.out

-- the text that `hydro` writes means what the description in the source says
abbrev pub Describes : Option Command → Ends → Status → Type 0
Describes wanted e status = Written wanted (λ command bytes text. ⊤) Means (λ text. ⊤) e status

-- A run of what the words ask for, with a solver, from `old` to `new`, that ended with a status.
pub record IsRun {Start Chain I D O : Type 0} (v : Solving Start Chain) (wanted : Option Command) (t : Observable I D O) (old new : Devices I D O) (status : Status) : Type 0 where
  -- the claim of the status on the words, the source, the disk and the sink
  pub cause : Explains v wanted (ends_of t old new) status
  -- which status comes where no device fails: the report, the first refusal, or want of memory
  pub complete : Completes v wanted (ends_of t old new) status
  -- no policy of the problem file costs less than a bound that was written, some policy costs at most what stands behind `upper`, and each
  -- cut holds at every state that can come to its node, in any fraction of a unit, over any disk and for every solver: in the file's own words
  -- the policies of the file that `hydro` wrote are the described plans, at equal cost, and what `gen` wrote is a file
  pub means : Meant wanted (ends_of t old new) status
  -- each cut and each bound in what was written hold for every decision tree and every policy, in any fraction of a unit, over any disk
  -- and for every solver; the problem of a description is the one that is defined, and like a generated one accepted
  pub sound : Sounds wanted (ends_of t old new) status
  -- a plan for the plants of a description is workable exactly where its tree is a policy of the problem that was written, at equal cost
  pub described : Describes wanted (ends_of t old new) status
  -- without a report the sink is as it was
  pub unwritten : writes_nothing status ≡ true → new.out ≡ old.out
  -- `gen`, and words that are no command, leave the source as it was
  pub unread : reads_source wanted ≡ false → new.problem ≡ old.problem
  -- commands that do not train, and each refusal, leave all that the journal tells as it was
  pub journal : IfSome wanted (λ command. OnlyReads command status) → Stays (t.store old.journal) (t.store new.journal)
  -- commands that have no journal leave it as it was
  pub journal_unread : ¬ (IsSomeAnd wanted ReadsJournal) → new.journal ≡ old.journal
  -- where the words, the problem or the description are refused, nothing was asked of the journal, nor where the source failed
  pub journal_later : precedes_journal status ≡ true → new.journal ≡ old.journal
  -- training leaves the records that were loaded as they stood, and those of all iterations of the definition behind them
  pub grown : OfTraining (t.left old.problem) (t.store old.journal).reads wanted (λ bytes kept. JournalGrows v status bytes kept (t.store new.journal))
  -- a crash at any moment leaves at least the records that were there, and the first of those that are added
  pub any_moment : OfTraining (t.left old.problem) (t.store old.journal).reads wanted (λ bytes kept. RunLeavesPrefix v bytes kept (t.store old.journal) (t.store new.journal))
  -- training that was stopped and is resumed leaves and prints what unstopped training does
  pub resumed : OfTraining (t.left old.problem) (t.store old.journal).reads wanted (λ bytes kept. IsResumed v status bytes kept (t.store new.journal) (t.taken old.out) (t.taken new.out))

-- a stream of errors that tells its bytes took a front of the line of the status, or of that of want of memory
abbrev pub SaysLine : Option (List ℕ) → Option (List ℕ) → Status → Type 0
SaysLine errors errors_now status = (n : ℕ) × (Appends errors errors_now (take n (status_line_text status)) ⊎ Appends errors errors_now (take n memory_line))

-- the journal of the program: the file that the second word names, opened for writing exactly where the words ask for training
abbrev pub journal_of : List (List ℕ) → CountedFile
journal_of words = record { name = journal_name words; write = writes_journal words; faults = 0 }

-- functions that give what is known of a reader and a writer of std and of a file: the bytes that the reader has left and that the writer
-- holds, where std tells them, and how often each of the three failed
abbrev pub telling_streams : {I O : Type 0} → (I → Option (List ℕ)) → (O → Option (List ℕ)) → Observable (Counted I) CountedFile (Counted O)
telling_streams {I} {O} remaining contents =
    telling (λ (s : Counted I). remaining s.inner) (λ (s : Counted I). s.faults) (λ (d : CountedFile). unobservable) (λ (d : CountedFile). d.faults) (λ (s : Counted O). contents s.inner) (λ (s : Counted O). s.faults)

-- a run of the program's solver over a reader, the file that the words name, and a writer
abbrev pub RunsOver : {I O : Type 0} → (I → Option (List ℕ)) → (O → Option (List ℕ)) → List (String Global) → Counted I → Counted I → Counted O → Counted O → Status → Type 0
RunsOver remaining contents words problem problem_now out out_now status = (journal_now : CountedFile)
    × IsRun own_solver (asked_command words) (telling_streams remaining contents) (devices problem (journal_of (texts words)) out) (devices problem_now journal_now out_now) status

-- a text was written, or a front of it, where a call of the sink failed
abbrev pub ShowsText : List ℕ → Option (List ℕ) → Option (List ℕ) → ℕ → ℕ → Status → Type 0
ShowsText text taken taken_now writes writes_now status =
    ((status ≡ Done) × Appends taken taken_now text) ⊎ ((status ≡ WriteFault) × FaultCountRose writes writes_now × TakesFront taken taken_now text)

-- The program on its words: the words that ask what it is are answered, and nothing is read; others are run, unless there is
-- no memory for the name of the journal, and then nothing is read or written.
abbrev pub AnswersWords : {I O : Type 0} → (I → Option (List ℕ)) → (O → Option (List ℕ)) → List (String Global) → Counted I → Counted I → Counted O → Counted O → Status → Type 0
AnswersWords remaining contents words problem problem_now out out_now status = MatchOption (text_asked (texts words))
    (((status ≡ Memory) × (problem_now ≡ problem) × (out_now ≡ out)) ⊎ RunsOver remaining contents words problem problem_now out out_now status)
    (λ text. (problem_now ≡ problem) × ShowsText text (contents out.inner) (contents out_now.inner) out.faults out_now.faults status)

-- a reader or a writer of which no call has failed
abbrev pub fresh_counted : {A : Type 0} → A → Counted A
fresh_counted inner = record { inner = inner; faults = 0 }

-- the words of the command line cannot be had, or the streams cannot be made sure of
abbrev pub CannotStart : Status → Type 0
CannotStart status = (status ≡ Usage) ⊎ ((status ≡ Memory) ⊎ (status ≡ WriteFault))

-- The program over a reader and a writer, which are its own from then on: it answers some words, those of the command line, of which
-- std says nothing, or it cannot start.
abbrev pub Starts : {I O : Type 0} → (I → Option (List ℕ)) → (O → Option (List ℕ)) → I → O → Status → Type 0
Starts {I} {O} remaining contents input output status = CannotStart status
    ⊎ ((words : List (String Global)) × (problem_now : Counted I) × (out_now : Counted O) × AnswersWords remaining contents words (fresh_counted input) problem_now (fresh_counted output) out_now status)

-- the line is of a bound that is at most the cost of each workable plan for what is described
pub record PlanLine (description line : List ℕ) : Type 0 where
  pub bound : ℤ
  pub is : line ≡ codes "bound" ++ word bound
  pub under : UnderPlans description bound

-- so is each line of a bound in a text
abbrev pub PlanLines : List ℕ → List ℕ → Type 0
PlanLines description text = All (λ line. first_word line ≡ codes "bound" → PlanLine description line) (lines_of text)
