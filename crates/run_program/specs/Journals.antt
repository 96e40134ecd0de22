-- The journal that a run leaves.
use Rattle.std.specs.Prelude.{◌≡◌, ◌≤◌, ◌<◌, ◌^◌, ℕ, true, List, [], Option, Some, None, IfSome, Result, Ok, Err}
use Rattle.std.specs.Io.KnownBytes.{Appends}
use Rattle.sha2.specs.Sha256.{sha256}
use Rattle.base_device.specs.Disks.{Store}
use Rattle.base_device.specs.Since.{Quiet, LeavesOnly}
use Rattle.problem.specs.Formulas.{too_much}
use Rattle.journal_file.specs.Layout.{Title, journal, new_title}
use Rattle.journal_file.specs.IsPrefix.{IsPrefix}
use Rattle.journal_load.specs.Load.{Outcome}
use Rattle.lp_program.specs.Solving.{Solving}
use Rattle.policy_report.specs.Report.{train_text}
use Rattle.plan_train.specs.Continuing.{Continued}
use Rattle.plan_train.specs.Resuming.{unstopped}
use Rattle.plan_train.specs.Training.{GoesOnWith, IsPrefixFrom, HoldsPrefix, grown_journal, iterations, payloads, title_of, unanswered_in}
use Rattle.run_program.specs.Outcome.{WithBase, based_at, loaded_for}
use Rattle.run_program.specs.declared.status.Status.{Status}
use Rattle.run_program.specs.declared.status.Status.TheVariants.{Done}
use Rattle.run_words.specs.declared.command.Command.{Command}
use Rattle.run_words.specs.declared.command.TrainingNumbers.{TrainingNumbers}
use Rattle.run_words.specs.Traits.{traits}
use Rattle.run_program.specs.Kinds.{has_trained, is_refusal}

-- how a report comes to be written, or why there is none
abbrev pub status_of_report : {A : Type 0} → Result A Status → Status
status_of_report (Ok x) = Done
status_of_report (Err s) = s

-- where the command trains, this holds of its numbers
abbrev pub IfTraining : Command → (TrainingNumbers → Type 0) → Type 0
IfTraining command P = IfSome (traits command).training P

-- the journal is only read: by a command that does not train, or on a refusal
abbrev pub OnlyReads : Command → Status → Type 0
OnlyReads command status = IfTraining command (λ t. is_refusal status ≡ true)

abbrev pub KeepsJournal : {A : Type 0} → Command → Result A Status → Type 0
KeepsJournal command r = OnlyReads command (status_of_report r)

-- The journal has the records that were loaded, as they stood, and those of all iterations behind them, then a commit byte of 0 and nothing else,
-- and so has what a crash leaves.
abbrev pub JournalGrows : {Start Chain : Type 0} → Solving Start Chain → Status → List ℕ → List ℕ → Store → TrainingNumbers → Type 0
JournalGrows v status bytes kept new t =
    (b : WithBase) (o : Outcome) → based_at bytes ≡ Ok b → loaded_for bytes b t.seed t.batch kept ≡ Ok o → has_trained status ≡ true
    → (new.reads ≡ Some (grown_journal (sha256 bytes) t.seed o kept (iterations v b.problem t.seed t.count o).lists)) × Quiet new

abbrev pub Leaves : {Start Chain A : Type 0} → Solving Start Chain → Result A Status → List ℕ → List ℕ → Store → TrainingNumbers → Type 0
Leaves v r bytes kept new t = JournalGrows v (status_of_report r) bytes kept new t

-- Where what was loaded stands for the first j payloads, which go on with those of the iterations, and a crash at the start leaves the
-- first i or more, so does a crash at any moment.
abbrev pub RunLeavesPrefix : {Start Chain : Type 0} → Solving Start Chain → List ℕ → List ℕ → Store → Store → TrainingNumbers → Type 0
RunLeavesPrefix v bytes kept old new t =
    (b : WithBase) (o : Outcome) (ps : List (List ℕ)) (j i : ℕ) → based_at bytes ≡ Ok b → loaded_for bytes b t.seed t.batch kept ≡ Ok o
    → HoldsPrefix (title_of (sha256 bytes) t.seed o) o ps j kept → GoesOnWith j ps (iterations v b.problem t.seed t.count o).lists → i ≤ j
    → ((c : List ℕ) → old.images c → IsPrefixFrom (title_of (sha256 bytes) t.seed o) ps i c)
    → LeavesOnly old new (IsPrefixFrom (title_of (sha256 bytes) t.seed o) ps i)

-- Where the journal stands for the first j records of what unstopped training leaves, training leaves what the unstopped one leaves, and
-- prints what it prints.
abbrev pub IsResumed : {Start Chain : Type 0} → Solving Start Chain → Status → List ℕ → List ℕ → Store → Option (List ℕ) → Option (List ℕ) → TrainingNumbers → Type 0
IsResumed v status bytes kept new taken taken_now t =
    (b : WithBase) (j : ℕ) → based_at bytes ≡ Ok b → t.seed < 2 ^ 64
    → (let title : Title = new_title (sha256 bytes) t.seed t.batch in
    let c : Continued = unstopped v b.problem b.pools title t.count in
    too_much b.problem t.count title.batch ≡ None → IsPrefix title (payloads c.lists) j kept
    → (has_trained status ≡ true → new.reads ≡ Some (journal title (payloads c.lists) 0 []))
    × (status ≡ Done → (c.stop ≡ None) × Appends taken taken_now (train_text b.problem c.pools c.bounds (unanswered_in c.lists))))

-- of the bytes of the problem and of the journal, as far as they are told, and of the numbers of training, where that is asked for
abbrev pub OfTraining : Option (List ℕ) → Option (List ℕ) → Option Command → (List ℕ → List ℕ → TrainingNumbers → Type 0) → Type 0
OfTraining left kept asked P = IfSome asked (λ command. IfTraining command (λ t. IfSome left (λ bytes. IfSome kept (λ k. P bytes k t))))
