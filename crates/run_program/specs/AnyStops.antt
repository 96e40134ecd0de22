-- Training that is stopped any number of times, each time at any moment, and begun again by the same words with any COUNT up to one.
use Rattle.std.specs.Prelude.{◌≡◌, ◌⊎◌, ℕ, ◌≤◌, ◌<◌, ◌^◌, true, List, [], Option, Some, None, Ok}
use Rattle.std.specs.Io.KnownBytes.{Appends}
use Rattle.sha2.specs.Sha256.{sha256}
use Rattle.base_device.specs.Causes.{FaultCountRose}
use Rattle.base_device.specs.Disks.{Only}
use Rattle.problem.specs.Formulas.{too_much}
use Rattle.journal_file.specs.Layout.{journal, new_title}
use Rattle.journal_file.specs.IsPrefix.{Uncommitted}
use Rattle.lp_program.specs.Solving.{Solving}
use Rattle.policy_report.specs.Report.{train_text}
use Rattle.plan_train.specs.Continuing.{Continued}
use Rattle.plan_train.specs.Resuming.{unstopped}
use Rattle.plan_train.specs.Training.{payloads, unanswered_in}
use Rattle.run_program.specs.Causes.{expected}
use Rattle.run_program.specs.Kinds.{has_trained}
use Rattle.run_program.specs.Outcome.{WithBase, based_at}
use Rattle.run_program.specs.Run.{Devices, IsRun, Observable}
use Rattle.run_words.specs.Traits.{IsWithin}
use Rattle.run_program.specs.declared.status.Status.{Status}
use Rattle.run_program.specs.declared.status.Status.TheVariants.{Done, Memory}
use Rattle.run_words.specs.declared.command.Command.TheVariants.{Train}

-- a run of `train` with this seed, batch and COUNT, on the problem of these bytes and a journal of which a crash leaves just what it reads
pub record Trains {Start Chain I D O : Type 0} (v : Solving Start Chain) (t : Observable I D O) (bytes : List ℕ) (seed : ℕ) (batch : Option ℕ) (count : ℕ) (kept : List ℕ) (old new : Devices I D O) (status : Status) : Type 0 where
  pub is : IsRun v (Some (Train seed count batch)) t old new status
  pub problem : t.left old.problem ≡ Some bytes
  pub reads : (t.store old.journal).reads ≡ Some kept
  pub only : Only kept (t.store old.journal)

-- such a run over devices of these kinds, with at most this COUNT, begins on `kept`, and a crash at some moment of it leaves `content`
pub record LeavesAtStop {Start Chain I D O : Type 0} (v : Solving Start Chain) (t : Observable I D O) (bytes : List ℕ) (seed : ℕ) (batch : Option ℕ) (count : ℕ) (kept content : List ℕ) : Type 0 where
  pub old : Devices I D O
  pub new : Devices I D O
  pub status : Status
  pub fewer : ℕ
  pub few : fewer ≤ count
  pub run : Trains v t bytes seed batch fewer kept old new status
  pub crash : (t.store new.journal).since (t.store old.journal).moment content

-- a content that any number of such runs may leave, each begun on what the one before it left, the first on a journal that is not committed
pub data Reachable {Start Chain I D O : Type 0} (v : Solving Start Chain) (t : Observable I D O) (bytes : List ℕ) (seed : ℕ) (batch : Option ℕ) (count : ℕ) : List ℕ → Type 0 where
  nothing : (content : List ℕ) → Uncommitted (new_title (sha256 bytes) seed batch) content → Reachable v t bytes seed batch count content
  stopped : (kept content : List ℕ) → Reachable v t bytes seed batch count kept → LeavesAtStop v t bytes seed batch count kept content → Reachable v t bytes seed batch count content

-- the numbers that words may ask for, of a problem that is accepted, and large enough for no formula
pub record IsAsked (bytes : List ℕ) (b : WithBase) (seed : ℕ) (batch : Option ℕ) (count : ℕ) : Type 0 where
  pub based : based_at bytes ≡ Ok b
  pub long : seed < 2 ^ 64
  pub within : IsWithin (Train seed count batch)
  pub room : too_much b.problem count (new_title (sha256 bytes) seed batch).batch ≡ None

-- the outcome of so many iterations of the problem from its base cuts
abbrev pub whole_training : {Start Chain : Type 0} → Solving Start Chain → List ℕ → WithBase → ℕ → Option ℕ → ℕ → Continued
whole_training v bytes b seed batch count = unstopped v b.problem b.pools (new_title (sha256 bytes) seed batch) count

-- a run ends as the run from nothing does: with its status, its journal and its text
pub record EndsAlike {Start Chain I D O : Type 0} (v : Solving Start Chain) (t : Observable I D O) (bytes : List ℕ) (b : WithBase) (seed : ℕ) (batch : Option ℕ) (count : ℕ) (old new : Devices I D O) (status : Status) : Type 0 where
  -- where no device fails
  pub answer : ¬ (FaultCountRose (t.reads old.problem) (t.reads new.problem)) → ¬ (FaultCountRose (t.disk old.journal) (t.disk new.journal)) → ¬ (FaultCountRose (t.writes old.out) (t.writes new.out))
      → (status ≡ expected v (Train seed count batch) bytes []) ⊎ (status ≡ Memory)
  pub journal : has_trained status ≡ true → (t.store new.journal).reads ≡ Some (journal (new_title (sha256 bytes) seed batch) (payloads (whole_training v bytes b seed batch count).lists) 0 [])
  pub text : status ≡ Done → ((whole_training v bytes b seed batch count).stop ≡ None)
      × Appends (t.taken old.out) (t.taken new.out) (train_text b.problem (whole_training v bytes b seed batch count).pools (whole_training v bytes b seed batch count).bounds (unanswered_in (whole_training v bytes b seed batch count).lists))
