-- Says of each status what it means: a new status adds one row to `kind`.
use Rattle.std.specs.Prelude.{ℕ, Bool, true, false, List, [], codes}
use Rattle.problem.specs.declared.refusal.Refusal.{Refusal}
use Rattle.hydro_read.specs.Texts.{hydro_refusal_text}
use Rattle.hydro_read.specs.declared.refusal.HydroRefusal.{HydroRefusal}
use Rattle.plan_answer.specs.declared.classifying.Infeasibility.{Infeasibility}
use Rattle.run_program.specs.JournalLines.{journal_refusal_text, too_much_text}
use Rattle.run_program.specs.RefusalLines.{refusal_text}
use Rattle.run_program.specs.TrainingLines.{no_stage_text, range_text}
use Rattle.run_program.specs.declared.status.Status.{Status}
use Rattle.run_program.specs.declared.status.Status.TheVariants.{Done, Usage, ReadFault, TooLong, HydroRefused, ProblemRefused, JournalRefused, TooMuch, Range, Infeasible, DiskFault, WriteFault, Memory}

-- the part of its text that a run wrote
pub data Output : Type 0 where
  all_written : Output  -- all of it
  partly_written : Output  -- a front of it
  none_written : Output  -- nothing, or there is no text

-- how far a run came
pub data Reach : Type 0 where
  before_journal : Reach  -- it ended before it came to the journal
  at_loading : Reach  -- the journal is refused, or a formula that is looked at behind its loading
  after_training : Reach  -- where it trains, it trained to the end, or to where iterations stop
  anywhere : Reach  -- that is not told

-- why a run ended so
pub data Cause : Type 0 where
  no_command : Cause  -- the words are no command
  failed_reading : Cause  -- the source's count of faults rose
  long_source : Cause  -- the source holds more than may be read
  refused_description : HydroRefusal → Cause  -- the description of plants is refused
  refused_problem : Refusal → Cause  -- the problem is refused
  refused_journal : Cause  -- the journal is refused, or a formula passes its limit
  large_certificates : ℕ → ℕ → ℕ → Cause  -- certificates pass their range: in an iteration, at a node and a realization
  no_decisions : Infeasibility → Cause  -- a node has no decisions
  failed_disk : Cause  -- the disk's count of faults rose
  refused_memory : Cause  -- memory was refused
  written_text : Cause  -- there is a text, and it was written as far as it was

pub record StatusKind : Type 0 where
  pub number : ℕ  -- the process ends with it
  pub output : Output
  pub reach : Reach
  pub cause : Cause
  pub text : List ℕ  -- of the line that the run ends with

unfoldable pub usage_text : List ℕ
usage_text = codes "usage: base, train JOURNAL SEED COUNT [BATCH], check JOURNAL, simulate JOURNAL SEED COUNT, validate JOURNAL, gen SEED STAGES RESERVOIRS, evaluate JOURNAL, hydro, robust JOURNAL"

abbrev pub kind : Status → StatusKind
kind Done = record { number = 0; output = all_written; reach = after_training; cause = written_text; text = [] }
kind Usage = record { number = 2; output = none_written; reach = before_journal; cause = no_command; text = usage_text }
kind ReadFault = record { number = 3; output = none_written; reach = before_journal; cause = failed_reading; text = codes "problem could not be read" }
kind TooLong = record { number = 4; output = none_written; reach = before_journal; cause = long_source; text = codes "problem is longer than 16777216 bytes" }
kind (HydroRefused refusal) = record { number = 14; output = none_written; reach = before_journal; cause = refused_description refusal; text = hydro_refusal_text refusal }
kind (ProblemRefused refusal) = record { number = 5; output = none_written; reach = before_journal; cause = refused_problem refusal; text = refusal_text refusal }
kind (JournalRefused refusal) = record { number = 6; output = none_written; reach = at_loading; cause = refused_journal; text = journal_refusal_text refusal }
kind (TooMuch formula) = record { number = 7; output = none_written; reach = at_loading; cause = refused_journal; text = too_much_text formula }
kind (Range iteration node realization) =
    record { number = 8; output = none_written; reach = after_training; cause = large_certificates iteration node realization; text = range_text iteration node realization }
kind (Infeasible infeasible) = record { number = 9; output = none_written; reach = after_training; cause = no_decisions infeasible; text = no_stage_text infeasible }
kind DiskFault = record { number = 10; output = none_written; reach = anywhere; cause = failed_disk; text = codes "journal device failed" }
kind WriteFault = record { number = 11; output = partly_written; reach = after_training; cause = written_text; text = codes "output failed" }
kind Memory = record { number = 12; output = none_written; reach = anywhere; cause = refused_memory; text = codes "memory" }

abbrev pub none_of : Output → Bool
none_of all_written = false
none_of partly_written = false
none_of none_written = true

-- after the status the sink is as it was
abbrev pub writes_nothing : Status → Bool
writes_nothing status = none_of (kind status).output

abbrev pub before_work : Reach → Bool
before_work before_journal = true
before_work at_loading = true
before_work after_training = false
before_work anywhere = false

-- the run ended before any work on the journal
abbrev pub is_refusal : Status → Bool
is_refusal status = before_work (kind status).reach

abbrev pub before_reading : Reach → Bool
before_reading before_journal = true
before_reading at_loading = false
before_reading after_training = false
before_reading anywhere = false

-- the run ended before it came to the journal
abbrev pub precedes_journal : Status → Bool
precedes_journal status = before_reading (kind status).reach

abbrev pub behind_training : Reach → Bool
behind_training before_journal = false
behind_training at_loading = false
behind_training after_training = true
behind_training anywhere = false

-- a run that trains trained to the end, or to where iterations stop
abbrev pub has_trained : Status → Bool
has_trained status = behind_training (kind status).reach
