-- The problem and the report that the bytes of a problem and of a journal give.
use Rattle.std.specs.Prelude.{◌≡◌, ℕ, ◌+◌, List, ◌++◌, length, max, Option, Some, None, Result, Ok, Err, MatchBool, ⊤}
use Rattle.sha2.specs.Sha256.{sha256}
use Rattle.problem.specs.declared.refusal.Refusal.{Refusal}
use Rattle.problem.specs.declared.refusal.RefusalKind.TheVariants as kinds
use Rattle.problem.specs.declared.refusal.Part.TheVariants as part_kinds
use Rattle.problem.specs.Validated.{Validated}
use Rattle.problem.specs.declared.parts.Moment.{Moment}
use Rattle.problem.specs.Formulas.{too_much, too_wide}
use Rattle.problem.specs.declared.formulas.TooMuch as formulas
use Rattle.read_json.specs.Steps.{◌>>=◌}
use Rattle.read_json.specs.Fields.{place, refuse}
use Rattle.read_file.specs.Problem.{problem_at}
use Rattle.theory.specs.declared.cut.Cut.{Cut}
use Rattle.theory.specs.Range.{based}
use Rattle.journal_load.specs.declared.refusal.LoadFault.{LoadFault}
use Rattle.journal_load.specs.declared.refusal.LoadFault.TheVariants as faults
use Rattle.journal_load.specs.Load.{Outcome, load_of, outcome_of}
use Rattle.lp_program.specs.Solving.{Solving}
use Rattle.plan_train.specs.Continuing.{Continued}
use Rattle.plan_train.specs.Training.{iterations, unanswered_in}
use Rattle.plan_answer.specs.declared.classifying.Infeasibility.{Infeasibility}
use Rattle.plan_answer.specs.declared.plan_fault.PlanFault.{PlanFault}
use Rattle.plan_answer.specs.declared.plan_fault.PlanFault.TheVariants as plans
use Rattle.plan_forward.specs.declared.traces.Trace.{Trace}
use Rattle.policy_simulate.specs.Runs.{drawn_from}
use Rattle.policy_simulate.specs.Tracing.{traces_of}
use Rattle.policy_report.specs.Report.{base_text, check_text, train_text}
use Rattle.policy_report.specs.Traces.{trace_text}
use Rattle.policy_evaluate.specs.declared.walking.Verdict.{Verdict}
use Rattle.policy_evaluate.specs.PolicyTree.{verdict_of}
use Rattle.policy_evaluate.specs.Report.{verdict_text}
use Rattle.policy_evaluate.specs.TooBig.{too_big_of}
use Rattle.policy_robust.specs.declared.alternatives.Alternatives.{Alternatives}
use Rattle.policy_robust.specs.Alternatives.{alternatives_of}
use Rattle.policy_robust.specs.RiskCuts.{risk_cuts_of}
use Rattle.policy_robust.specs.Report.{robust_text}
use Rattle.run_program.specs.declared.simulating.Scenarios.{Scenarios}
use Rattle.run_program.specs.declared.simulating.Scenarios.TheVariants.{Drawn, Stored}
use Rattle.run_program.specs.declared.status.Status.{Status}
use Rattle.run_program.specs.declared.status.Status.TheVariants.{Usage, ProblemRefused, JournalRefused, TooMuch, Range, Infeasible, DiskFault, Memory}
use Rattle.run_words.specs.declared.command.Command.{Command}
use Rattle.run_words.specs.declared.command.Command.TheVariants.{Simulate, Validate}
use Rattle.run_words.specs.Traits.{Decisions, Report, at_realizations, at_stored, no_report, nowhere, of_base_cuts, of_drawn_scenarios, of_journal, of_policy, of_risk_cuts, of_stored_scenarios, of_training, traits}

-- a problem with its base cuts
pub record WithBase : Type 0 where
  pub problem : Validated
  pub pools : List (List Cut)

-- with the base cuts, or the realization at which their size passes its range
abbrev pub with_base : Validated → Result (List (List Cut)) (ℕ × ℕ) → Result WithBase Refusal
with_base p (Ok pools) = Ok (record { problem = p; pools = pools })
with_base p (Err at) = refuse kinds.Range (place part_kinds.Realization at.0 at.1 0)

unfoldable pub based_of : Validated → Result WithBase Refusal
based_of p = with_base p (based p)

-- the problem that bytes give, with its base cuts, or their first refusal
unfoldable pub based_at : List ℕ → Result WithBase Refusal
based_at bytes = do
  problem ← problem_at bytes
  based_of problem

-- a problem with the weights that it lists, whose refusals come after those of the problem
abbrev pub with_alternatives : List ℕ → WithBase → Result (WithBase × Alternatives) Refusal
with_alternatives bytes b = alternatives_of b.problem bytes >>= λ x. Ok (b, x)

unfoldable pub problem_with_alternatives_at : List ℕ → Result (WithBase × Alternatives) Refusal
problem_with_alternatives_at bytes = based_at bytes >>= with_alternatives bytes

abbrev pub or_refused : {A : Type 0} → Result A Refusal → Result A Status
or_refused (Ok x) = Ok x
or_refused (Err r) = Err (ProblemRefused r)

-- how a run ends where a journal is not loaded
abbrev pub status_of_fault : LoadFault → Status
status_of_fault (faults.Refused r) = JournalRefused r
status_of_fault (faults.TooMuch t) = TooMuch t
status_of_fault faults.DiskFault = DiskFault
status_of_fault faults.Memory = Memory

abbrev pub or_status : {A : Type 0} → Result A LoadFault → Result A Status
or_status (Ok x) = Ok x
or_status (Err f) = Err (status_of_fault f)

-- the report of what a journal gives
abbrev pub check_of : Validated → Result Outcome LoadFault → Result (List ℕ) Status
check_of p (Ok o) = Ok (check_text p o.pools o.bounds o.unanswered o.tail)
check_of p (Err f) = Err (status_of_fault f)

-- the report of what the journal `kept` gives over the base cuts of the problem of these bytes, whose SHA-256 it has to state
unfoldable pub checked : List ℕ → WithBase → List ℕ → Result (List ℕ) Status
checked bytes b kept = check_of b.problem (outcome_of (load_of b.problem b.pools (sha256 bytes) None None kept))

-- the outcome that the journal `kept` gives to training with a seed and perhaps a batch
unfoldable pub loaded_for : List ℕ → WithBase → ℕ → Option ℕ → List ℕ → Result Outcome Status
loaded_for bytes b seed batch kept = or_status (outcome_of (load_of b.problem b.pools (sha256 bytes) (Some seed) batch kept))

-- the formulas are kept with as many iterations as are asked for or are there already
abbrev pub unless_much : {A : Type 0} → Option formulas.TooMuch → A → Result A Status
unless_much None x = Ok x
unless_much (Some formula) x = Err (TooMuch formula)

unfoldable pub within_formulas : Validated → ℕ → Outcome → Result Outcome Status
within_formulas p count o = unless_much (too_much p (max count (length o.bounds)) o.batch) o

-- the outcome that the journal gives over these base cuts, by the digest that it has to state, where the formulas are kept
unfoldable pub ready_for : Validated → List (List Cut) → List ℕ → ℕ → ℕ → Option ℕ → List ℕ → Result Outcome Status
ready_for p base digest seed count batch kept = or_status (outcome_of (load_of p base digest (Some seed) batch kept)) >>= within_formulas p count

-- how a run ends where planning stops
abbrev pub status_of_plan : PlanFault → Status
status_of_plan (plans.Infeasible infeasible) = Infeasible infeasible
status_of_plan (plans.Range k m r) = Range k m r
status_of_plan plans.DiskFault = DiskFault
status_of_plan plans.Memory = Memory

-- the report of iterations behind what was loaded, or where they stop
abbrev pub unless_stopped : Validated → Outcome → Continued → Option PlanFault → Result (List ℕ) Status
unless_stopped p o c None = Ok (train_text p c.pools (o.bounds ++ c.bounds) (o.unanswered + unanswered_in c.lists))
unless_stopped p o c (Some fault) = Err (status_of_plan fault)

abbrev pub report_trained : Validated → Outcome → Continued → Result (List ℕ) Status
report_trained p o c = unless_stopped p o c c.stop

-- the report of training on the journal `kept`
unfoldable pub trained_for : {Start Chain : Type 0} → Solving Start Chain → List ℕ → WithBase → ℕ → ℕ → Option ℕ → List ℕ → Result (List ℕ) Status
trained_for v bytes b seed count batch kept = do
  loaded ← loaded_for bytes b seed batch kept
  o ← within_formulas b.problem count loaded
  report_trained b.problem o (iterations v b.problem seed count o)

-- the outcome that the journal `kept` gives over these base cuts, by the digest that it has to state, unless a formula is above its limit
unfoldable pub loaded_within : Validated → List (List Cut) → List ℕ → Option formulas.TooMuch → List ℕ → Result Outcome Status
loaded_within p base digest formula kept = or_status (outcome_of (load_of p base digest None None kept)) >>= unless_much formula

-- the runs of scenarios, and their number
abbrev pub runs_of : Validated → Scenarios → List (List Moment)
runs_of p (Drawn seed count) = drawn_from p seed 0 count
runs_of p Stored = p.parts.scenarios

abbrev pub scenario_count : Validated → Scenarios → ℕ
scenario_count p (Drawn seed count) = count
scenario_count p Stored = length p.parts.scenarios

-- the report of traces, or the node without decisions that stops them
abbrev pub report_traced : Validated → List (List Cut) → Result (List Trace) Infeasibility → Result (List ℕ) Status
report_traced p pools (Ok traces) = Ok (trace_text p pools traces)
report_traced p pools (Err infeasible) = Err (Infeasible infeasible)

-- the report of scenarios over the pools of the journal `kept`
unfoldable pub simulated_for : {Start Chain : Type 0} → Solving Start Chain → List ℕ → WithBase → Scenarios → List ℕ → Result (List ℕ) Status
simulated_for v bytes b scenarios kept = do
  o ← loaded_within b.problem b.pools (sha256 bytes) (too_wide b.problem (scenario_count b.problem scenarios)) kept
  report_traced b.problem o.pools (traces_of v b.problem o.pools (runs_of b.problem scenarios))

-- the report of a verdict, or the node without decisions that stops it
abbrev pub report_classified : Validated → List (List Cut) → Result Verdict Infeasibility → Result (List ℕ) Status
report_classified p pools (Ok verdict) = Ok (verdict_text p pools verdict)
report_classified p pools (Err infeasible) = Err (Infeasible infeasible)

-- the report of what the whole policy costs over the pools of the journal `kept`
unfoldable pub evaluated_for : {Start Chain : Type 0} → Solving Start Chain → List ℕ → WithBase → List ℕ → Result (List ℕ) Status
evaluated_for v bytes b kept = do
  o ← loaded_within b.problem b.pools (sha256 bytes) (too_big_of b.problem) kept
  report_classified b.problem o.pools (verdict_of v b.problem o.pools)

-- the report of risk cuts, or where they stop
abbrev pub report_risk_cuts : Validated → Result (List (List Cut)) (ℕ × ℕ × ℕ) → Result (List ℕ) Status
report_risk_cuts p (Ok risk_cuts) = Ok (robust_text p risk_cuts)
report_risk_cuts p (Err at) = Err (Range at.0 at.1 at.2)

-- the report of the risk cuts that the records of the journal `kept` give with listed weights
unfoldable pub worst_for : List ℕ → WithBase → Alternatives → List ℕ → Result (List ℕ) Status
worst_for bytes b alternatives kept = do
  loaded ← or_status (load_of b.problem b.pools (sha256 bytes) None None kept)
  report_risk_cuts b.problem (risk_cuts_of b.problem alternatives loaded.1)

-- the report with the weights that the problem lists
unfoldable pub robust_for : List ℕ → WithBase → List ℕ → Result (List ℕ) Status
robust_for bytes b kept = do
  alternatives ← or_refused (alternatives_of b.problem bytes)
  worst_for bytes b alternatives kept

-- the command that goes through scenarios
abbrev pub command_for : Scenarios → Command
command_for (Drawn seed count) = Simulate seed count
command_for Stored = Validate

-- a report over the bytes of a problem and of a journal
abbrev pub reported : {Start Chain : Type 0} → Solving Start Chain → Report → List ℕ → List ℕ → WithBase → Result (List ℕ) Status
reported v of_base_cuts bytes kept b = Ok (base_text b.problem b.pools)
reported v (of_training numbers) bytes kept b = trained_for v bytes b numbers.seed numbers.count numbers.batch kept
reported v of_journal bytes kept b = checked bytes b kept
reported v (of_drawn_scenarios seed count) bytes kept b = simulated_for v bytes b (Drawn seed count) kept
reported v of_stored_scenarios bytes kept b = simulated_for v bytes b Stored kept
reported v of_policy bytes kept b = evaluated_for v bytes b kept
reported v of_risk_cuts bytes kept b = robust_for bytes b kept
reported v no_report bytes kept b = Err Usage

-- the report of a command; one that does not plan has none
abbrev pub report_by : {Start Chain : Type 0} → Solving Start Chain → Command → List ℕ → List ℕ → WithBase → Result (List ℕ) Status
report_by v command bytes kept b = reported v (traits command).report bytes kept b

-- the report of a command over the bytes of a problem and of a journal, or how the run ends without one
unfoldable pub report_at : {Start Chain : Type 0} → Solving Start Chain → Command → List ℕ → List ℕ → Result (List ℕ) Status
report_at v command bytes kept = do
  b ← or_refused (based_at bytes)
  report_by v command bytes kept b

-- the bytes are refused as the problem of a command; of `robust` also by the weights that the problem lists
abbrev pub IsRefused : Command → List ℕ → Refusal → Type 0
IsRefused command bytes r = MatchBool (traits command).lists_weights (problem_with_alternatives_at bytes ≡ Err r) (based_at bytes ≡ Err r)

-- the command reads a journal
abbrev pub ReadsJournal : Command → Type 0
ReadsJournal command = MatchBool (traits command).reads_journal ⊤ ⊥

-- the command makes cuts or risk cuts
abbrev pub Makes : Command → Type 0
Makes command = MatchBool (traits command).makes_cuts ⊤ ⊥

abbrev pub Somewhere : Decisions → Type 0
Somewhere nowhere = ⊥
Somewhere at_realizations = ⊤
Somewhere at_stored = ⊤

-- the command solves stage problems
abbrev pub Solves : Command → Type 0
Solves command = Somewhere (traits command).decisions

-- the journal's bytes, where the command reads them
abbrev pub Reads : Command → Option (List ℕ) → List ℕ → Type 0
Reads command told kept = MatchBool (traits command).reads_journal (told ≡ Some kept) ⊤

-- this comes of a command, by the bytes of the problem and those of the journal as far as it tells them
abbrev pub Reports : {Start Chain : Type 0} → Solving Start Chain → Command → Option (List ℕ) → List ℕ → Result (List ℕ) Status → Type 0
Reports v command told bytes outcome = (kept : List ℕ) → Reads command told kept → report_at v command bytes kept ≡ outcome

-- the answers of code for a journal that is checked: want of memory and a fault of the disk are free
abbrev pub Checks : {X : Type 0} → (X → List ℕ) → Result X LoadFault → Result (List ℕ) Status → Type 0
Checks view (Ok text) outcome = outcome ≡ Ok (view text)
Checks view (Err (faults.Refused r)) outcome = outcome ≡ Err (JournalRefused r)
Checks view (Err (faults.TooMuch t)) outcome = outcome ≡ Err (TooMuch t)
Checks view (Err faults.DiskFault) outcome = ⊤
Checks view (Err faults.Memory) outcome = ⊤
