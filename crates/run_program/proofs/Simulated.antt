-- The report of scenarios is the one that is defined, or there is a reason why there is none.
use Rattle.std.proofs.Common.{◌≡◌, ◌∙◌, ℕ, true, List, Option, Some, IfSome, Result, Ok, IfErr, sym, ap}
use Rattle.sha2.specs.Sha256.{sha256}
use Rattle.read_json.specs.Steps.{◌>>=◌}
use Rattle.problem.specs.declared.formulas.TooMuch as formulas
use Rattle.problem.specs.Formulas.{too_wide}
use Rattle.problem.specs.Validated.{Validated, is_validated}
use Rattle.theory.specs.declared.cut.Cut.{Cut}
use Rattle.theory.specs.Pools.{Sound}
use Rattle.theory.specs.View.{problem_of}
use Rattle.cut_pool.specs.AtNodes.{PoolsFit}
use Rattle.journal_load.specs.Load.{Outcome}
use Rattle.lp_program.specs.Solving.{Solving}
use Rattle.plan_answer.specs.declared.plan_fault.PlanFault.{PlanFault}
use Rattle.plan_answer.specs.Faults.{FailsAsRefuted}
use Rattle.plan_forward.specs.declared.traces.Trace.{Trace}
use Rattle.policy_report.specs.Traces.{trace_text}
use Rattle.policy_simulate.specs.Runs.{drawn_from}
use Rattle.policy_simulate.specs.Tracing.{traces_of}
use Rattle.run_program.specs.Causes.{Lacks}
use Rattle.run_program.specs.Outcome.{Reads, ReadsJournal, Reports, Solves, WithBase, based_at, scenario_count, loaded_within, or_refused, report_at, report_by, report_traced, runs_of, simulated_for, status_of_plan, command_for}
use Rattle.run_program.specs.SoundText.{IsReport, IsSoundReport}
use Rattle.run_program.specs.Refuted.{DecidesAt, IsRealized, IsStoredMoment}
use Rattle.run_program.specs.declared.simulating.Scenarios.{Scenarios}
use Rattle.run_program.specs.declared.simulating.Scenarios.TheVariants.{Drawn, Stored}
use Rattle.run_program.specs.declared.status.Status.{Status}
use Rattle.run_words.specs.declared.command.Command.TheVariants.{Simulate, Validate}
use Rattle.run_program.proofs.Checks.{bound_under}
use Rattle.run_program.proofs.Loaded.{GoesOn, gone_on, not_decided}
use Rattle.run_program.proofs.RefutedPlace.{Located}
use Rattle.run_program.proofs.RefutedTraces.{drawn_runs, runs_stored, traces_located}

reads_journal : (scenarios : Scenarios) → ReadsJournal (command_for scenarios)
reads_journal (Drawn seed count) = tt
reads_journal Stored = tt

solves : (scenarios : Scenarios) → Solves (command_for scenarios)
solves (Drawn seed count) = tt
solves Stored = tt

kept_is : (scenarios : Scenarios) (told : Option (List ℕ)) (kept : List ℕ) → Reads (command_for scenarios) told kept → told ≡ Some kept
kept_is (Drawn seed count) told kept r = r
kept_is Stored told kept r = r

-- the text of traces is the report of a task that goes through scenarios
text_is : (scenarios : Scenarios) (bytes : List ℕ) (p : Validated) (pools : List (List Cut)) (traces : List Trace) (text : List ℕ) → text ≡ trace_text p pools traces → IsReport (command_for scenarios) bytes p pools text
text_is (Drawn seed count) bytes p pools traces text is = (traces, is)
text_is Stored bytes p pools traces text is = (traces, is)

pub scenarios_sound : (scenarios : Scenarios) (bytes : List ℕ) (p : Validated) (pools : List (List Cut)) (traces : List Trace) (text : List ℕ) → is_validated p ≡ true → PoolsFit p pools → Sound (problem_of p) pools → text ≡ trace_text p pools traces → IsSoundReport (command_for scenarios) bytes p pools text
scenarios_sound scenarios bytes p pools traces text e fit sound is = record {
  is = text_is scenarios bytes p pools traces text is;
  cuts = sound;
  bound = bound_under p pools e fit sound;
}

-- where traces stop, by how their scenarios come
traces_there : {Start Chain : Type 0} (v : Solving Start Chain) (p : Validated) (pools : List (List Cut)) (scenarios : Scenarios) → is_validated p ≡ true → IfErr (traces_of v p pools (runs_of p scenarios)) (Located p (DecidesAt (command_for scenarios) p))
traces_there v p pools (Drawn seed count) e = traces_located v p e (IsRealized p) pools (drawn_from p seed 0 count) (drawn_runs p e seed 0 count)
traces_there v p pools Stored e = traces_located v p e (IsStoredMoment p) pools p.parts.scenarios (runs_stored p e)

module _ {Start Chain : Type 0} (v : Solving Start Chain) (scenarios : Scenarios) (bytes : List ℕ) (b : WithBase) where
  -- the formula of so many traces
  abbrev pub width : Option formulas.TooMuch
  width = too_wide b.problem (scenario_count b.problem scenarios)

  -- the traces over what was loaded
  abbrev pub follow : Outcome → Result (List ℕ) Status
  follow o = report_traced b.problem o.pools (traces_of v b.problem o.pools (runs_of b.problem scenarios))

  by_task : based_at bytes ≡ Ok b → (kept : List ℕ) → report_at v (command_for scenarios) bytes kept ≡ (loaded_within b.problem b.pools (sha256 bytes) width kept >>= follow)
  unfolding report_at simulated_for
  by_task based kept = each scenarios
    where
      each : (s : Scenarios) → (or_refused (based_at bytes) >>= report_by v (command_for s) bytes kept) ≡ simulated_for v bytes b s kept
      each (Drawn seed count) = ap (λ r. or_refused r >>= report_by v (Simulate seed count) bytes kept) based
      each Stored = ap (λ r. or_refused r >>= report_by v Validate bytes kept) based

  pub follows : based_at bytes ≡ Ok b → GoesOn v (command_for scenarios) bytes b width follow
  follows based = record { based = based; reads = reads_journal scenarios; solves = solves scenarios; told = kept_is scenarios; is = by_task based }

  module _ (told : Option (List ℕ)) (based : based_at bytes ≡ Ok b) (o : Outcome) (has : IfSome told (λ kept. loaded_within b.problem b.pools (sha256 bytes) width kept ≡ Ok o)) where
    -- traces over what was loaded
    pub traces_reported : (traces : List Trace) (text : List ℕ) → traces_of v b.problem o.pools (runs_of b.problem scenarios) ≡ Ok traces → text ≡ trace_text b.problem o.pools traces → Reports v (command_for scenarios) told bytes (Ok text)
    traces_reported traces text are is = gone_on v (command_for scenarios) told bytes b width follow (follows based) o (Ok text) has (ap (report_traced b.problem o.pools) are ∙ ap (λ (x : List ℕ). Ok x) (sym is))

    -- a node without decisions
    pub not_traced : (disk disk_now : ℕ) (f : PlanFault) → FailsAsRefuted f (traces_of v b.problem o.pools (runs_of b.problem scenarios)) → is_validated b.problem ≡ true → disk_now ≡ disk → Lacks v (command_for scenarios) told disk disk_now bytes (status_of_plan f)
    not_traced disk disk_now f fails validated stayed =
        not_decided v (command_for scenarios) told bytes b width follow (follows based) disk disk_now o f (traces_of v b.problem o.pools (runs_of b.problem scenarios)) has (λ infeasible e. ap (report_traced b.problem o.pools) e) fails (traces_there v b.problem o.pools scenarios validated) stayed
