-- The answers of code that trains on a journal.
use Rattle.std.specs.Prelude.{◌≡◌, Option, Some, None, Result, Ok, Err, MatchBool, ⊤}
use Rattle.plan_answer.specs.declared.plan_fault.PlanFault.{PlanFault}
use Rattle.plan_answer.specs.declared.plan_fault.PlanFault.TheVariants as plans
use Rattle.run_program.specs.Journals.{status_of_report}
use Rattle.run_program.specs.Kinds.{Cause, Reach, after_training, anywhere, at_loading, before_journal, failed_disk, has_trained, kind, large_certificates, no_decisions, refused_memory}
use Rattle.run_program.specs.declared.status.Status.{Status}

abbrev pub RefusesAt : {A : Type 0} → Reach → Status → Result A Status → Type 0
RefusesAt at_loading status defined = defined ≡ Err status
RefusesAt anywhere status defined = ⊤
RefusesAt before_journal status defined = ⊥
RefusesAt after_training status defined = ⊥

-- a refusal of the journal or a formula that was defined; a fault of the disk and want of memory are free, and nothing else comes
abbrev pub Refuses : {A : Type 0} → Status → Result A Status → Type 0
Refuses status defined = RefusesAt (kind status).reach status defined

abbrev pub IsOfLoading : Reach → Type 0
IsOfLoading at_loading = ⊤
IsOfLoading anywhere = ⊤
IsOfLoading before_journal = ⊥
IsOfLoading after_training = ⊥

-- the statuses that loading and the formulas may come to
abbrev pub ComesOfLoading : Status → Type 0
ComesOfLoading status = IsOfLoading (kind status).reach

-- where iterations stop, by a cause; a fault of the disk and want of memory leave it open, and no other comes of iterations
abbrev pub StopsBy : Cause → Option PlanFault → Type 0
StopsBy (large_certificates iteration node realization) stop = stop ≡ Some (plans.Range iteration node realization)
StopsBy (no_decisions infeasible) stop = stop ≡ Some (plans.Infeasible infeasible)
StopsBy failed_disk stop = ⊤
StopsBy refused_memory stop = ⊤
StopsBy cause stop = ⊥

-- where iterations stop, as far as a status tells it
abbrev pub StatusStopsAs : {A : Type 0} → Result A Status → Option PlanFault → Type 0
StatusStopsAs (Ok x) stop = stop ≡ None
StatusStopsAs (Err status) stop = StopsBy (kind status).cause stop

-- a fact that holds once all iterations are done that the definition has, as the status says
abbrev pub WhenTrained : {A : Type 0} → Result A Status → Type 0 → Type 0
WhenTrained r P = MatchBool (has_trained (status_of_report r)) P ⊤
