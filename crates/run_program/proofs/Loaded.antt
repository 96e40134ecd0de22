-- The outcome of a task that loads a journal and makes decisions over its pools, unless a formula is above its limit.
use Rattle.std.proofs.Common.{◌≡◌, ◌∙◌, ℕ, List, Option, Some, None, IfSome, Result, Ok, Err, IfErr, refl, ap, subst}
use Rattle.sha2.specs.Sha256.{sha256}
use Rattle.read_json.specs.Steps.{◌>>=◌}
use Rattle.problem.specs.declared.formulas.TooMuch as formulas
use Rattle.journal_file.specs.Causes.{DiskCause}
use Rattle.journal_load.specs.declared.refusal.LoadFault.{LoadFault}
use Rattle.journal_load.specs.declared.refusal.LoadFault.TheVariants as faults
use Rattle.journal_load.specs.Load.{Outcome}
use Rattle.lp_program.specs.Solving.{Solving}
use Rattle.plan_answer.specs.declared.classifying.Infeasibility.{Infeasibility}
use Rattle.plan_answer.specs.declared.plan_fault.PlanFault.{PlanFault}
use Rattle.plan_answer.specs.declared.plan_fault.PlanFault.TheVariants as plans
use Rattle.plan_answer.specs.Faults.{FailsAsRefuted}
use Rattle.run_program.specs.Causes.{Lacks}
use Rattle.run_program.specs.Outcome.{Reads, ReadsJournal, Reports, Solves, WithBase, based_at, loaded_within, report_at, status_of_fault, status_of_plan}
use Rattle.run_program.specs.Loading.{NotLoaded}
use Rattle.run_program.specs.Refuted.{DecidesAt}
use Rattle.run_program.specs.declared.status.Status.{Status}
use Rattle.run_program.specs.declared.status.Status.TheVariants.{JournalRefused, TooMuch, Infeasible}
use Rattle.run_words.specs.declared.command.Command.{Command}
use Rattle.run_program.proofs.RefutedPlace.{Located, err_as, refuted_here}

goes : {A B E : Type 0} (m : Result A E) (g : A → Result B E) (x : A) → m ≡ Ok x → (m >>= g) ≡ g x
goes m g x e = ap (λ r. r >>= g) e

stops : {A B E : Type 0} (m : Result A E) (g : A → Result B E) (d : E) → m ≡ Err d → (m >>= g) ≡ Err d
stops m g d e = ap (λ r. r >>= g) e

-- what is known of a journal that was loaded by a digest and a formula, by what these are
pub loaded_by : (told : Option (List ℕ)) (P : Result Outcome Status → Type 0) (b : WithBase) (digest asked : List ℕ) (formula given : Option formulas.TooMuch) → digest ≡ asked → formula ≡ given
    → IfSome told (λ kept. P (loaded_within b.problem b.pools digest formula kept)) → IfSome told (λ kept. P (loaded_within b.problem b.pools asked given kept))
loaded_by told P b digest asked formula given d f h =
    subst (λ (x : Option formulas.TooMuch). IfSome told (λ kept. P (loaded_within b.problem b.pools asked x kept))) f
    (subst (λ (x : List ℕ). IfSome told (λ kept. P (loaded_within b.problem b.pools x formula kept))) d h)

-- a task that goes on with what was loaded, over the base cuts of the problem that the bytes give
pub record GoesOn {Start Chain : Type 0} (v : Solving Start Chain) (command : Command) (bytes : List ℕ) (b : WithBase) (formula : Option formulas.TooMuch) (after : Outcome → Result (List ℕ) Status) : Type 0 where
  pub based : based_at bytes ≡ Ok b
  pub reads : ReadsJournal command
  pub solves : Solves command
  pub told : (told : Option (List ℕ)) (kept : List ℕ) → Reads command told kept → told ≡ Some kept
  pub is : (kept : List ℕ) → report_at v command bytes kept ≡ (loaded_within b.problem b.pools (sha256 bytes) formula kept >>= after)

module _ {Start Chain : Type 0} (v : Solving Start Chain) (command : Command) (told : Option (List ℕ)) (bytes : List ℕ) (b : WithBase) (formula : Option formulas.TooMuch) (after : Outcome → Result (List ℕ) Status) (on : GoesOn v command bytes b formula after) where
  abbrev loaded : List ℕ → Result Outcome Status
  loaded kept = loaded_within b.problem b.pools (sha256 bytes) formula kept

  if_told : (P Q : List ℕ → Type 0) → ((kept : List ℕ) → P kept → Q kept) → IfSome told P → IfSome told Q
  if_told P Q f = each told
    where
      each : (o : Option (List ℕ)) → IfSome o P → IfSome o Q
      each None h = tt
      each (Some kept) h = f kept h

  reports : (outcome : Result (List ℕ) Status) → IfSome told (λ kept. (loaded kept >>= after) ≡ outcome) → Reports v command told bytes outcome
  reports outcome has = λ kept reads. on.is kept ∙ subst (λ (o : Option (List ℕ)). IfSome o (λ k. (loaded k >>= after) ≡ outcome)) (on.told told kept reads) has

  not_gone : (s : Status) → IfSome told (λ kept. loaded kept ≡ Err s) → Reports v command told bytes (Err s)
  not_gone s has = reports (Err s) (if_told (λ kept. loaded kept ≡ Err s) (λ kept. (loaded kept >>= after) ≡ Err s) (λ kept e. stops (loaded kept) after s e) has)

  -- a journal that is not loaded, or a formula that is above its limit
  pub not_loaded : {X : Type 0} (disk disk_now : ℕ) (f : LoadFault) → DiskCause disk disk_now (let l : Result X LoadFault = Err f in l ≡ Err faults.DiskFault) → IfSome told (λ kept. NotLoaded f (loaded kept)) → Lacks v command told disk disk_now bytes (status_of_fault f)
  not_loaded disk disk_now (faults.Refused r) cause has = (on.reads, not_gone (JournalRefused r) has)
  not_loaded disk disk_now (faults.TooMuch t) cause has = (on.reads, not_gone (TooMuch t) has)
  not_loaded disk disk_now faults.DiskFault cause has = (on.reads, cause.failed refl)
  not_loaded disk disk_now faults.Memory cause has = cause.otherwise (λ e. cc)

  -- what comes after the loading
  pub gone_on : (o : Outcome) (outcome : Result (List ℕ) Status) → IfSome told (λ kept. loaded kept ≡ Ok o) → after o ≡ outcome → Reports v command told bytes outcome
  gone_on o outcome has e = reports outcome (if_told (λ kept. loaded kept ≡ Ok o) (λ kept. (loaded kept >>= after) ≡ outcome) (λ kept h. goes (loaded kept) after o h ∙ e) has)

  -- a node without decisions
  pub not_decided : {X : Type 0} (disk disk_now : ℕ) (o : Outcome) (f : PlanFault) (decided : Result X Infeasibility) → IfSome told (λ kept. loaded kept ≡ Ok o) → ((infeasible : Infeasibility) → decided ≡ Err infeasible → after o ≡ Err (Infeasible infeasible)) → FailsAsRefuted f decided
      → IfErr decided (Located b.problem (DecidesAt command b.problem)) → disk_now ≡ disk → Lacks v command told disk disk_now bytes (status_of_plan f)
  not_decided disk disk_now o (plans.Infeasible infeasible) decided has e fails there stayed =
      let here : Located b.problem (DecidesAt command b.problem) infeasible = err_as (Located b.problem (DecidesAt command b.problem)) decided (Err infeasible) fails there in
      (on.solves, (gone_on o (Err (Infeasible infeasible)) has (e infeasible fails), refuted_here command bytes b infeasible on.based here))
  not_decided disk disk_now o (plans.Range k m r) decided has e fails there stayed = absurd fails
  not_decided disk disk_now o plans.DiskFault decided has e fails there stayed = absurd fails
  not_decided disk disk_now o plans.Memory decided has e fails there stayed = stayed
