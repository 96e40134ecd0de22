-- The report of a task is the one that is defined, and it is sound.
use Rattle.std.proofs.Common.{◌≡◌, ℕ, true, List, Option, IfSome, IfOk, Result, Ok, Err, refl, sym, ap, ◌∙◌, subst}
use Rattle.problem.specs.declared.refusal.Refusal.{Refusal}
use Rattle.problem.specs.Validated.{Validated, is_validated}
use Rattle.read_json.specs.Steps.{◌>>=◌}
use Rattle.theory.specs.declared.cut.Cut.{Cut}
use Rattle.theory.specs.Pools.{Sound}
use Rattle.theory.specs.Bound.{bound, Under}
use Rattle.theory.specs.View.{problem_of}
use Rattle.theory.proofs.BoundBelow.{sound_bound}
use Rattle.theory.proofs.ValidatedPremises.{root_shaped-validated, have_cuts-root}
use Rattle.cut_pool.specs.AtNodes.{PoolsFit}
use Rattle.journal_file.specs.Causes.{DiskCause}
use Rattle.journal_load.specs.declared.loaded.Loaded.{Loaded}
use Rattle.journal_load.specs.declared.refusal.LoadFault.{LoadFault}
use Rattle.journal_load.specs.declared.refusal.LoadFault.TheVariants as faults
use Rattle.journal_load.specs.Accepted.{IsSafe}
use Rattle.policy_report.specs.Report.{base_text, check_text}
use Rattle.lp_program.specs.Solving.{Solving}
use Rattle.run_program.specs.Causes.{Lacks}
use Rattle.run_program.specs.Outcome.{WithBase, based_at, or_refused, checked, report_by, report_at, Checks, Reports, status_of_fault}
use Rattle.run_program.specs.SoundText.{IsSoundReport}
use Rattle.run_program.specs.declared.status.Status.{Status}
use Rattle.run_words.specs.declared.command.Command.{Command}
use Rattle.run_words.specs.declared.command.Command.TheVariants.{Base, Check}

-- the bound of sound cuts is under the cost of each policy
pub bound_under : (p : Validated) (pools : List (List Cut)) → is_validated p ≡ true → PoolsFit p pools → Sound (problem_of p) pools → Under (problem_of p) (bound (problem_of p) pools)
bound_under p pools e fit sound = sound_bound (problem_of p) pools (root_shaped-validated p e) (have_cuts-root p pools e fit.some) sound

pub base_is_sound : (bytes : List ℕ) (p : Validated) (pools : List (List Cut)) (text : List ℕ) → is_validated p ≡ true → PoolsFit p pools → Sound (problem_of p) pools → text ≡ base_text p pools → IsSoundReport Base bytes p pools text
base_is_sound bytes p pools text e fit sound is = record { is = is; cuts = sound; bound = bound_under p pools e fit sound }

pub check_is_sound : (bytes : List ℕ) (p : Validated) (l : Loaded) (text : List ℕ) → is_validated p ≡ true → IsSafe p l → text ≡ check_text p l.pools.lists l.bounds l.unanswered l.tail → IsSoundReport Check bytes p l.pools.lists text
check_is_sound bytes p l text e safe is = record { is = (l.bounds, l.unanswered, l.tail, is, safe.under); cuts = safe.sound; bound = bound_under p l.pools.lists e safe.fit safe.sound }

-- the report of a task over a problem with its base cuts
report_is : {Start Chain : Type 0} (v : Solving Start Chain) (command : Command) (bytes kept : List ℕ) (b : WithBase) → based_at bytes ≡ Ok b → report_at v command bytes kept ≡ report_by v command bytes kept b
unfolding report_at
report_is v command bytes kept b is = ap (λ (r : Result WithBase Refusal). or_refused r >>= report_by v command bytes kept) is

module _ {Start Chain X : Type 0} (v : Solving Start Chain) (view : X → List ℕ) (r : Result X Status) where
  -- the report of base cuts
  pub base_reports : (command : Command) (told : Option (List ℕ)) (bytes : List ℕ) (b : WithBase) → command ≡ Base → based_at bytes ≡ Ok b → IfOk r (λ x. view x ≡ base_text b.problem b.pools) → IfOk r (λ x. Reports v command told bytes (Ok (view x)))
  base_reports command told bytes b t is h = subst (λ (k : Command). IfOk r (λ x. Reports v k told bytes (Ok (view x)))) (sym t) (each r h)
    where
      each : (s : Result X Status) → IfOk s (λ x. view x ≡ base_text b.problem b.pools) → IfOk s (λ x. Reports v Base told bytes (Ok (view x)))
      each (Ok x) e = λ kept reads. report_is v Base bytes kept b is ∙ ap (λ (x : List ℕ). Ok x) (sym e)
      each (Err s) e = tt

pub check_reports : {Start Chain : Type 0} (v : Solving Start Chain) (told : Option (List ℕ)) (bytes : List ℕ) (outcome : Result (List ℕ) Status) (b : WithBase) → based_at bytes ≡ Ok b → IfSome told (λ kept. checked bytes b kept ≡ outcome) → Reports v Check told bytes outcome
check_reports v told bytes outcome b is has = λ kept reads. report_is v Check bytes kept b is ∙ subst (λ (o : Option (List ℕ)). IfSome o (λ kept. checked bytes b kept ≡ outcome)) reads has

-- how the check of a journal ends without a report
pub check_lacks : {Start Chain X : Type 0} (v : Solving Start Chain) (view : X → List ℕ) (told : Option (List ℕ)) (disk disk_now : ℕ) (bytes : List ℕ) (b : WithBase) (f : LoadFault) → based_at bytes ≡ Ok b → DiskCause disk disk_now (let l : Result X LoadFault = Err f in l ≡ Err faults.DiskFault)
    → IfSome told (λ kept. Checks view (Err f) (checked bytes b kept)) → Lacks v Check told disk disk_now bytes (status_of_fault f)
check_lacks v view told disk disk_now bytes b (faults.Refused r) is cause has = (tt, check_reports v told bytes _ b is has)
check_lacks v view told disk disk_now bytes b (faults.TooMuch t) is cause has = (tt, check_reports v told bytes _ b is has)
check_lacks v view told disk disk_now bytes b faults.DiskFault is cause has = (tt, cause.failed refl)
check_lacks v view told disk disk_now bytes b faults.Memory is cause has = cause.otherwise (λ e. cc)

-- the report of base cuts is that of the task that asks for it
pub base_sounds : {X : Type 0} (view : X → List ℕ) (r : Result X Status) (command : Command) (bytes : List ℕ) (p : Validated) (pools : List (List Cut)) → command ≡ Base → IfOk r (λ x. IsSoundReport Base bytes p pools (view x)) → IfOk r (λ x. (cuts : List (List Cut)) × IsSoundReport command bytes p cuts (view x))
base_sounds view (Ok x) command bytes p pools is h = (pools, subst (λ (k : Command). IsSoundReport k bytes p pools (view x)) (sym is) h)
base_sounds view (Err s) command bytes p pools is h = tt
