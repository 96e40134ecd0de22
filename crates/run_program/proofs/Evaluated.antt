-- The report of a verdict is the one that is defined, or there is a reason why there is none.
use Rattle.std.proofs.Common.{◌≡◌, ◌∙◌, ℕ, ◌≤ℤ◌, true, List, Option, IfSome, Result, Ok, sym, ap}
use Rattle.sha2.specs.Sha256.{sha256}
use Rattle.read_json.specs.Steps.{◌>>=◌}
use Rattle.problem.specs.Validated.{Validated, is_validated}
use Rattle.theory.specs.declared.cut.Cut.{Cut}
use Rattle.theory.specs.Bound.{bound}
use Rattle.theory.specs.Pools.{Sound}
use Rattle.theory.specs.Problem.{S}
use Rattle.theory.specs.Tree.{Forest, Policy}
use Rattle.theory.specs.View.{problem_of}
use Rattle.cut_pool.specs.AtNodes.{PoolsFit}
use Rattle.journal_load.specs.Load.{Outcome}
use Rattle.lp_program.specs.Solving.{Solving}
use Rattle.plan_answer.specs.declared.plan_fault.PlanFault.{PlanFault}
use Rattle.plan_answer.specs.Faults.{FailsAsRefuted}
use Rattle.policy_evaluate.specs.declared.walking.Verdict.{Verdict}
use Rattle.policy_evaluate.specs.declared.walking.Verdict.TheVariants.{Cost, Missed}
use Rattle.policy_evaluate.specs.PolicyTree.{verdict_of}
use Rattle.policy_evaluate.specs.Report.{verdict_text}
use Rattle.policy_evaluate.specs.TooBig.{too_big_of}
use Rattle.policy_evaluate.specs.Upper.{IsLeastUpper}
use Rattle.policy_evaluate.specs.Verdicts.{OnCost}
use Rattle.run_program.specs.Causes.{Lacks}
use Rattle.run_program.specs.Outcome.{Reports, WithBase, based_at, evaluated_for, loaded_within, or_refused, report_at, report_by, report_classified, status_of_plan}
use Rattle.run_program.specs.SoundText.{IsSoundReport, IsTwoSided}
use Rattle.run_program.specs.declared.status.Status.{Status}
use Rattle.run_words.specs.declared.command.Command.TheVariants.{Evaluate}
use Rattle.run_program.proofs.Checks.{bound_under}
use Rattle.run_program.proofs.Loaded.{GoesOn, gone_on, not_decided}
use Rattle.run_program.proofs.RefutedVerdict.{verdict_located}

two_sided : (p : Validated) (pools : List (List Cut)) (verdict : Verdict) → Sound (problem_of p) pools
    → (let r : Result Verdict PlanFault = Ok verdict in OnCost r (λ upper. (f : Forest) × Policy (problem_of p) S f × IsLeastUpper (problem_of p) f upper × (Sound (problem_of p) pools → bound (problem_of p) pools ≤ℤ upper)))
    → IsTwoSided (problem_of p) pools verdict
two_sided p pools (Cost upper) sound h = record { forest = h.0; policy = h.1; cost = h.2; bound = h.3 sound }
two_sided p pools (Missed branches row residual) sound h = tt

pub verdict_sound : (bytes : List ℕ) (p : Validated) (pools : List (List Cut)) (verdict : Verdict) (text : List ℕ) → is_validated p ≡ true → PoolsFit p pools → Sound (problem_of p) pools
    → (let r : Result Verdict PlanFault = Ok verdict in OnCost r (λ upper. (f : Forest) × Policy (problem_of p) S f × IsLeastUpper (problem_of p) f upper × (Sound (problem_of p) pools → bound (problem_of p) pools ≤ℤ upper)))
    → text ≡ verdict_text p pools verdict → IsSoundReport Evaluate bytes p pools text
verdict_sound bytes p pools verdict text e fit sound sides is = record {
  is = (verdict, is, two_sided p pools verdict sound sides);
  cuts = sound;
  bound = bound_under p pools e fit sound;
}

module _ {Start Chain : Type 0} (v : Solving Start Chain) (bytes : List ℕ) (b : WithBase) where
  -- the verdict over what was loaded
  abbrev pub classify : Outcome → Result (List ℕ) Status
  classify o = report_classified b.problem o.pools (verdict_of v b.problem o.pools)

  by_task : based_at bytes ≡ Ok b → (kept : List ℕ) → report_at v Evaluate bytes kept ≡ (loaded_within b.problem b.pools (sha256 bytes) (too_big_of b.problem) kept >>= classify)
  unfolding report_at evaluated_for
  by_task based kept = ap (λ r. or_refused r >>= report_by v Evaluate bytes kept) based

  pub classifies : based_at bytes ≡ Ok b → GoesOn v Evaluate bytes b (too_big_of b.problem) classify
  classifies based = record { based = based; reads = tt; solves = tt; told = λ told kept reads. reads; is = by_task based }

  module _ (told : Option (List ℕ)) (based : based_at bytes ≡ Ok b) (o : Outcome) (has : IfSome told (λ kept. loaded_within b.problem b.pools (sha256 bytes) (too_big_of b.problem) kept ≡ Ok o)) where
    -- the verdict over what was loaded
    pub verdict_reported : (verdict : Verdict) (text : List ℕ) → verdict_of v b.problem o.pools ≡ Ok verdict → text ≡ verdict_text b.problem o.pools verdict → Reports v Evaluate told bytes (Ok text)
    verdict_reported verdict text e is = gone_on v Evaluate told bytes b (too_big_of b.problem) classify (classifies based) o (Ok text) has (ap (report_classified b.problem o.pools) e ∙ ap (λ (x : List ℕ). Ok x) (sym is))

    -- a node without decisions
    pub not_classified : (disk disk_now : ℕ) (f : PlanFault) → FailsAsRefuted f (verdict_of v b.problem o.pools) → is_validated b.problem ≡ true → disk_now ≡ disk → Lacks v Evaluate told disk disk_now bytes (status_of_plan f)
    not_classified disk disk_now f fails validated stayed =
        not_decided v Evaluate told bytes b (too_big_of b.problem) classify (classifies based) disk disk_now o f (verdict_of v b.problem o.pools) has (λ infeasible e. ap (report_classified b.problem o.pools) e) fails (verdict_located v b.problem validated o.pools) stayed
