-- The contracts of code that walks through the tree and may run out of memory.
use Rattle.std.specs.Prelude.{◌≡◌, ℤ, reverse, Result, Ok, Err}
use Rattle.base_num.specs.Steps.{GivesOr}
use Rattle.plan_answer.specs.declared.classifying.Infeasibility.{Infeasibility}
use Rattle.plan_answer.specs.declared.plan_fault.PlanFault.{PlanFault}
use Rattle.plan_answer.specs.declared.plan_fault.PlanFault.TheVariants as plans
use Rattle.policy_evaluate.specs.PolicyTree.{Stop, infeasible, missed}
use Rattle.policy_evaluate.specs.Upper.{ceiling_over}
use Rattle.policy_evaluate.specs.declared.costs.Walked.{Walked}
use Rattle.policy_evaluate.specs.declared.walking.Verdict.{Verdict}
use Rattle.policy_evaluate.specs.declared.walking.Verdict.TheVariants as verdicts
use Rattle.policy_evaluate.specs.declared.walking.Fault.{Fault}
use Rattle.policy_evaluate.specs.declared.walking.Fault.TheVariants as faults

-- the stop that was defined; want of memory is free
abbrev pub VerdictStops : {A : Type 0} → Fault → Result A Stop → Type 0
VerdictStops (faults.Missed m) defined = defined ≡ Err (missed m)
VerdictStops (faults.Stopped (plans.Infeasible d)) defined = defined ≡ Err (infeasible d)
VerdictStops (faults.Stopped (plans.Range k m r)) defined = ⊥
VerdictStops (faults.Stopped plans.DiskFault) defined = ⊥
VerdictStops (faults.Stopped plans.Memory) defined = Unit {0}

-- the definition's answer, or its stop
abbrev pub GivesWalk : {A : Type 0} → Result A Fault → Result A Stop → Type 0
GivesWalk result defined = GivesOr VerdictStops (λ x. x) result defined

-- a property of an infeasibility
abbrev pub OnInfeasible : {A : Type 0} → Result A Fault → (Infeasibility → Type 0) → Type 0
OnInfeasible (Ok x) P = Unit {0}
OnInfeasible (Err (faults.Missed m)) P = Unit {0}
OnInfeasible (Err (faults.Stopped (plans.Infeasible d))) P = P d
OnInfeasible (Err (faults.Stopped (plans.Range k m r))) P = Unit {0}
OnInfeasible (Err (faults.Stopped plans.DiskFault)) P = Unit {0}
OnInfeasible (Err (faults.Stopped plans.Memory)) P = Unit {0}

-- the cost over its denominator, rounded up; or the branches from the root to the one that misses a row
abbrev pub rounded_verdict : Result Walked Stop → Result Verdict Infeasibility
rounded_verdict (Ok w) = Ok (verdicts.Cost (ceiling_over w.up w.under))
rounded_verdict (Err (infeasible d)) = Err d
rounded_verdict (Err (missed m)) = Ok (verdicts.Missed (reverse m.branches) m.row m.residual)

-- a property of the cost of a policy from above
abbrev pub OnCost : Result Verdict PlanFault → (ℤ → Type 0) → Type 0
OnCost (Ok (verdicts.Cost upper)) P = P upper
OnCost (Ok (verdicts.Missed branches row residual)) P = Unit {0}
OnCost (Err fault) P = Unit {0}
