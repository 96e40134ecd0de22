-- The contracts of code that plans and may stop: what a fault says of the computation that is defined.
use Rattle.std.specs.Prelude.{◌≡◌, Result, Ok, Err}
use Rattle.base_num.specs.Steps.{GivesOr}
use Rattle.problem.specs.Validated.{Validated}
use Rattle.theory.specs.Problem.{node_at}
use Rattle.theory.specs.View.{problem_of}
use Rattle.plan_answer.specs.declared.classifying.Infeasibility.{Infeasibility}
use Rattle.plan_answer.specs.declared.plan_fault.PlanFault.{PlanFault}
use Rattle.plan_answer.specs.declared.plan_fault.PlanFault.TheVariants.{Infeasible, Range, DiskFault, Memory}
use Rattle.plan_answer.specs.Farkas.{NoDecision}

-- of steps that stop at an infeasibility or a range: the fault is theirs; want of memory is free
abbrev pub Stops : {A : Type 0} → PlanFault → Result A PlanFault → Type 0
Stops (Infeasible infeasible) steps = steps ≡ Err (Infeasible infeasible)
Stops (Range k m r) steps = steps ≡ Err (Range k m r)
Stops DiskFault steps = ⊥
Stops Memory steps = Unit {0}

-- of what stops at an infeasibility alone: it is the one that was defined; want of memory is free
abbrev pub FailsAsRefuted : {A : Type 0} → PlanFault → Result A Infeasibility → Type 0
FailsAsRefuted (Infeasible infeasible) defined = defined ≡ Err infeasible
FailsAsRefuted (Range k m r) defined = ⊥
FailsAsRefuted DiskFault defined = ⊥
FailsAsRefuted Memory defined = Unit {0}

-- the visible part of an answer is the defined one, or the infeasibility is
abbrev pub GivesSeen : {A B : Type 0} → (A → B) → Result A PlanFault → Result B Infeasibility → Type 0
GivesSeen view result defined = GivesOr FailsAsRefuted view result defined

-- the answer is the defined one, or the infeasibility is
abbrev pub GivesOrRefutes : {A : Type 0} → Result A PlanFault → Result A Infeasibility → Type 0
GivesOrRefutes result defined = GivesSeen (λ x. x) result defined

-- a property of an infeasibility
abbrev pub OnNoStage : {A : Type 0} → Result A PlanFault → (Infeasibility → Type 0) → Type 0
OnNoStage (Ok x) P = Unit {0}
OnNoStage (Err (Infeasible infeasible)) P = P infeasible
OnNoStage (Err (Range k m r)) P = Unit {0}
OnNoStage (Err DiskFault) P = Unit {0}
OnNoStage (Err Memory) P = Unit {0}

-- no decisions exist at the node, the values and the state of an infeasibility
abbrev pub Refutes : Validated → Infeasibility → Type 0
Refutes p infeasible = NoDecision (node_at (problem_of p) infeasible.node) infeasible.values infeasible.state

-- where a fault is an infeasibility, no decisions exist there
abbrev pub IsInfeasible : Validated → PlanFault → Type 0
IsInfeasible p (Infeasible infeasible) = NoDecision (node_at (problem_of p) infeasible.node) infeasible.values infeasible.state
IsInfeasible p (Range k m r) = Unit {0}
IsInfeasible p DiskFault = Unit {0}
IsInfeasible p Memory = Unit {0}

-- the steps that stop as an infeasibility does
abbrev pub or_infeasible : {A : Type 0} → Result A Infeasibility → Result A PlanFault
or_infeasible (Ok x) = Ok x
or_infeasible (Err infeasible) = Err (Infeasible infeasible)
