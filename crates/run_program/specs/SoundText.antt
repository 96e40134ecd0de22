-- Defines when the text of a report is sound, without the solver and without training.
use Rattle.std.specs.Prelude.{◌≡◌, ℕ, ℤ, ◌≤ℤ◌, List, All, Ok, ⊤}
use Rattle.problem.specs.Validated.{Validated}
use Rattle.read_file.specs.Problem.{problem_at}
use Rattle.theory.specs.declared.cut.Cut.{Cut}
use Rattle.theory.specs.Pools.{Sound}
use Rattle.theory.specs.Bound.{bound, Under}
use Rattle.theory.specs.Problem.{S, Problem}
use Rattle.theory.specs.Tree.{Forest, Policy}
use Rattle.theory.specs.View.{problem_of}
use Rattle.plan_forward.specs.declared.traces.Trace.{Trace}
use Rattle.policy_report.specs.Report.{base_text, check_text, train_text}
use Rattle.policy_report.specs.SoundLines.{Lines, claims_of}
use Rattle.policy_report.specs.Traces.{trace_text}
use Rattle.policy_evaluate.specs.declared.walking.Verdict.{Verdict}
use Rattle.policy_evaluate.specs.declared.walking.Verdict.TheVariants.{Cost, Missed}
use Rattle.policy_evaluate.specs.Report.{verdict_text}
use Rattle.policy_evaluate.specs.Upper.{IsLeastUpper}
use Rattle.policy_robust.specs.declared.alternatives.Alternatives.{Alternatives}
use Rattle.policy_robust.specs.Alternatives.{alternatives_of}
use Rattle.policy_robust.specs.RiskCost.{RiskHolds, RiskSound, RiskUnder}
use Rattle.policy_robust.specs.Report.{robust_text}
use Rattle.run_words.specs.declared.command.Command.{Command}
use Rattle.run_words.specs.Traits.{Report, no_report, of_base_cuts, of_drawn_scenarios, of_journal, of_policy, of_risk_cuts, of_stored_scenarios, of_training, traits}

-- each risk cut holds, and the bound over them is under the cost of each policy, where each node weighs by the worst of its lists
pub record IsWorst (p : Problem) (x : Alternatives) (risk_cuts : List (List Cut)) : Type 0 where
  pub holds : RiskSound p x.lists risk_cuts
  pub under : RiskUnder p x.lists (bound p risk_cuts)

-- a policy costs this much, rounded up once to the scale of states, and the bound over the pools is not above it
pub record CostsAtMost (p : Problem) (pools : List (List Cut)) (upper : ℤ) : Type 0 where
  pub forest : Forest
  pub policy : Policy p S forest
  pub cost : IsLeastUpper p forest upper
  pub bound : bound p pools ≤ℤ upper

-- the claim of a verdict over the bound
abbrev pub IsTwoSided : Problem → List (List Cut) → Verdict → Type 0
IsTwoSided p pools (Cost upper) = CostsAtMost p pools upper
IsTwoSided p pools (Missed branches row residual) = ⊤

-- the text is a report of these pools
abbrev pub IsReportOf : Report → List ℕ → Validated → List (List Cut) → List ℕ → Type 0
IsReportOf of_base_cuts bytes p pools text = text ≡ base_text p pools
IsReportOf (of_training numbers) bytes p pools text = (bounds : List ℤ) × (unanswered : ℕ) × (text ≡ train_text p pools bounds unanswered) × All (Under (problem_of p)) bounds
IsReportOf of_journal bytes p pools text = (bounds : List ℤ) × (unanswered : ℕ) × (tail : ℕ) × (text ≡ check_text p pools bounds unanswered tail) × All (Under (problem_of p)) bounds
IsReportOf (of_drawn_scenarios seed count) bytes p pools text = (traces : List Trace) × (text ≡ trace_text p pools traces)
IsReportOf of_stored_scenarios bytes p pools text = (traces : List Trace) × (text ≡ trace_text p pools traces)
IsReportOf of_policy bytes p pools text = (verdict : Verdict) × (text ≡ verdict_text p pools verdict) × IsTwoSided (problem_of p) pools verdict
IsReportOf of_risk_cuts bytes p pools text = (x : Alternatives) × (risk_cuts : List (List Cut)) × (alternatives_of p bytes ≡ Ok x) × (text ≡ robust_text p risk_cuts) × IsWorst (problem_of p) x risk_cuts
IsReportOf no_report bytes p pools text = ⊥

-- the text is the report of a command over these pools; a command that does not plan has none
abbrev pub IsReport : Command → List ℕ → Validated → List (List Cut) → List ℕ → Type 0
IsReport command bytes p pools text = IsReportOf (traits command).report bytes p pools text

-- the text is the report of pools whose cuts hold, and whose bound is under the cost of each policy
pub record IsSoundReport (command : Command) (bytes : List ℕ) (p : Validated) (pools : List (List Cut)) (text : List ℕ) : Type 0 where
  pub is : IsReport command bytes p pools text
  pub cuts : Sound (problem_of p) pools
  pub bound : Under (problem_of p) (bound (problem_of p) pools)

-- a risk cut holds, and a number is under the cost of each policy, where each node weighs by the worst of its lists, which the bytes bring
abbrev pub RiskCutHolds : List ℕ → Validated → ℕ → Cut → Type 0
RiskCutHolds bytes p m c = (x : Alternatives) × (alternatives_of p bytes ≡ Ok x) × RiskHolds (problem_of p) x.lists m c

abbrev pub WorstHolds : List ℕ → Validated → ℤ → Type 0
WorstHolds bytes p b = (x : Alternatives) × (alternatives_of p bytes ≡ Ok x) × RiskUnder (problem_of p) x.lists b

-- The text is a report of the problem that the bytes give, and each line of it is sound: a line of a cut is of one that holds at its node,
-- the number in a line of a bound or of an iteration is under the cost of each policy, one behind `upper` above that of some, and risk cuts
-- and worst bounds hold for the lists of weights. So are the cuts and the bound of the pools that it is the report of.
pub record SoundText (command : Command) (bytes text : List ℕ) : Type 0 where
  pub problem : Validated
  pub pools : List (List Cut)
  pub read : problem_at bytes ≡ Ok problem
  pub is : IsReport command bytes problem pools text
  pub cuts : Sound (problem_of problem) pools
  pub bound : Under (problem_of problem) (bound (problem_of problem) pools)
  pub lines : Lines (claims_of (problem_of problem) (RiskCutHolds bytes problem) (WorstHolds bytes problem)) text
