-- The report of traces.
use Rattle.std.specs.Prelude.{ℕ, ◌<◌, ℤ, pos, List, [], ◌∷◌, ◌++◌, length, codes, All, Option, Some, None}
use Rattle.problem.specs.declared.parts.Decision.{Decision}
use Rattle.problem.specs.declared.parts.State.{State}
use Rattle.problem.specs.declared.parts.Subproblem.{Subproblem}
use Rattle.problem.specs.Validated.{Validated, subproblem_of}
use Rattle.base_num.specs.Texts.{json_string}
use Rattle.theory.specs.declared.cut.Cut.{Cut}
use Rattle.theory.specs.Bound.{bound}
use Rattle.theory.specs.View.{problem_of}
use Rattle.lp_program.specs.declared.programs.Kind.{Kind}
use Rattle.lp_program.specs.declared.programs.Kind.TheVariants.{Found, Ray, Stuck}
use Rattle.plan_forward.specs.declared.traces.Trace.{Trace}
use Rattle.plan_forward.specs.declared.traces.TraceStep.{TraceStep}
use Rattle.policy_report.specs.Lines.{numbered}
use Rattle.policy_report.specs.Report.{bound_line, head_text, word}

-- each step of a trace is at a node of the problem
abbrev pub AreTraceStepsKnown : Validated → Trace → Type 0
AreTraceStepsKnown p trace = All (λ (step : TraceStep). step.node < length p.parts.nodes) trace.steps

abbrev pub kind_word : Kind → List ℕ
kind_word Found = codes " found"
kind_word Ray = codes " ray"
kind_word Stuck = codes " stuck"

-- a line: a word, a name, and its number
abbrev pub named_line : List ℕ → List ℕ → ℤ → List ℕ
named_line what name z = what ++ json_string name ++ word z ++ codes "\n"

-- one line for each item with its number, as far as both lists go
abbrev pub named_lines : {A : Type 0} → List ℕ → (A → List ℕ) → List A → List ℤ → List ℕ
named_lines what name [] zs = []
named_lines what name (x ∷ xs) [] = []
named_lines what name (x ∷ xs) (z ∷ zs) = named_line what (name x) z ++ named_lines what name xs zs

abbrev pub in_lines : List State → List ℤ → List ℕ
in_lines states x = named_lines (codes "in ") (λ (s : State). s.name) states x

abbrev pub random_lines : List (List ℕ) → List ℤ → List ℕ
random_lines randoms values = named_lines (codes "random ") (λ name. name) randoms values

abbrev pub value_lines : List Decision → List ℤ → List ℕ
value_lines decisions u = named_lines (codes "value ") (λ (d : Decision). d.name) decisions u

-- the residual of the row i
abbrev pub row_line : ℕ → ℤ → List ℕ
row_line i r = codes "row" ++ word (pos i) ++ codes " residual" ++ word r ++ codes "\n"

-- the stage, the node and the kind of its answer
abbrev pub stage_line : ℕ → TraceStep → List ℕ
stage_line t s = codes "stage" ++ word (pos t) ++ codes " node" ++ word (pos s.node) ++ kind_word s.kind ++ codes "\n"

abbrev pub cost_line : ℤ → List ℕ
cost_line z = codes "cost" ++ word z ++ codes "\n"

-- the values and decisions of a step
abbrev pub own_lines : Option Subproblem → TraceStep → List ℕ
own_lines None s = []
own_lines (Some sub) s = random_lines sub.randoms s.values ++ value_lines sub.decisions s.decisions

-- the step of the stage t
unfoldable pub trace_step_text : Validated → ℕ → TraceStep → List ℕ
trace_step_text p t s = stage_line t s ++ in_lines p.parts.states s.state ++ own_lines (subproblem_of p s.node) s ++ numbered row_line 0 s.residuals ++ cost_line s.cost

abbrev pub scenario_line : ℕ → List ℕ
scenario_line i = codes "scenario" ++ word (pos i) ++ codes "\n"

abbrev pub end_line : ℤ → List ℕ
end_line total = codes "end" ++ word total ++ codes "\n"

-- the trace of the scenario i
unfoldable pub scenario_text : Validated → ℕ → Trace → List ℕ
scenario_text p i trace = scenario_line i ++ numbered (trace_step_text p) 0 trace.steps ++ end_line trace.cost

-- the report of traces: each of them, and the bound over the pools
unfoldable pub trace_text : Validated → List (List Cut) → List Trace → List ℕ
trace_text p pools traces = head_text p.parts ++ numbered (scenario_text p) 0 traces ++ bound_line (bound (problem_of p) pools)
