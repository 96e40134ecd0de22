-- Traces: the decisions along runs, their residuals, and their costs.
use Rattle.std.specs.Prelude.{ℕ, suc, ◌<◌, ℤ, pos, ◌+ℤ◌, List, [], ◌∷◌, ◌++◌, length, All, Result, Ok}
use Rattle.base_num.specs.Steps.{◌>>=◌}
use Rattle.problem.specs.declared.parts.Moment.{Moment}
use Rattle.problem.specs.Validated.{Validated}
use Rattle.theory.specs.declared.cut.Cut.{Cut}
use Rattle.theory.specs.Problem.{S, node_at}
use Rattle.theory.specs.Tree.{times_all}
use Rattle.theory.specs.View.{problem_of}
use Rattle.plan_answer.specs.declared.classifying.Infeasibility.{Infeasibility}
use Rattle.lp_program.specs.Solving.{Solving}
use Rattle.plan_forward.specs.declared.deciding.Decided.{Decided}
use Rattle.plan_forward.specs.declared.traces.Trace.{Trace}
use Rattle.plan_forward.specs.declared.traces.TraceStep.{TraceStep}
use Rattle.plan_forward.specs.Costing.{residuals_of, stage_cost_of}
use Rattle.plan_mend.specs.Deciding.{decide_mended_of}

-- the decisions at a moment, at the state that came into it, with all residuals and the cost
abbrev pub traced : Validated → Moment → List ℤ → Decided → TraceStep
traced p m state d = record {
  node = m.node;
  kind = d.kind;
  state = state;
  values = m.values;
  decisions = d.decisions;
  residuals = residuals_of (node_at (problem_of p) m.node) d.decisions state m.values;
  cost = stage_cost_of (node_at (problem_of p) m.node) d.decisions state m.values;
}

abbrev pub no_trace : Trace
no_trace = record { steps = []; cost = pos 0 }

-- with one step more
abbrev pub longer : Trace → TraceStep → Trace
longer trace step = record { steps = trace.steps ++ step ∷ []; cost = trace.cost +ℤ step.cost }

-- one moment: the trace with its step, and the state that leaves its node
abbrev pub traced_step_on : Validated → (Moment → List ℤ → Result Decided Infeasibility) → Trace → List ℤ → Moment → Result (Trace × List ℤ) Infeasibility
traced_step_on p decide trace state m = decide m state >>= λ d. Ok (longer trace (traced p m state d), d.next)

-- a trace that has come to this state goes on through these moments; it stops where no decisions exist
abbrev pub trace_on : Validated → (Moment → List ℤ → Result Decided Infeasibility) → Trace → List ℤ → List Moment → Result Trace Infeasibility
trace_on p decide trace state [] = Ok trace
trace_on p decide trace state (m ∷ ms) = traced_step_on p decide trace state m >>= λ after. trace_on p decide after.0 after.1 ms

-- the decisions at a moment, mended where a point was found
abbrev pub decide_at : {Start Chain : Type 0} → Solving Start Chain → Validated → List (List Cut) → ℕ → Moment → List ℤ → Result Decided Infeasibility
decide_at v p pools run m state = decide_mended_of v p pools run m.node m.values state

-- the trace of the run with this number, from the initial state; all of it over the same pools
unfoldable pub trace_of : {Start Chain : Type 0} → Solving Start Chain → Validated → List (List Cut) → ℕ → List Moment → Result Trace Infeasibility
trace_of v p pools run moments = trace_on p (decide_at v p pools run) no_trace (times_all S (problem_of p).initial) moments

-- the traces of these runs, with the numbers from i on, behind those that were found
abbrev pub traces_on : (ℕ → List Moment → Result Trace Infeasibility) → List Trace → ℕ → List (List Moment) → Result (List Trace) Infeasibility
traces_on trace found i [] = Ok found
traces_on trace found i (run ∷ runs) = trace i run >>= λ t. traces_on trace (found ++ t ∷ []) (suc i) runs

-- Traces: the trace of each run, in order, or the first infeasibility, which carries the number of its run
abbrev pub traces_of : {Start Chain : Type 0} → Solving Start Chain → Validated → List (List Cut) → List (List Moment) → Result (List Trace) Infeasibility
traces_of v p pools runs = traces_on (trace_of v p pools) [] 0 runs

-- each step is at a node of the problem
abbrev pub AreKnown : Validated → Trace → Type 0
AreKnown p trace = All (λ (step : TraceStep). step.node < length p.parts.nodes) trace.steps
