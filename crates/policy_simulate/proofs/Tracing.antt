-- A trace as a loop makes it, and the properties of one step.
use Rattle.std.proofs.Common.{◌≡◌, ◌∙◌, ℕ, ◌+◌, ◌<◌, ◌≤◌, ℤ, List, [], ◌∷◌, length, get_or, drop, drop_of_length-le, All, Result, Ok, Err, refl, sym, ap, subst}
use Rattle.std.proofs.lemmas.List.{drop_more}
use Rattle.std.proofs.lemmas.List.Elements.{All-nil, All-cons, All-append}
use Rattle.problem.specs.declared.parts.Moment.{Moment}
use Rattle.problem.specs.Validated.{Validated}
use Rattle.plan_answer.specs.declared.classifying.Infeasibility.{Infeasibility}
use Rattle.plan_forward.specs.declared.deciding.Decided.{Decided}
use Rattle.plan_forward.specs.declared.traces.Trace.{Trace}
use Rattle.plan_forward.specs.declared.traces.TraceStep.{TraceStep}
use Rattle.policy_simulate.specs.Tracing.{AreKnown, longer, traced_step_on, trace_on, traced}

-- one step on what is decided there
pub stepped : (p : Validated) (decide : Moment → List ℤ → Result Decided Infeasibility) (trace : Trace) (state : List ℤ) (m : Moment) (d : Decided) → decide m state ≡ Ok d → traced_step_on p decide trace state m ≡ Ok (longer trace (traced p m state d), d.next)
stepped p decide trace state m d e = rw e refl

pub stuck : (p : Validated) (decide : Moment → List ℤ → Result Decided Infeasibility) (trace : Trace) (state : List ℤ) (m : Moment) (d : Infeasibility) → decide m state ≡ Err d → traced_step_on p decide trace state m ≡ Err d
stuck p decide trace state m d e = rw e refl

-- a trace as a loop makes it
module _ (p : Validated) (decide : Moment → List ℤ → Result Decided Infeasibility) (run : List Moment) (i : ℕ) (d : Moment) (trace : Trace) (state : List ℤ) (whole : Result Trace Infeasibility) (inside : i < length run) (so_far : trace_on p decide trace state (drop i run) ≡ whole) where
  left : drop i run ≡ get_or run i d ∷ drop (i + 1) run
  left = drop_more run i d inside

  pub goes_on : (after : Trace) (next : List ℤ) → traced_step_on p decide trace state (get_or run i d) ≡ Ok (after, next) → trace_on p decide after next (drop (i + 1) run) ≡ whole
  goes_on after next e = go after next e ∙ ap (λ (ms : List Moment). trace_on p decide trace state ms) (sym left) ∙ so_far
    where
      go : (after : Trace) (next : List ℤ) → traced_step_on p decide trace state (get_or run i d) ≡ Ok (after, next) → trace_on p decide after next (drop (i + 1) run) ≡ trace_on p decide trace state (get_or run i d ∷ drop (i + 1) run)
      go after next e = rw e refl

  pub stops : (infeasible : Infeasibility) → traced_step_on p decide trace state (get_or run i d) ≡ Err infeasible → whole ≡ Err infeasible
  stops infeasible e = sym so_far ∙ ap (λ (ms : List Moment). trace_on p decide trace state ms) left ∙ go infeasible e
    where
      go : (infeasible : Infeasibility) → traced_step_on p decide trace state (get_or run i d) ≡ Err infeasible → trace_on p decide trace state (get_or run i d ∷ drop (i + 1) run) ≡ Err infeasible
      go infeasible e = rw e refl

pub ends : (p : Validated) (decide : Moment → List ℤ → Result Decided Infeasibility) (run : List Moment) (i : ℕ) (trace : Trace) (state : List ℤ) (whole : Result Trace Infeasibility) → length run ≤ i → trace_on p decide trace state (drop i run) ≡ whole → whole ≡ Ok trace
ends p decide run i trace state whole past so_far = sym so_far ∙ ap (λ (ms : List Moment). trace_on p decide trace state ms) (drop_of_length-le run past)

-- each step is at a node of the problem
abbrev is_known : Validated → TraceStep → Type 0
is_known p step = step.node < length p.parts.nodes

pub known_none : (p : Validated) (steps : List TraceStep) → steps ≡ [] → All (λ (step : TraceStep). step.node < length p.parts.nodes) steps
known_none p steps e = subst (λ (ss : List TraceStep). All (is_known p) ss) (sym e) (All-nil (is_known p))

known_more : (p : Validated) (trace : Trace) (step : TraceStep) → step.node < length p.parts.nodes → AreKnown p trace → AreKnown p (longer trace step)
known_more p trace step known h = All-append (is_known p) trace.steps (step ∷ []) h (All-cons (is_known p) step [] known (All-nil (is_known p)))

abbrev trace_in : Trace → Result (Trace × List ℤ) Infeasibility → Trace
trace_in x (Ok q) = q.0
trace_in x (Err d) = x

step_same : (x y : Trace) (a b : List ℤ) (r : Result (Trace × List ℤ) Infeasibility) → r ≡ Ok (x, a) → r ≡ Ok (y, b) → x ≡ y
step_same x y a b r e f = ap (trace_in x) (sym e ∙ f)

no_step : (x : Trace) (a : List ℤ) (d : Infeasibility) (r : Result (Trace × List ℤ) Infeasibility) → r ≡ Err d → r ≡ Ok (x, a) → ⊥
no_step x a d r e f = cc

-- and so is one that is taken at a known node
pub known_step : (p : Validated) (decide : Moment → List ℤ → Result Decided Infeasibility) (trace : Trace) (state : List ℤ) (m : Moment) (after : Trace) (next : List ℤ) → m.node < length p.parts.nodes → traced_step_on p decide trace state m ≡ Ok (after, next) → AreKnown p trace → AreKnown p after
known_step p decide trace state m after next known e h = by (decide m state) refl
  where
    by : (r : Result Decided Infeasibility) → decide m state ≡ r → AreKnown p after
    by (Ok d) is = subst (AreKnown p) (step_same (longer trace (traced p m state d)) after d.next next (traced_step_on p decide trace state m) (stepped p decide trace state m d is) e) (known_more p trace (traced p m state d) known h)
    by (Err d) is = absurd (no_step after next d (traced_step_on p decide trace state m) (stuck p decide trace state m d is) e)
