-- The traces of runs, as a loop makes them.
use Rattle.std.proofs.Common.{◌≡◌, ◌∙◌, ℕ, suc, ◌+◌, ◌-◌, ◌<◌, ◌≤◌, List, [], ◌∷◌, ◌++◌, All, Result, Ok, Err, refl, sym, ap, subst, arith}
use Rattle.std.proofs.lemmas.List.Elements.{All-append, All-cons, All-nil}
use Rattle.problem.specs.declared.parts.Moment.{Moment}
use Rattle.problem.specs.Validated.{Validated}
use Rattle.plan_answer.specs.declared.classifying.Infeasibility.{Infeasibility}
use Rattle.plan_forward.specs.declared.traces.Trace.{Trace}
use Rattle.policy_simulate.specs.Runs.{drawn, drawn_from}
use Rattle.policy_simulate.specs.Tracing.{AreKnown, traces_on}

-- of runs of which this is the first
module _ (trace : ℕ → List Moment → Result Trace Infeasibility) (found : List Trace) (i : ℕ) (run : List Moment) (runs tail : List (List Moment)) (whole : Result (List Trace) Infeasibility) (left : runs ≡ run ∷ tail) (so_far : traces_on trace found i runs ≡ whole) where
  pub one_more : (t : Trace) (new : List Trace) → trace i run ≡ Ok t → new ≡ found ++ t ∷ [] → traces_on trace new (i + 1) tail ≡ whole
  one_more t new e is = ap (λ (ts : List Trace). traces_on trace ts (i + 1) tail) is ∙ ap (λ (k : ℕ). traces_on trace (found ++ t ∷ []) k tail) (omega arith) ∙ go t e ∙ ap (λ (rs : List (List Moment)). traces_on trace found i rs) (sym left) ∙ so_far
    where
      go : (t : Trace) → trace i run ≡ Ok t → traces_on trace (found ++ t ∷ []) (suc i) tail ≡ traces_on trace found i (run ∷ tail)
      go t e = rw e refl

  pub one_stops : (d : Infeasibility) → trace i run ≡ Err d → whole ≡ Err d
  one_stops d e = sym so_far ∙ ap (λ (rs : List (List Moment)). traces_on trace found i rs) left ∙ go d e
    where
      go : (d : Infeasibility) → trace i run ≡ Err d → traces_on trace found i (run ∷ tail) ≡ Err d
      go d e = rw e refl

-- the drawn runs from one on
pub next_drawn : (p : Validated) (seed i count : ℕ) → i < count → drawn_from p seed i (count - i) ≡ drawn p seed i ∷ drawn_from p seed (i + 1) (count - (i + 1))
next_drawn p seed i count h =
    let e : count - i ≡ suc (count - (i + 1)) = omega arith in
    let f : i + 1 ≡ suc i = omega arith in
    ap (λ (n : ℕ). drawn_from p seed i n) e ∙ ap (λ (k : ℕ). drawn p seed i ∷ drawn_from p seed k (count - (i + 1))) (sym f)

pub none_drawn : (p : Validated) (seed i count : ℕ) → count ≤ i → drawn_from p seed i (count - i) ≡ []
none_drawn p seed i count h =
    let e : count - i ≡ 0 = omega arith in
    ap (λ (n : ℕ). drawn_from p seed i n) e

-- each trace is at nodes of the problem
pub all_known : (p : Validated) (found : List Trace) (t : Trace) (new : List Trace) → All (AreKnown p) found → AreKnown p t → new ≡ found ++ t ∷ [] → All (AreKnown p) new
all_known p found t new h known is = subst (λ (ts : List Trace). All (AreKnown p) ts) (sym is) (All-append (AreKnown p) found (t ∷ []) h (All-cons (AreKnown p) t [] known (All-nil (AreKnown p))))
