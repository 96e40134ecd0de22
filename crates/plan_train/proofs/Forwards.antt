-- Steps that are taken in order, of which each may refuse.
use Rattle.std.proofs.Common.{◌≡◌, ℕ, zero, suc, ◌+◌, ◌<◌, ◌≤◌, List, [], ◌∷◌, length, drop, get_or, zip, Result, Ok, Err, sym, ap, ap₂, subst, ◌∙◌, arith}
use Rattle.std.proofs.lemmas.List.{drop_more, drop_all}
use Rattle.base_num.specs.Steps.{◌>>=◌}
use Rattle.problem.specs.Validated.{Validated}
use Rattle.theory.specs.declared.cut.Cut.{Cut}
use Rattle.cut_pool.specs.declared.entry.Entry.{Entry}
use Rattle.lp_program.specs.Solving.{Solving}
use Rattle.plan_draw.specs.declared.steps.PathStep.{PathStep}
use Rattle.plan_draw.specs.declared.steps.Trajectory.{Trajectory}
use Rattle.plan_forward.specs.Walking.{IsWalk, AreWalks}
use Rattle.plan_answer.specs.declared.plan_fault.PlanFault.{PlanFault}
use Rattle.plan_answer.specs.declared.plan_fault.PlanFault.TheVariants.{Infeasible, Range, DiskFault, Memory}
use Rattle.plan_answer.specs.declared.classifying.Infeasibility.{Infeasibility}
use Rattle.plan_answer.specs.Faults.{FailsAsRefuted, IsInfeasible, OnNoStage, Refutes, Stops, or_infeasible}
use Rattle.plan_train.specs.Drawing.{paths_from, first_stream}
use Rattle.plan_train.specs.Stepping.{forwards, with_path, with_walks, along, training_step, seen_stepped, Stepped}

-- a pair of items stands at their number in the pairs
pub pair_at : {A B : Type 0} (xs : List A) (ys : List B) (i : ℕ) (x : A) (y : B) → i < length xs → i < length ys → x ≡ get_or xs i x → y ≡ get_or ys i y → (i < length (zip xs ys)) × ((x, y) ≡ get_or (zip xs ys) i (x, y))
pair_at [] ys i x y h k e f = absurd (omega arith)
pair_at (a ∷ tail) [] i x y h k e f = absurd (omega arith)
pair_at (a ∷ tail) (b ∷ bs) zero x y h k e f = (omega arith, ap₂ (λ (u : _) (v : _). (u, v)) e f)
pair_at (a ∷ tail) (b ∷ bs) (suc i) x y h k e f =
    let after = pair_at tail bs i x y (omega arith) (omega arith) e f in
    (omega (arith, after.0), after.1)

-- the walk along a path of the batch
pub walk_at : (p : Validated) (paths : List (List PathStep)) (walks : List Trajectory) (i : ℕ) (path : List PathStep) (walk : Trajectory) → AreWalks p paths walks → i < length paths → path ≡ get_or paths i path → walk ≡ get_or walks i walk → IsWalk p path walk
walk_at p paths walks i path walk w h e f =
    let at = pair_at paths walks i path walk h (omega (arith, w.count)) e f in
    subst (λ (q : List PathStep × Trajectory). IsWalk p q.0 q.1) (sym at.1) (w.each i (path, walk) at.0)

module _ {A B E : Type 0} (step : B → A → Result B E) (zs : List A) (i : ℕ) (found : B) (whole : Result B E) (inv : forwards step (drop i zs) found ≡ whole) where
  next_step : (z : A) → i < length zs → z ≡ get_or zs i z → (step found z >>= forwards step (drop (i + 1) zs)) ≡ whole
  next_step z h e = sym (ap (λ (xs : List A). forwards step xs found) (drop_more zs i z h ∙ ap (λ (x : A). x ∷ drop (i + 1) zs) (sym e))) ∙ inv

  -- one step more
  pub forwards-goes : (z : A) (next : B) → i < length zs → z ≡ get_or zs i z → step found z ≡ Ok next → forwards step (drop (i + 1) zs) next ≡ whole
  forwards-goes z next h e is = sym (ap (λ (r : Result B E). r >>= forwards step (drop (i + 1) zs)) is) ∙ next_step z h e

  -- the first step that refuses
  pub forwards-fails : (z : A) (fault : E) → i < length zs → z ≡ get_or zs i z → step found z ≡ Err fault → whole ≡ Err fault
  forwards-fails z fault h e is = sym (next_step z h e) ∙ ap (λ (r : Result B E). r >>= forwards step (drop (i + 1) zs)) is

  -- all steps
  pub forwards-done : length zs ≤ i → whole ≡ Ok found
  forwards-done h = sym inv ∙ ap (λ (xs : List A). forwards step xs found) (drop_all i zs h)

-- a fault that stops a part stops the whole
pub stops_through : {A B : Type 0} (f : PlanFault) (part : Result A PlanFault) (whole : Result B PlanFault) → ((e : PlanFault) → part ≡ Err e → whole ≡ Err e) → Stops f part → Stops f whole
stops_through (Infeasible infeasible) part whole h s = h (Infeasible infeasible) s
stops_through (Range k m r) part whole h s = h (Range k m r) s
stops_through DiskFault part whole h s = s
stops_through Memory part whole h s = tt

-- a fault of the forward passes stops the iteration
pub forward_stops : {A B : Type 0} (f : PlanFault) (walks : Result A Infeasibility) (tail : A → Result B PlanFault) → FailsAsRefuted f walks → Stops f (or_infeasible walks >>= tail)
forward_stops (Infeasible infeasible) walks tail h = ap (λ (w : _). or_infeasible w >>= tail) h
forward_stops (Range k m r) walks tail h = absurd h
forward_stops DiskFault walks tail h = h
forward_stops Memory walks tail h = tt

pub forward_infeasible : (A : Type 0) (p : Validated) (f : PlanFault) → OnNoStage {A = A} (Err f) (Refutes p) → IsInfeasible p f
forward_infeasible A p (Infeasible infeasible) h = h
forward_infeasible A p (Range k m r) h = tt
forward_infeasible A p DiskFault h = tt
forward_infeasible A p Memory h = tt

pub forwards-stops : {A : Type 0} (step : Stepped → A → Result Stepped PlanFault) (zs : List A) (i : ℕ) (found : Stepped) (whole : Result Stepped PlanFault) (z : A) (f : PlanFault)
    → forwards step (drop i zs) found ≡ whole → i < length zs → z ≡ get_or zs i z → Stops f (step found z) → Stops f whole
forwards-stops step zs i found whole z f inv h e s = stops_through f (step found z) whole (λ fault is. forwards-fails step zs i found whole inv z fault h e is) s

-- before the first path there are no entries
pub walks_from : {Start Chain : Type 0} (v : Solving Start Chain) (p : Validated) (pools : List (List Cut)) (k : ℕ) (paths : List (List PathStep)) (walks : List Trajectory) (entries : List Entry) → entries ≡ []
    → forwards (with_path v p k) (zip paths walks) (seen_stepped pools entries) ≡ with_walks v p pools k paths walks
unfolding with_walks
walks_from v p pools k paths walks entries none = ap (λ (es : List Entry). forwards (with_path v p k) (zip paths walks) (seen_stepped pools es)) none

-- the paths that were drawn are those of the iteration
pub step_is : {Start Chain : Type 0} (v : Solving Start Chain) (p : Validated) (pools : List (List Cut)) (seed batch k first : ℕ) (paths given : List (List PathStep)) → first ≡ first_stream batch k → paths ≡ paths_from p seed first batch → given ≡ paths
    → along v p pools k given ≡ training_step v p pools seed batch k
unfolding training_step
step_is v p pools seed batch k first paths given is drawn same = ap (λ (ps : List (List PathStep)). along v p pools k ps) (same ∙ drawn ∙ ap (λ n. paths_from p seed n batch) is)
