-- Steps one after another, the last first, and the cuts that are taken back.
use Rattle.std.proofs.Common.{◌≡◌, ℕ, zero, suc, ◌+◌, ◌<◌, ℤ, List, [], ◌∷◌, ◌++◌, length, take, drop, zip, get_or, Option, Some, None, Result, Ok, Err, refl, ap, ap₂, sym, subst, ◌∙◌, arith}
use Rattle.std.proofs.lemmas.List.{drop_more}
use Rattle.base_num.specs.Steps.{◌>>=◌}
use Rattle.problem.specs.Validated.{Validated}
use Rattle.theory.specs.declared.cut.Cut.{Cut}
use Rattle.theory.specs.Problem.{node_at}
use Rattle.theory.specs.CutOf.{cut_of}
use Rattle.theory.specs.Range.{range_of}
use Rattle.theory.specs.Pools.{push}
use Rattle.theory.specs.View.{problem_of}
use Rattle.cut_pool.specs.declared.entry.EntryStep.{EntryStep}
use Rattle.plan_answer.specs.declared.classifying.Infeasibility.{Infeasibility}
use Rattle.plan_answer.specs.Farkas.{NoDecision}
use Rattle.lp_program.specs.Solving.{Solving}
use Rattle.plan_draw.specs.declared.steps.PathStep.{PathStep}
use Rattle.plan_backward.specs.declared.certified.Certified.{Certified}
use Rattle.plan_answer.specs.declared.plan_fault.PlanFault.{PlanFault}
use Rattle.plan_answer.specs.declared.plan_fault.PlanFault.TheVariants.{Infeasible, Range, DiskFault, Memory}
use Rattle.plan_answer.specs.Faults.{IsInfeasible, Stops}
use Rattle.plan_backward.specs.Certifying.{answers_at, certified, certified_in_order, in_places, nothing_certified, order_at, values_of}
use Rattle.plan_backward.specs.Sweeping.{Swept, within_range, made_at, with_made, step_back, backwards, swept, popped, taken_back}
use Rattle.plan_backward.proofs.Certificates.{infeasible_there}
use Rattle.plan_backward.proofs.Cuts.{popped-push}

module _ {A : Type 0} (step : Swept → A → Result Swept PlanFault) where
  -- one step more
  pub step_more : (xs : List A) (i : ℕ) (x : A) (start before : Swept) (r : Result Swept PlanFault) → i < length xs → x ≡ get_or xs i x → backwards step (drop (i + 1) xs) start ≡ Ok before → step before x ≡ r → backwards step (drop i xs) start ≡ r
  step_more xs i x start before r h is done gives =
      ap (λ (ys : List A). backwards step ys start) (drop_more xs i x h)
      ∙ ap (λ (s : Result Swept PlanFault). s >>= λ b. step b (get_or xs i x)) done
      ∙ ap (λ (y : A). step before y) (sym is) ∙ gives

  -- a fault on the way is the fault of all
  pub step_stops : (xs : List A) (i : ℕ) (start : Swept) (fault : PlanFault) → backwards step (drop i xs) start ≡ Err fault → backwards step xs start ≡ Err fault
  step_stops xs zero start fault e = e
  step_stops [] (suc i) start fault e = e
  step_stops (x ∷ xs) (suc i) start fault e = ap (λ (s : Result Swept PlanFault). s >>= λ b. step b x) (step_stops xs i start fault e)

-- the step's node of a path and its state
pub get_or-zip : {A B : Type 0} (xs : List A) (ys : List B) (i : ℕ) (d : A) (e : B) → i < length xs → i < length ys → (get_or xs i d, get_or ys i e) ≡ get_or (zip xs ys) i (get_or xs i d, get_or ys i e)
get_or-zip [] ys i d e h k = absurd (omega arith)
get_or-zip (x ∷ xs) [] i d e h k = absurd (omega arith)
get_or-zip (x ∷ xs) (y ∷ ys) zero d e h k = refl
get_or-zip (x ∷ xs) (y ∷ ys) (suc i) d e h k = get_or-zip xs ys i d e (omega arith) (omega arith)

-- the visit at a state that was read
pub visit_at : (path : List PathStep) (states : List (List ℤ)) (i : ℕ) (none : PathStep) (x : List ℤ) → i < length path → i < length states → x ≡ get_or states i x → (get_or path i none, x) ≡ get_or (zip path states) i (get_or path i none, x)
visit_at path states i none x h k is = ap (λ (y : List ℤ). (get_or path i none, y)) is ∙ get_or-zip path states i none x h k ∙ ap (λ (y : List ℤ). get_or (zip path states) i (get_or path i none, y)) (sym is)

-- taking back
taken-append : (pools : List (List Cut)) (ss : List EntryStep) (s : EntryStep) → taken_back pools (ss ++ s ∷ []) ≡ taken_back (popped pools s.node) ss
taken-append pools [] s = refl
taken-append pools (t ∷ ts) s = ap (λ (more : List (List Cut)). popped more t.node) (taken-append pools ts s)

-- a cut that is pushed with its step is taken back with it
pub taken-push : (pools before new : List (List Cut)) (ss steps : List EntryStep) (s : EntryStep) (c : Cut) → new ≡ push pools s.node c → steps ≡ ss ++ s ∷ [] → taken_back pools ss ≡ before → taken_back new steps ≡ before
taken-push pools before new ss steps s c pushed added h =
    ap₂ taken_back pushed added ∙ taken-append (push pools s.node c) ss s ∙ ap (λ (more : List (List Cut)). taken_back more ss) (popped-push pools s.node c) ∙ h

take_last : (ss : List EntryStep) (i : ℕ) (d : EntryStep) → i < length ss → take (suc i) ss ≡ take i ss ++ get_or ss i d ∷ []
take_last [] i d h = absurd (omega arith)
take_last (s ∷ ss) zero d h = refl
take_last (s ∷ ss) (suc i) d h = ap (λ (more : List EntryStep). s ∷ more) (take_last ss i d (omega arith))

-- one step less
pub taken_less : (pools : List (List Cut)) (ss : List EntryStep) (i left : ℕ) (d : EntryStep) → left ≡ suc i → i < length ss → taken_back pools (take left ss) ≡ taken_back (popped pools (get_or ss i d).node) (take i ss)
taken_less pools ss i left d e h = ap (λ (k : ℕ). taken_back pools (take k ss)) e ∙ ap (taken_back pools) (take_last ss i d h) ∙ taken-append pools (take i ss) (get_or ss i d)

-- where a node is infeasible, it has no decisions
same_infeasible : (x y : Infeasibility) → Infeasible x ≡ Infeasible y → x ≡ y
same_infeasible x y e = cc

same_err : {A : Type 0} (x y : PlanFault) → ◌≡◌ {A = Result A PlanFault} (Err x) (Err y) → x ≡ y
same_err x y e = cc

no_err : {A : Type 0} (x : A) (y : PlanFault) → ◌≡◌ {A = Result A PlanFault} (Ok x) (Err y) → ⊥
no_err x y e = cc

module _ {Start Chain : Type 0} (v : Solving Start Chain) (p : Validated) (k : ℕ) where
  ordered_infeasible : (pools : List (List Cut)) (m : ℕ) (state : List ℤ) (d : Infeasibility) → certified_in_order v p pools k m state ≡ Err (Infeasible d) → NoDecision (node_at (problem_of p) d.node) d.values d.state
  unfolding certified_in_order
  ordered_infeasible pools m state d is =
      let there = infeasible_there pools (node_at (problem_of p) m) k m state nothing_certified (values_of p.parts m (order_at p.parts m)) (answers_at v p pools m state) d is in
      subst (λ (j : ℕ). NoDecision (node_at (problem_of p) j) d.values d.state) (sym there.0) there.1

  certified_infeasible : (pools : List (List Cut)) (m : ℕ) (state : List ℤ) (d : Infeasibility) → certified v p pools k m state ≡ Err (Infeasible d) → NoDecision (node_at (problem_of p) d.node) d.values d.state
  unfolding certified
  certified_infeasible pools m state d is = by (certified_in_order v p pools k m state) refl is
    where
      by : (r : Result Certified PlanFault) → certified_in_order v p pools k m state ≡ r
          → (r >>= λ found. Ok (in_places (order_at p.parts m) found)) ≡ Err (Infeasible d) → NoDecision (node_at (problem_of p) d.node) d.values d.state
      by (Ok found) e w = absurd (no_err (in_places (order_at p.parts m) found) (Infeasible d) w)
      by (Err f) e w = ordered_infeasible pools m state d (e ∙ ap Err (same_err {A = Certified} f (Infeasible d) w))

  abbrev ranged : List (List Cut) → ℕ → Certified → Result (Certified × Cut) PlanFault
  ranged pools m found = within_range k m (range_of pools (node_at (problem_of p) m) found.list) (found, cut_of pools (node_at (problem_of p) m) found.list)

  range_alive : (m : ℕ) (o : Option ℕ) (made : Certified × Cut) (d : Infeasibility) → within_range k m o made ≡ Err (Infeasible d) → ⊥
  range_alive m None made d is = no_err made (Infeasible d) is
  range_alive m (Some r) made d is = cc

  made_infeasible : (pools : List (List Cut)) (m : ℕ) (state : List ℤ) (d : Infeasibility) → made_at v p pools k m state ≡ Err (Infeasible d) → NoDecision (node_at (problem_of p) d.node) d.values d.state
  unfolding made_at
  made_infeasible pools m state d is = by (certified v p pools k m state) refl is
    where
      by : (r : Result Certified PlanFault) → certified v p pools k m state ≡ r
          → (r >>= ranged pools m) ≡ Err (Infeasible d) → NoDecision (node_at (problem_of p) d.node) d.values d.state
      by (Ok found) e w = absurd (range_alive m _ _ d w)
      by (Err f) e w = certified_infeasible pools m state d (e ∙ ap Err (same_err {A = Certified × Cut} f (Infeasible d) w))

  step_infeasible : (before : Swept) (visit : PathStep × List ℤ) (d : Infeasibility) → step_back v p k before visit ≡ Err (Infeasible d) → NoDecision (node_at (problem_of p) d.node) d.values d.state
  unfolding step_back
  step_infeasible before visit d is = by (made_at v p before.pools k visit.0.node visit.1) refl is
    where
      by : (r : Result (Certified × Cut) PlanFault) → made_at v p before.pools k visit.0.node visit.1 ≡ r → (r >>= λ made. Ok (with_made before visit.0.node made)) ≡ Err (Infeasible d) → NoDecision (node_at (problem_of p) d.node) d.values d.state
      by (Ok made) e w = absurd (no_err (with_made before visit.0.node made) (Infeasible d) w)
      by (Err f) e w = made_infeasible before.pools visit.0.node visit.1 d (e ∙ ap Err (same_err {A = Swept} f (Infeasible d) w))

  backwards_infeasible : (xs : List (PathStep × List ℤ)) (start : Swept) (d : Infeasibility) → backwards (step_back v p k) xs start ≡ Err (Infeasible d) → NoDecision (node_at (problem_of p) d.node) d.values d.state
  backwards_infeasible [] start d is = absurd (no_err start (Infeasible d) is)
  backwards_infeasible (x ∷ xs) start d is = by (λ e. backwards_infeasible xs start d e) (backwards (step_back v p k) xs start) refl is
    where
      by : (backwards (step_back v p k) xs start ≡ Err (Infeasible d) → NoDecision (node_at (problem_of p) d.node) d.values d.state) → (r : Result Swept PlanFault) → backwards (step_back v p k) xs start ≡ r
          → (r >>= λ b. step_back v p k b x) ≡ Err (Infeasible d) → NoDecision (node_at (problem_of p) d.node) d.values d.state
      by tail (Ok b) e w = step_infeasible b x d w
      by tail (Err f) e w = tail (e ∙ w)

  infeasible_fault : (xs : List (PathStep × List ℤ)) (start : Swept) (f : PlanFault) → Stops f (backwards (step_back v p k) xs start) → IsInfeasible p f
  infeasible_fault xs start (Infeasible d) is = backwards_infeasible xs start d is
  infeasible_fault xs start (Range i m r) is = tt
  infeasible_fault xs start DiskFault is = tt
  infeasible_fault xs start Memory is = tt

  pub infeasible_swept : (pools : List (List Cut)) (path : List PathStep) (states : List (List ℤ)) (unanswered : ℕ) (f : PlanFault) → Stops f (swept v p pools k path states unanswered) → IsInfeasible p f
  unfolding swept
  infeasible_swept pools path states unanswered f s = infeasible_fault (zip path states) (record { pools = pools; steps = []; unanswered = unanswered }) f s

  -- the states and the steps as they were read
  pub swept-by : (pools : List (List Cut)) (path : List PathStep) (read states : List (List ℤ)) (steps : List EntryStep) (unanswered : ℕ) → read ≡ states → steps ≡ []
      → swept v p pools k path states unanswered ≡ backwards (step_back v p k) (zip path read) (record { pools = pools; steps = steps; unanswered = unanswered })
  unfolding swept
  swept-by pools path read states steps unanswered is none =
      ap₂ (λ (all : List (List ℤ)) (ss : List EntryStep). backwards (step_back v p k) (zip path all) (record { pools = pools; steps = ss; unanswered = unanswered })) (sym is) (sym none)

-- a fault of a part that is one of the whole
pub stops_through : {A B : Type 0} (f : PlanFault) (part : Result A PlanFault) (whole : Result B PlanFault) → ((e : PlanFault) → part ≡ Err e → whole ≡ Err e) → Stops f part → Stops f whole
stops_through (Infeasible d) part whole h s = h (Infeasible d) s
stops_through (Range i m r) part whole h s = h (Range i m r) s
stops_through DiskFault part whole h s = s
stops_through Memory part whole h s = tt
