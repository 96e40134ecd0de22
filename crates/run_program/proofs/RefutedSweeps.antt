-- Where a sweep back along a path is refuted: at a realization of a node on the path, and the state that came to it.
use Rattle.std.proofs.Common.{◌≡◌, ℕ, ◌<◌, ℤ, true, List, [], ◌∷◌, length, zip, All, Option, Some, None, Ok, IfErr, refl}
use Rattle.std.proofs.lemmas.List.Elements.{All-nil, All-cons}
use Rattle.base_num.proofs.Sums.{All_head, All_tail}
use Rattle.problem.specs.Validated.{Validated, is_validated}
use Rattle.theory.specs.declared.cut.Cut.{Cut}
use Rattle.theory.specs.declared.cut.Certificate.{Certificate}
use Rattle.theory.specs.Problem.{Node, node_at}
use Rattle.theory.specs.CutOf.{cut_of}
use Rattle.theory.specs.Range.{range_of}
use Rattle.theory.specs.View.{problem_of}
use Rattle.lp_program.specs.declared.programs.Answer.{Answer}
use Rattle.plan_answer.specs.declared.classifying.Infeasibility.{Infeasibility}
use Rattle.plan_answer.specs.declared.classifying.Classified.{Classified}
use Rattle.plan_answer.specs.declared.classifying.Classified.TheVariants as classified
use Rattle.plan_answer.specs.declared.plan_fault.PlanFault.{PlanFault}
use Rattle.plan_answer.specs.declared.plan_fault.PlanFault.TheVariants.{Infeasible, Range, DiskFault, Memory}
use Rattle.plan_answer.specs.Classifying.{classify_of}
use Rattle.plan_answer.specs.Settling.{settled_of}
use Rattle.lp_program.specs.Solving.{Solving}
use Rattle.plan_draw.specs.declared.steps.PathStep.{PathStep}
use Rattle.plan_draw.specs.Drawn.{IsInRange}
use Rattle.cut_pool.specs.AtNodes.{IsStateAt}
use Rattle.plan_forward.specs.Walking.{AreStatesInside}
use Rattle.plan_backward.specs.Certifying.{answers_at, both_certified, certified, certified_in_order, certify, certify_all, in_places, nothing_certified, order_at, values_of, with_classified}
use Rattle.plan_backward.proofs.Placed.{all-values_of, order_known}
use Rattle.plan_backward.specs.Sweeping.{Swept, backwards, made_at, step_back, swept, with_made, within_range}
use Rattle.run_program.specs.Refuted.{IsRealized}
use Rattle.run_program.proofs.RefutedPlace.{Located, err_then, classified_refutes, located}
use Rattle.run_program.proofs.RefutedWalks.{values_realized}

-- what holds of an infeasibility
abbrev pub OnInfeasible : (Infeasibility → Type 0) → PlanFault → Type 0
OnInfeasible P (Infeasible d) = P d
OnInfeasible P (Range k m r) = Unit {0}
OnInfeasible P DiskFault = Unit {0}
OnInfeasible P Memory = Unit {0}

-- what was found of some realizations
abbrev Taken : {A B : Type 0} → (A → B) → Type 0
Taken {A} f = A

abbrev Certified : Type 0
Certified = Taken (both_certified nothing_certified)

-- what holds of the first of each pair, and of the pair
pub zip_both : {A B : Type 0} (P : A → Type 0) (R : A × B → Type 0) (xs : List A) (ys : List B) → All P xs → All R (zip xs ys) → All (λ (q : A × B). P q.0 × R q) (zip xs ys)
zip_both {A} {B} P R [] ys one two = All-nil (λ (q : A × B). P q.0 × R q)
zip_both {A} {B} P R (x ∷ xs) [] one two = All-nil (λ (q : A × B). P q.0 × R q)
zip_both {A} {B} P R (x ∷ xs) (y ∷ ys) one two =
    All-cons (λ (q : A × B). P q.0 × R q) (x, y) (zip xs ys) (All_head P x xs one, All_head R (x, y) (zip xs ys) two)
    (zip_both P R xs ys (All_tail P x xs one) (All_tail R (x, y) (zip xs ys) two))

-- the realizations of a node, at a state in its box
module _ (p : Validated) (pools : List (List Cut)) (k m : ℕ) (state : List ℤ) (known : m < length p.parts.nodes) (inside : IsStateAt p m state) where
  abbrev n : Node
  n = node_at (problem_of p) m

  abbrev Here : PlanFault → Type 0
  Here = OnInfeasible (Located p (IsRealized p))

  abbrev Own : List ℤ → Type 0
  Own values = IsRealized p (record { node = m; values = values })

  classified_located : (found : Certified) (values : List ℤ) (a : Answer) (c : Certificate) → Own values → (j : Classified) → classify_of n values state a ≡ j → IfErr (with_classified k m state values c found j) Here
  classified_located found values a c own classified.Found e = tt
  classified_located found values a c own classified.Unanswered e = tt
  classified_located found values a c own (classified.Infeasibility ys) e = located p (IsRealized p) m values state known own inside k ys (classified_refutes n values state a ys e)

  certify_located : (found : Certified) (values : List ℤ) (a : Answer) → Own values → IfErr (certify pools n k m state found values a) Here
  unfolding certify
  certify_located found values a own = classified_located found values a (settled_of pools n a) own (classify_of n values state a) refl

  all_located : (found : Certified) (vs : List (List ℤ)) (xs : List Answer) → All Own vs → IfErr (certify_all (certify pools n k m state) found vs xs) Here
  all_located found [] xs all = tt
  all_located found (values ∷ vs) [] all = tt
  all_located found (values ∷ vs) (a ∷ xs) all =
      err_then Here (certify pools n k m state found values a) (λ next. certify_all (certify pools n k m state) next vs xs) (certify_located found values a (All_head Own values vs all))
      (λ next is. all_located next vs xs (All_tail Own values vs all))

  within_located : (o : Option ℕ) (made : Certified × Cut) → IfErr (within_range k m o made) Here
  within_located None made = tt
  within_located (Some r) made = tt

  module _ {Start Chain : Type 0} (v : Solving Start Chain) (validated : is_validated p ≡ true) where
    ordered_located : IfErr (certified_in_order v p pools k m state) Here
    unfolding certified_in_order
    ordered_located = all_located nothing_certified (values_of p.parts m (order_at p.parts m)) (answers_at v p pools m state) (all-values_of p.parts m Own (order_at p.parts m) (values_realized p m validated known) (order_known p.parts m))

    certified_located : IfErr (certified v p pools k m state) Here
    unfolding certified
    certified_located = err_then Here (certified_in_order v p pools k m state) (λ found. Ok (in_places (order_at p.parts m) found)) ordered_located (λ found is. tt)

    pub made_located : IfErr (made_at v p pools k m state) Here
    unfolding made_at
    made_located = err_then Here (certified v p pools k m state) (λ found. within_range k m (range_of pools n found.list) (found, cut_of pools n found.list)) certified_located (λ found is. within_located (range_of pools n found.list) (found, cut_of pools n found.list))

module _ {Start Chain : Type 0} (v : Solving Start Chain) (p : Validated) (validated : is_validated p ≡ true) (k : ℕ) where
  abbrev Fault : PlanFault → Type 0
  Fault = OnInfeasible (Located p (IsRealized p))

  -- a step of a path, and a state in the box of its node
  abbrev IsVisit : PathStep × List ℤ → Type 0
  IsVisit q = IsInRange p.parts q.0 × IsStateAt p q.0.node q.1

  step_located : (before : Swept) (visit : PathStep × List ℤ) → IsVisit visit → IfErr (step_back v p k before visit) Fault
  unfolding step_back
  step_located before visit h = err_then Fault (made_at v p before.pools k visit.0.node visit.1) (λ made. Ok (with_made before visit.0.node made)) (made_located p before.pools k visit.0.node visit.1 h.0.0 h.1 v validated) (λ made is. tt)

  back_located : (xs : List (PathStep × List ℤ)) (start : Swept) → All IsVisit xs → IfErr (backwards (step_back v p k) xs start) Fault
  back_located [] start all = tt
  back_located (x ∷ xs) start all =
      err_then Fault (backwards (step_back v p k) xs start) (λ before. step_back v p k before x) (back_located xs start (All_tail IsVisit x xs all))
      (λ before is. step_located before x (All_head IsVisit x xs all))

  pub swept_located : (pools : List (List Cut)) (path : List PathStep) (states : List (List ℤ)) (unanswered : ℕ) → All (IsInRange p.parts) path → AreStatesInside p path states → IfErr (swept v p pools k path states unanswered) Fault
  unfolding swept
  swept_located pools path states unanswered range inside =
      back_located (zip path states) (record { pools = pools; steps = []; unanswered = unanswered }) (zip_both (IsInRange p.parts) (λ (q : PathStep × List ℤ). IsStateAt p q.0.node q.1) path states range inside)
