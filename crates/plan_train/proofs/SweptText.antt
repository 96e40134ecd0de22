-- The entry of a sweep can be written, and is accepted when it is read back.
use Rattle.std.proofs.Common.{◌≡◌, ◌∙◌, ℕ, ◌+◌, ◌*◌, ◌<◌, ◌≤◌, ◌^◌, true, ℤ, List, [], ◌∷◌, ◌++◌, length, map, zip, All, Option, Some, None, Result, Ok, Err, refl, sym, ap, subst, arith}
use Rattle.std.specs.Option.{option_map}
use Rattle.std.specs.List.{AllByRecursion}
use Rattle.std.proofs.lemmas.List.Elements.{All-head, All-tail}
use Rattle.problem.specs.Validated.{Validated, is_validated}
use Rattle.theory.specs.declared.cut.Cut.{Cut}
use Rattle.theory.specs.declared.cut.Certificate.{Certificate}
use Rattle.theory.specs.Problem.{Node, node_at}
use Rattle.theory.specs.Pools.{pool, push}
use Rattle.theory.specs.CutOf.{cut_of}
use Rattle.theory.specs.Range.{range_of}
use Rattle.theory.specs.View.{problem_of}
use Rattle.cut_pool.specs.AtNodes.{PoolsFit}
use Rattle.cut_pool.specs.declared.entry.EntryStep.{EntryStep}
use Rattle.cut_make.specs.declared.fault.CertFault.{CertFault}
use Rattle.cut_make.specs.declared.fault.CertFault.TheVariants as faults
use Rattle.cut_check.proofs.Faultless.{right-range_fault}
use Rattle.lp_program.specs.Solving.{Solving}
use Rattle.plan_draw.specs.declared.steps.PathStep.{PathStep}
use Rattle.plan_draw.specs.Drawn.{IsInRange}
use Rattle.plan_backward.specs.Certifying.{certified}
use Rattle.plan_backward.specs.Given.{AreDistinct}
use Rattle.plan_backward.specs.Sweeping.{Swept, within_range, made_at, with_made, step_back, backwards, swept}
use Rattle.plan_backward.proofs.Cuts.{settled_list}
use Rattle.plan_backward.proofs.Grown.{grown-swept}
use Rattle.journal_record.specs.Backwards.{nodes_back}
use Rattle.journal_load.specs.Cuts.{cut_of_step, unless_fault, step_added, steps_added}
use Rattle.journal_load.proofs.Binding.{bind_ok, bind_on}
use Rattle.journal_load.proofs.Adding.{step_fit}
use Rattle.plan_train.proofs.NodeText.{Certified, StepText, certified_text, certified_few}
use Rattle.plan_train.proofs.Answered.{same_ok}

not_ok : {A E : Type 0} (x : E) (y : A) → ◌≡◌ {A = Result A E} (Err x) (Ok y) → ⊥
not_ok x y e = cc

-- lists to which one is added
pub each_push : {A : Type 0} (P : A → Type 0) (xs : List A) (x : A) → AllByRecursion P xs → P x → AllByRecursion P (xs ++ x ∷ [])
each_push P [] x h k = (k, tt)
each_push P (y ∷ xs) x h k = (h.0, each_push P xs x h.1 k)

nodes_push : (ss : List EntryStep) (s : EntryStep) → nodes_back (ss ++ s ∷ []) ≡ s.node ∷ nodes_back ss
nodes_push [] s = refl
nodes_push (t ∷ ss) s = ap (λ (ms : List ℕ). ms ++ t.node ∷ []) (nodes_push ss s)

steps_push : (p : Validated) (k : ℕ) (pools mid new : List (List Cut)) (ss : List EntryStep) (s : EntryStep) → steps_added p k pools ss ≡ Ok mid → step_added p k mid s ≡ Ok new → steps_added p k pools (ss ++ s ∷ []) ≡ Ok new
unfolding steps_added
steps_push p k pools mid new [] s e f =
    let is : step_added p k pools s ≡ Ok new = ap (λ (q : List (List Cut)). step_added p k q s) (same_ok pools mid e) ∙ f in
    bind_on (step_added p k pools s) new (λ next. steps_added p k next []) is
steps_push p k pools mid new (t ∷ ss) s e f =
    let b = bind_ok (step_added p k pools t) (λ next. steps_added p k next ss) mid e in
    bind_on (step_added p k pools t) b.0 (λ next. steps_added p k next (ss ++ s ∷ [])) b.1 ∙ steps_push p k b.0 mid new ss s b.2 f

-- the size is in range
ranged : {A : Type 0} (k m : ℕ) (o : Option ℕ) (x y : A) → within_range k m o x ≡ Ok y → (o ≡ None) × (x ≡ y)
ranged k m None x y e = (refl, same_ok x y e)
ranged k m (Some r) x y e = absurd (not_ok _ y e)

-- the addition of a step back
record StepMade (p : Validated) (k most : ℕ) (before : Swept) (m : ℕ) (after : Swept) : Type 0 where
  list : List Certificate
  added : step_added p k before.pools (record { node = m; list = list }) ≡ Ok after.pools
  steps : after.steps ≡ before.steps ++ record { node = m; list = list } ∷ []
  text : StepText p most (record { node = m; list = list })
  few : after.unanswered ≤ before.unanswered + 100

accepted : (p : Validated) (k : ℕ) (pools : List (List Cut)) (s : EntryStep) (fault : Option CertFault) → fault ≡ None → unless_fault k s.node fault (push pools s.node (cut_of_step p pools s)) ≡ Ok (push pools s.node (cut_of_step p pools s))
accepted p k pools s fault none = ap (λ (f : Option CertFault). unless_fault k s.node f (push pools s.node (cut_of_step p pools s))) none

module _ {Start Chain : Type 0} (v : Solving Start Chain) (p : Validated) (validated : is_validated p ≡ true) (k : ℕ) where
  made : (most : ℕ) (before : Swept) (m : ℕ) (state : List ℤ) (found : Certified) → m < length p.parts.nodes → PoolsFit p before.pools → most < 2 ^ 32 → ((j : ℕ) → length (pool before.pools j) ≤ most)
      → certified v p before.pools k m state ≡ Ok found → range_of before.pools (node_at (problem_of p) m) found.list ≡ None → StepMade p k most before m (with_made before m (found, cut_of before.pools (node_at (problem_of p) m) found.list))
  unfolding step_added
  made most before m state found known fit small few is inside =
      let right = settled_list v p before.pools k m state found validated known fit is in
      let none = right-range_fault before.pools (node_at (problem_of p) m) found.list right ∙ ap (λ (o : Option ℕ). option_map faults.Range o) inside in
      record {
        list = found.list;
        added = accepted p k before.pools (record { node = m; list = found.list }) _ none;
        steps = refl;
        text = certified_text v p validated before.pools k m state known fit most small few found is;
        few = omega (arith, certified_few v p validated before.pools k m state known fit most small few found is);
      }

  step_made : (most : ℕ) (before after : Swept) (visit : PathStep × List ℤ) → visit.0.node < length p.parts.nodes → PoolsFit p before.pools → most < 2 ^ 32 → ((j : ℕ) → length (pool before.pools j) ≤ most)
      → step_back v p k before visit ≡ Ok after → StepMade p k most before visit.0.node after
  unfolding step_back made_at
  step_made most before after visit known fit small few e =
      let m : ℕ = visit.0.node in
      let n : Node = node_at (problem_of p) m in
      let a = bind_ok (made_at v p before.pools k m visit.1) (λ made. Ok (with_made before m made)) after e in
      let b = bind_ok (certified v p before.pools k m visit.1) (λ found. within_range k m (range_of before.pools n found.list) (found, cut_of before.pools n found.list)) a.0 a.1 in
      let r = ranged k m (range_of before.pools n b.0.list) (b.0, cut_of before.pools n b.0.list) a.0 b.2 in
      let whole : with_made before m (b.0, cut_of before.pools n b.0.list) ≡ after = ap (λ made. with_made before m made) r.1 ∙ same_ok (with_made before m a.0) after a.2 in
      subst (StepMade p k most before m) whole (made most before m visit.1 b.0 known fit small few b.1 r.0)

  -- the state after some steps of a path, the last ones
  pub record SweptText (pools : List (List Cut)) (most unanswered : ℕ) (ss : List PathStep) (after : Swept) : Type 0 where
    pub fit : PoolsFit p after.pools
    pub added : steps_added p k pools after.steps ≡ Ok after.pools
    pub nodes : nodes_back after.steps ≡ map (λ (s : PathStep). s.node) ss
    pub texts : AllByRecursion (StepText p most) after.steps
    pub few : after.unanswered ≤ unanswered + length ss * 100

  module _ (pools : List (List Cut)) (most unanswered : ℕ) (fit : PoolsFit p pools) (small : most < 2 ^ 32) (few : (j : ℕ) → length (pool pools j) + 1 ≤ most) where
    begins : SweptText pools most unanswered [] (record { pools = pools; steps = []; unanswered = unanswered })
    unfolding steps_added
    begins = record { fit = fit; added = refl; nodes = refl; texts = tt; few = omega arith }

    one_more : (s : PathStep) (ss : List PathStep) (before after : Swept) → SweptText pools most unanswered ss before → StepMade p k most before s.node after → s.node < length p.parts.nodes → SweptText pools most unanswered (s ∷ ss) after
    one_more s ss before after t made known =
        let this : EntryStep = record { node = s.node; list = made.list } in
        record {
          fit = step_fit p validated k before.pools after.pools this known t.fit made.added;
          added = subst (λ (steps : List EntryStep). steps_added p k pools steps ≡ Ok after.pools) (sym made.steps) (steps_push p k pools before.pools after.pools before.steps this t.added made.added);
          nodes = ap nodes_back made.steps ∙ nodes_push before.steps this ∙ ap (λ (ms : List ℕ). s.node ∷ ms) t.nodes;
          texts = subst (AllByRecursion (StepText p most)) (sym made.steps) (each_push (StepText p most) before.steps this t.texts made.text);
          few = omega (arith, made.few, t.few);
        }

    as_swept : (ss : List PathStep) (xs : List (List ℤ)) (after : Swept) → backwards (step_back v p k) (zip ss xs) (record { pools = pools; steps = []; unanswered = unanswered }) ≡ Ok after → swept v p pools k ss xs unanswered ≡ Ok after
    unfolding swept
    as_swept ss xs after e = e

    goes_back : (ss : List PathStep) (xs : List (List ℤ)) (after : Swept) → length xs ≡ length ss → All (IsInRange p.parts) ss → AreDistinct ss → backwards (step_back v p k) (zip ss xs) (record { pools = pools; steps = []; unanswered = unanswered }) ≡ Ok after → SweptText pools most unanswered ss after
    goes_back [] xs after e r d is = subst (SweptText pools most unanswered []) (same_ok (record { pools = pools; steps = []; unanswered = unanswered }) after is) begins
    goes_back (s ∷ ss) [] after e r d is = absurd (omega (arith, e))
    goes_back (s ∷ ss) (x ∷ xs) after e r d is =
        let b = bind_ok (backwards (step_back v p k) (zip ss xs) (record { pools = pools; steps = []; unanswered = unanswered })) (λ before. step_back v p k before (s, x)) after is in
        let t = goes_back ss xs b.0 (omega (arith, e)) (All-tail (IsInRange p.parts) s ss r) d.1 b.1 in
        let known : s.node < length p.parts.nodes = (All-head (IsInRange p.parts) s ss r).0 in
        let grown : (j : ℕ) → length (pool b.0.pools j) ≤ most = λ j. omega (arith, few j, grown-swept v p k pools ss xs unanswered b.0 j d.1 (as_swept ss xs b.0 b.1)) in
        one_more s ss b.0 after t (step_made most b.0 after (s, x) known t.fit small grown b.2) known

    pub swept_text : (path : List PathStep) (states : List (List ℤ)) (after : Swept) → length states ≡ length path → All (IsInRange p.parts) path → AreDistinct path → swept v p pools k path states unanswered ≡ Ok after → SweptText pools most unanswered path after
    unfolding swept
    swept_text path states after e r d is = goes_back path states after e r d is
