-- A sweep appends at most one cut at each node, and none at nodes that are not on the path.
use Rattle.std.proofs.Common.{◌≡◌, ◌≢◌, ℕ, ◌+◌, ◌≤◌, ℤ, List, [], ◌∷◌, ◌++◌, length, zip, All, Result, Ok, Err, refl, ap, sym, subst, ◌∙◌, length-append, arith}
use Rattle.std.proofs.lemmas.List.{get_or-set_other}
use Rattle.std.proofs.lemmas.List.Elements.{All-head, All-tail}
use Rattle.base_num.specs.Steps.{◌>>=◌}
use Rattle.problem.specs.Validated.{Validated}
use Rattle.theory.specs.declared.cut.Cut.{Cut}
use Rattle.theory.specs.Pools.{pool, push}
use Rattle.theory.proofs.Appending.{push_at}
use Rattle.lp_program.specs.Solving.{Solving}
use Rattle.plan_draw.specs.declared.steps.PathStep.{PathStep}
use Rattle.plan_backward.specs.declared.certified.Certified.{Certified}
use Rattle.plan_answer.specs.declared.plan_fault.PlanFault.{PlanFault}
use Rattle.plan_backward.specs.Given.{AreDistinct}
use Rattle.plan_backward.specs.Sweeping.{Swept, made_at, with_made, step_back, backwards, swept}

same_ok : (x y : Swept) → ◌≡◌ {A = Result Swept PlanFault} (Ok x) (Ok y) → x ≡ y
same_ok x y e = cc

no_ok : (f : PlanFault) (y : Swept) → ◌≡◌ {A = Result Swept PlanFault} (Err f) (Ok y) → ⊥
no_ok f y e = cc

module _ {Start Chain : Type 0} (v : Solving Start Chain) (p : Validated) (k : ℕ) where
  step_pushes : (before after : Swept) (visit : PathStep × List ℤ) → step_back v p k before visit ≡ Ok after → (c : Cut) × (after.pools ≡ push before.pools visit.0.node c)
  unfolding step_back
  step_pushes before after visit is = by (made_at v p before.pools k visit.0.node visit.1) is
    where
      by : (r : Result (Certified × Cut) PlanFault) → (r >>= λ made. Ok (with_made before visit.0.node made)) ≡ Ok after → (c : Cut) × (after.pools ≡ push before.pools visit.0.node c)
      by (Ok made) w = (made.1, ap (λ (s : Swept). s.pools) (sym (same_ok (with_made before visit.0.node made) after w)))
      by (Err f) w = absurd (no_ok f after w)

  kept_elsewhere : (path : List PathStep) (states : List (List ℤ)) (start after : Swept) (m : ℕ) → backwards (step_back v p k) (zip path states) start ≡ Ok after → All (λ (s : PathStep). s.node ≢ m) path → pool after.pools m ≡ pool start.pools m
  kept_elsewhere [] states start after m is none = ap (λ (s : Swept). pool s.pools m) (sym (same_ok start after is))
  kept_elsewhere (s ∷ ss) [] start after m is none = ap (λ (s : Swept). pool s.pools m) (sym (same_ok start after is))
  kept_elsewhere (s ∷ ss) (x ∷ xs) start after m is none =
      by (λ b e. kept_elsewhere ss xs start b m e (All-tail (λ (s : PathStep). s.node ≢ m) s ss none)) (All-head (λ (s : PathStep). s.node ≢ m) s ss none) (backwards (step_back v p k) (zip ss xs) start) refl is
    where
      by : ((b : Swept) → backwards (step_back v p k) (zip ss xs) start ≡ Ok b → pool b.pools m ≡ pool start.pools m) → (s.node ≢ m) → (r : Result Swept PlanFault) → backwards (step_back v p k) (zip ss xs) start ≡ r
          → (r >>= λ b. step_back v p k b (s, x)) ≡ Ok after → pool after.pools m ≡ pool start.pools m
      by tail other (Ok b) e w =
          let q = step_pushes b after (s, x) w in
          ap (λ (lists : List (List Cut)). pool lists m) q.1 ∙ get_or-set_other b.pools s.node m (pool b.pools s.node ++ q.0 ∷ []) [] (λ same. other (sym same)) ∙ tail b e
      by tail other (Err f) e w = absurd (no_ok f after w)

  one_more : (path : List PathStep) (states : List (List ℤ)) (start after : Swept) (m : ℕ) → AreDistinct path → backwards (step_back v p k) (zip path states) start ≡ Ok after → length (pool after.pools m) ≤ length (pool start.pools m) + 1
  one_more [] states start after m a is = let same : pool after.pools m ≡ pool start.pools m = ap (λ (s : Swept). pool s.pools m) (sym (same_ok start after is)) in omega (arith, ap (λ (cs : List Cut). length cs) same)
  one_more (s ∷ ss) [] start after m a is = let same : pool after.pools m ≡ pool start.pools m = ap (λ (s : Swept). pool s.pools m) (sym (same_ok start after is)) in omega (arith, ap (λ (cs : List Cut). length cs) same)
  one_more (s ∷ ss) (x ∷ xs) start after m a is =
      by (λ b e. one_more ss xs start b m a.1 e) (λ b e. kept_elsewhere ss xs start b s.node e a.0) (backwards (step_back v p k) (zip ss xs) start) refl is
    where
      more : (b : Swept) (c : Cut) → pool b.pools s.node ≡ pool start.pools s.node → m ≡ s.node → length (pool b.pools s.node ++ c ∷ []) ≤ length (pool start.pools m) + 1
      more b c same here =
          let at : length (pool b.pools s.node) ≡ length (pool start.pools m) = ap (λ (cs : List Cut). length cs) (same ∙ ap (λ (j : ℕ). pool start.pools j) (sym here)) in
          omega (arith, at, length-append (pool b.pools s.node) (c ∷ []))

      by : ((b : Swept) → backwards (step_back v p k) (zip ss xs) start ≡ Ok b → length (pool b.pools m) ≤ length (pool start.pools m) + 1)
          → ((b : Swept) → backwards (step_back v p k) (zip ss xs) start ≡ Ok b → pool b.pools s.node ≡ pool start.pools s.node)
          → (r : Result Swept PlanFault) → backwards (step_back v p k) (zip ss xs) start ≡ r → (r >>= λ b. step_back v p k b (s, x)) ≡ Ok after → length (pool after.pools m) ≤ length (pool start.pools m) + 1
      by tail kept (Ok b) e w =
          let q = step_pushes b after (s, x) w in
          subst (λ (lists : List (List Cut)). length (pool lists m) ≤ length (pool start.pools m) + 1) (sym q.1)
          (push_at b.pools s.node m q.0 (λ (cs : List Cut). length cs ≤ length (pool start.pools m) + 1) (tail b e) (λ here. more b q.0 (kept b e) here))
      by tail kept (Err f) e w = absurd (no_ok f after w)

  pub others-swept : (pools : List (List Cut)) (path : List PathStep) (states : List (List ℤ)) (unanswered : ℕ) (after : Swept) (m : ℕ) → swept v p pools k path states unanswered ≡ Ok after → All (λ (s : PathStep). s.node ≢ m) path → pool after.pools m ≡ pool pools m
  unfolding swept
  others-swept pools path states unanswered after m is none = kept_elsewhere path states (record { pools = pools; steps = []; unanswered = unanswered }) after m is none

  pub grown-swept : (pools : List (List Cut)) (path : List PathStep) (states : List (List ℤ)) (unanswered : ℕ) (after : Swept) (m : ℕ) → AreDistinct path → swept v p pools k path states unanswered ≡ Ok after → length (pool after.pools m) ≤ length (pool pools m) + 1
  unfolding swept
  grown-swept pools path states unanswered after m a is = one_more path states (record { pools = pools; steps = []; unanswered = unanswered }) after m a is
