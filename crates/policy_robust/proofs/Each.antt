-- A walk over a list, as a loop goes through it.
use Rattle.std.proofs.Common.{◌≡◌, ℕ, ◌+◌, ◌<◌, ◌≤◌, List, [], ◌∷◌, length, drop, get_or, All, Result, Ok, Err, refl, sym, ap, subst, ◌∙◌}
use Rattle.std.proofs.lemmas.List.{drop_more, drop_all}
use Rattle.std.proofs.lemmas.List.Elements.{All-head, All-tail}
use Rattle.base_num.specs.Steps.{◌>>=◌}
use Rattle.theory.specs.declared.cut.Cut.{Cut}
use Rattle.policy_robust.specs.declared.risk_cuts.RobustFault.{RobustFault}
use Rattle.policy_robust.specs.declared.risk_cuts.RobustFault.TheVariants as ends
use Rattle.policy_robust.specs.RiskCuts.{each_step, RiskStops}

abbrev pub RiskCuts : Type 0
RiskCuts = List (List Cut)

abbrev pub Answer : Type 0
Answer = Result RiskCuts (ℕ × ℕ × ℕ)

abbrev ok : RiskCuts → Answer
ok risk_cuts = Ok risk_cuts

pub same_ok : (x y : RiskCuts) → ok x ≡ ok y → x ≡ y
same_ok x y e = cc

pub bind_ok : (r : Answer) (f : RiskCuts → Answer) (y : RiskCuts) → (r >>= f) ≡ Ok y → (x : RiskCuts) × (r ≡ Ok x) × (f x ≡ Ok y)
bind_ok (Ok x) f y e = (x, refl, e)
bind_ok (Err d) f y e = absurd cc

stops_on : (fault : RobustFault) (r : Answer) (f : RiskCuts → Answer) → RiskStops fault r → RiskStops fault (r >>= f)
stops_on (ends.Range k m n) r f e = ap (λ (s : Answer). s >>= f) e
stops_on ends.Memory r f e = tt

pub stops_as : (fault : RobustFault) (r s : Answer) → r ≡ s → RiskStops fault r → RiskStops fault s
stops_as fault r s same e = subst (RiskStops fault) same e

module _ {B : Type 0} (step : RiskCuts → B → Answer) where
  -- before a step: what is left gives the whole
  module _ (risk_cuts : RiskCuts) (xs : List B) (i : ℕ) (x : B) (whole : Answer) (below : i < length xs) (is : x ≡ get_or xs i x) (so_far : each_step step risk_cuts (drop i xs) ≡ whole) where
    split : each_step step risk_cuts (drop i xs) ≡ (step risk_cuts x >>= λ next. each_step step next (drop (i + 1) xs))
    split = ap (λ (ys : List B). each_step step risk_cuts ys) (drop_more xs i x below ∙ ap (λ (y : B). y ∷ drop (i + 1) xs) (sym is))

    pub each_more : (new : RiskCuts) → step risk_cuts x ≡ Ok new → each_step step new (drop (i + 1) xs) ≡ whole
    each_more new e = sym (split ∙ ap (λ (r : Answer). r >>= λ next. each_step step next (drop (i + 1) xs)) e) ∙ so_far

    pub each_stops : (fault : RobustFault) → RiskStops fault (step risk_cuts x) → RiskStops fault whole
    each_stops fault e = stops_as fault (step risk_cuts x >>= λ next. each_step step next (drop (i + 1) xs)) whole (sym split ∙ so_far) (stops_on fault (step risk_cuts x) (λ next. each_step step next (drop (i + 1) xs)) e)

  -- the step to the item that comes next, split off
  module _ (risk_cuts : RiskCuts) (x : B) (xs : List B) (whole : Answer) (so_far : each_step step risk_cuts (x ∷ xs) ≡ whole) where
    pub next_more : (new : RiskCuts) → step risk_cuts x ≡ Ok new → each_step step new xs ≡ whole
    next_more new e = sym (ap (λ (r : Answer). r >>= λ next. each_step step next xs) e) ∙ so_far

    pub next_stops : (fault : RobustFault) → RiskStops fault (step risk_cuts x) → RiskStops fault whole
    next_stops fault e = stops_as fault (step risk_cuts x >>= λ next. each_step step next xs) whole so_far (stops_on fault (step risk_cuts x) (λ next. each_step step next xs) e)

  pub each_done : (risk_cuts : RiskCuts) (xs : List B) (i : ℕ) (whole : Answer) → length xs ≤ i → each_step step risk_cuts (drop i xs) ≡ whole → whole ≡ Ok risk_cuts
  each_done risk_cuts xs i whole all so_far = sym so_far ∙ ap (λ (ys : List B). each_step step risk_cuts ys) (drop_all i xs all)

  -- a property that each step keeps of such items is kept by all
  pub each_keeps : (P : RiskCuts → Type 0) (Is : B → Type 0) → ((risk_cuts new : RiskCuts) (x : B) → Is x → P risk_cuts → step risk_cuts x ≡ Ok new → P new) → (risk_cuts new : RiskCuts) (xs : List B) → All Is xs → P risk_cuts → each_step step risk_cuts xs ≡ Ok new → P new
  each_keeps P Is keeps risk_cuts new [] are has e = subst P (same_ok risk_cuts new e) has
  each_keeps P Is keeps risk_cuts new (x ∷ xs) are has e =
      let b = bind_ok (step risk_cuts x) (λ next. each_step step next xs) new e in
      each_keeps P Is keeps b.0 new xs (All-tail Is x xs are) (keeps risk_cuts b.0 x (All-head Is x xs are) has b.1) b.2
