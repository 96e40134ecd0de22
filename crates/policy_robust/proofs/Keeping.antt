-- Properties that risk cuts keep: each fits, and each holds as the lists of weights ask.
use Rattle.std.proofs.Common.{◌≡◌, ℕ, zero, suc, ◌+◌, ◌<◌, ◌≤◌, Bool, true, false, nat_lt, List, [], ◌∷◌, ◌++◌, length, get_or, sum, All, Some, None, Ok, refl, sym, subst, ◌∙◌, arith}
use Rattle.std.proofs.lemmas.Bool.Decides.{nat_tests}
use Rattle.std.proofs.lemmas.List.{length-set}
use Rattle.std.proofs.lemmas.List.Sums.{sum_by-cons}
use Rattle.std.proofs.lemmas.List.Elements.{All-nil, All-push, All-head}
use Rattle.std.proofs.lemmas.Option.{slice_get_past}
use Rattle.problem.specs.Validated.{Validated, is_validated}
use Rattle.theory.specs.declared.cut.Cut.{Cut}
use Rattle.theory.specs.declared.cut.Certificate.{Certificate}
use Rattle.theory.specs.Problem.{Realization, Node, Problem, node_at, weight_of_realizations, realization_weight, successor_weight, with_weights}
use Rattle.theory.specs.Pools.{pool, push}
use Rattle.theory.specs.CutOf.{cut_of}
use Rattle.theory.specs.Fit.{CutFits, Fit}
use Rattle.theory.specs.View.{problem_of}
use Rattle.theory.proofs.Appending.{push_at, kept_some}
use Rattle.theory.proofs.SizeToFit.{size_to_fit_given}
use Rattle.theory.proofs.ValidatedPremises.{shaped-validated, narrow-validated}
use Rattle.theory.proofs.Views.{node_at-past}
use Rattle.cut_pool.specs.AtNodes.{PoolsFit}
use Rattle.cut_check.proofs.Accepted.{right-fault_of, size-fault_of}
use Rattle.cut_make.specs.Acceptance.{fault_of}
use Rattle.policy_robust.specs.declared.alternatives.Alternatives.{Alternatives}
use Rattle.cut_make.specs.Reweighting.{Weighs}
use Rattle.policy_robust.specs.Listed.{lists_at, Listed}
use Rattle.policy_robust.specs.RiskCuts.{risk_cut_of, risk_cut_added}
use Rattle.policy_robust.specs.RiskCost.{Weighty, RiskHolds, RiskSound}
use Rattle.policy_robust.proofs.Planned.{risk_cut_has, added_risk_cut}
use Rattle.policy_robust.proofs.RiskDuality.{Heavy, weight-reweighted, risk_duality}

pub push_fit : (p : Problem) (count : ℕ) (pools : List (List Cut)) (m : ℕ) (c : Cut) → Fit p count pools → CutFits (node_at p m) c → Fit p count (push pools m c)
push_fit p count pools m c f fits = record {
  lists = length-set pools m (pool pools m ++ c ∷ []) ∙ f.lists;
  some = λ k h. kept_some pools m k c (f.some k h);
  cuts = λ k h. push_at pools m k c (All (CutFits (node_at p k))) (f.cuts k h)
      (λ e. subst (λ (j : ℕ). All (CutFits (node_at p j)) (pool pools m ++ c ∷ [])) (sym e) (All-push (CutFits (node_at p m)) (pool pools m) c (subst (λ (j : ℕ). All (CutFits (node_at p j)) (pool pools j)) e (f.cuts k h)) fits));
}

push_risk : (p : Problem) (x : List (List (List ℕ))) (pools : List (List Cut)) (m : ℕ) (c : Cut) → RiskSound p x pools → RiskHolds p x m c → RiskSound p x (push pools m c)
push_risk p x pools m c s h k = push_at pools m k c (All (RiskHolds p x k)) (s k) (λ e. subst (λ (j : ℕ). All (RiskHolds p x j) (pool pools m ++ c ∷ [])) (sym e) (All-push (RiskHolds p x m) (pool pools m) c (s m) h))

-- weights of a node that has realizations
no_weight : (rs : List Realization) → 0 ≡ length rs → 0 < weight_of_realizations rs → ⊥
no_weight [] e z = absurd (omega arith)
no_weight (r ∷ rs) e z = absurd (omega arith)

sum_more : (w : ℕ) (ws : List ℕ) → sum (w ∷ ws) ≡ w + sum ws
sum_more w ws = sum_by-cons (λ k. k) w ws

pub some_sum : (n : Node) (ws : List ℕ) → 0 < realization_weight n → Weighs n ws → 0 < sum ws
some_sum n [] z w = absurd (no_weight n.realizations w.count z)
some_sum n (v ∷ ws) z w = omega (arith, sum_more v ws, All-head (λ w. 1 ≤ w) v ws w.positive)

past : {A : Type 0} (xs : List (List A)) (m : ℕ) → length xs ≤ m → get_or xs m [] ≡ []
past [] m h = refl
past (x ∷ xs) zero h = absurd (omega arith)
past (x ∷ xs) (suc m) h = past xs m (omega arith)

module _ (p : Validated) (x : Alternatives) (validated : is_validated p ≡ true) (listed : Listed p x.lists) where
  abbrev here : ℕ → Node
  here m = node_at (problem_of p) m

  pub heavy : (m : ℕ) → m < length p.parts.nodes → Heavy (lists_at x.lists m)
  heavy m h = λ i d lt. some_sum (here m) (get_or (lists_at x.lists m) i d) (shaped-validated p m validated h).realizations (listed.each m h i d lt)

  pub weighty : Weighty (problem_of p) x.lists
  weighty = record { successors = λ m. successors m (nat_lt m (length p.parts.nodes)) refl; lists = λ m. lists m (nat_lt m (length p.parts.nodes)) refl }
    where
      successors : (m : ℕ) (b : Bool) → nat_lt m (length p.parts.nodes) ≡ b → 0 < successor_weight (here m)
      successors m true e = (shaped-validated p m validated (grind (arith, nat_tests, e))).successors
      successors m false e =
          let above : length p.parts.nodes ≤ m = grind (arith, nat_tests, e) in
          subst (λ (n : Node). 0 < successor_weight n) (sym (node_at-past p m (slice_get_past p.parts.nodes m above))) (omega arith)

      lists : (m : ℕ) (b : Bool) → nat_lt m (length p.parts.nodes) ≡ b → Heavy (lists_at x.lists m)
      lists m true e = heavy m (grind (arith, nat_tests, e))
      lists m false e =
          let above : length p.parts.nodes ≤ m = grind (arith, nat_tests, e) in
          subst Heavy (sym (past x.lists m (omega (arith, above, listed.nodes)))) (All-nil (λ (ws : List ℕ). 0 < sum ws))

  module _ (m : ℕ) (known : m < length p.parts.nodes) (risk_cuts : List (List Cut)) (list : List Certificate) where
    weighs : (i : ℕ) → i < length (lists_at x.lists m) → Weighs (here m) (get_or (lists_at x.lists m) i [])
    weighs i lt = listed.each m known i [] lt

    -- with one of the lists
    fits_with : (i : ℕ) → i < length (lists_at x.lists m) → fault_of risk_cuts (with_weights (get_or (lists_at x.lists m) i []) (here m)) list ≡ None → CutFits (here m) (cut_of risk_cuts (with_weights (get_or (lists_at x.lists m) i []) (here m)) list)
    fits_with i lt e =
        let ws : List ℕ = get_or (lists_at x.lists m) i [] in
        let sh = shaped-validated p m validated known in
        size_to_fit_given risk_cuts ws (here m) list sh.successors (subst (λ (k : ℕ). 0 < k) (sym (weight-reweighted ws (here m).realizations (weighs i lt).count)) (some_sum (here m) ws sh.realizations (weighs i lt)))
        (narrow-validated p m validated known) (size-fault_of risk_cuts (with_weights ws (here m)) list e)

    holds_with : RiskSound (problem_of p) x.lists risk_cuts → (i : ℕ) → i < length (lists_at x.lists m) → fault_of risk_cuts (with_weights (get_or (lists_at x.lists m) i []) (here m)) list ≡ None → RiskHolds (problem_of p) x.lists m (cut_of risk_cuts (with_weights (get_or (lists_at x.lists m) i []) (here m)) list)
    holds_with s i lt e =
        let ws : List ℕ = get_or (lists_at x.lists m) i [] in
        let sh = shaped-validated p m validated known in
        risk_duality (problem_of p) x.lists risk_cuts m i ws list weighty sh s lt refl (weighs i lt).count (some_sum (here m) ws sh.realizations (weighs i lt)) (right-fault_of risk_cuts (with_weights ws (here m)) list e)

    pub risk_cut_fits : (c : Cut) → risk_cut_of risk_cuts (here m) list (lists_at x.lists m) ≡ Some c → CutFits (here m) c
    risk_cut_fits c is = risk_cut_has (CutFits (here m)) risk_cuts (here m) list (lists_at x.lists m) c fits_with is

    -- one risk cut more
    module _ (k : ℕ) (new : List (List Cut)) (added : risk_cut_added p x k risk_cuts m list ≡ Ok new) where
      pub fit_more : PoolsFit p risk_cuts → PoolsFit p new
      fit_more f =
          let a = added_risk_cut p x k risk_cuts m list new added in
          subst (λ (q : List (List Cut)). PoolsFit p q) a.2 (push_fit (problem_of p) (length p.parts.nodes) risk_cuts m a.0 f (risk_cut_fits a.0 a.1))

      pub risk_more : RiskSound (problem_of p) x.lists risk_cuts → RiskSound (problem_of p) x.lists new
      risk_more s =
          let a = added_risk_cut p x k risk_cuts m list new added in
          subst (λ (q : List (List Cut)). RiskSound (problem_of p) x.lists q) a.2 (push_risk (problem_of p) x.lists risk_cuts m a.0 s (risk_cut_has (RiskHolds (problem_of p) x.lists m) risk_cuts (here m) list (lists_at x.lists m) a.0 (holds_with s) a.1))
