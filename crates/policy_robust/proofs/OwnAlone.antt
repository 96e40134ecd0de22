-- Where each node lists its own weights alone, nothing changes.
use Rattle.std.proofs.Common.{◌≡◌, ℕ, ◌+◌, ◌<◌, ℤ, List, [], ◌∷◌, length, map, sum, get_or, zip, All, Option, Some, None, refl, ap, ap₂, ◌∙◌, if◌then◌else◌, arith}
use Rattle.std.specs.Prelude.{is_none}
use Rattle.std.proofs.lemmas.List.Sums.{sum_by-cons}
use Rattle.base_num.proofs.Sums.{All_head, All_tail}
use Rattle.theory.specs.declared.cut.Cut.{Cut}
use Rattle.theory.specs.declared.cut.Certificate.{Certificate}
use Rattle.theory.specs.Certificates.{PairsRight, RightAt, Right}
use Rattle.theory.specs.CutOf.{cut_of}
use Rattle.theory.specs.Cost.{stage, cost, cost_sum, costs_of, policy_cost}
use Rattle.theory.specs.Fraction.{Fraction, plus, times, over, weighted}
use Rattle.theory.specs.Pools.{pool}
use Rattle.theory.specs.Premises.{Known}
use Rattle.theory.specs.Problem.{Realization, Successor, Node, Problem, node_at, successor_weights, weight_of_realizations, successor_weight, reweighted, with_weights}
use Rattle.theory.specs.Tree.{next_state, times_all, Tree, Forest, no_branch, branch, no_tree, tree}
use Rattle.theory.proofs.GivenWeights.{right_with_weights}
use Rattle.cut_make.specs.declared.fault.CertFault.{CertFault}
use Rattle.cut_make.specs.Reweighting.{cut_with}
use Rattle.cut_make.specs.Acceptance.{fault_of, range_fault}
use Rattle.cut_check.proofs.Accepted.{right-fault_of}
use Rattle.cut_check.proofs.Faultless.{right-range_fault}
use Rattle.policy_robust.specs.Listed.{own_weights}
use Rattle.policy_robust.specs.RiskCuts.{better, risk_cut_of}
use Rattle.policy_robust.specs.RiskCost.{ListsOwn, worst, branch_risk_costs, risk_costs, risk_cost, risk_policy_cost}

sum-own : (rs : List Realization) → sum (map (λ (r : Realization). r.weight) rs) ≡ weight_of_realizations rs
sum-own [] = refl
sum-own (r ∷ rs) = sum_by-cons (λ k. k) r.weight (map (λ (r : Realization). r.weight) rs) ∙ ap (λ (k : ℕ). r.weight + k) (sum-own rs)

module _ (p : Problem) (count : ℕ) (x : List (List (List ℕ))) (known : Known p count) (alone : ListsOwn p count x) (units : ℕ) where
  abbrev Inside : List Successor → Type 0
  Inside ls = All (λ (l : Successor). l.node < count) ls

  node_from : (m : ℕ) (xi : List ℤ) (t : Tree) → m < count → weighted (own_weights (node_at p m)) (branch_risk_costs p x units (node_at p m) (node_at p m).realizations xi t) ≡ cost_sum p units (node_at p m) (node_at p m).realizations xi t
      → risk_cost p x units m xi t ≡ cost p units m xi t
  node_from m xi t h e =
      ap (λ (lists : List (List ℕ)). worst lists (branch_risk_costs p x units (node_at p m) (node_at p m).realizations xi t)) (alone m h)
      ∙ ap₂ over e (sum-own (node_at p m).realizations)

  mutual
    same_sum : (n : Node) (rs : List Realization) (xi : List ℤ) (t : Tree) → Inside n.successors → weighted (map (λ (r : Realization). r.weight) rs) (branch_risk_costs p x units n rs xi t) ≡ cost_sum p units n rs xi t
    same_sum n [] xi no_branch h = refl
    same_sum n (r ∷ rs) xi no_branch h = refl
    same_sum n [] xi (branch u f t) h = refl
    same_sum n (r ∷ rs) xi (branch u f t) h =
        ap₂ (λ (costs : List Fraction) (tail : Fraction). plus (times r.weight (plus (stage units n r.values xi u) (over (weighted (successor_weights n.successors) costs) (successor_weight n)))) tail) (same_costs n.successors (next_state n u) f h) (same_sum n rs xi t h)

    same_costs : (ls : List Successor) (xi : List ℤ) (f : Forest) → Inside ls → risk_costs p x units ls xi f ≡ costs_of p units ls xi f
    same_costs ls xi no_tree h = refl
    same_costs [] xi (tree t f) h = refl
    same_costs (l ∷ ls) xi (tree t f) h =
        let b : l.node < count = All_head (λ (l : Successor). l.node < count) l ls h in
        ap₂ (λ (c : Fraction) (cs : List Fraction). c ∷ cs) (node_from l.node xi t b (same_sum (node_at p l.node) (node_at p l.node).realizations xi t (known.successors l.node b)))
        (same_costs ls xi f (All_tail (λ (l : Successor). l.node < count) l ls h))

  pub own_policy : All (λ (l : Successor). l.node < count) p.root → (f : Forest) → risk_policy_cost p x units f ≡ policy_cost p units f
  own_policy h f = ap (λ (costs : List Fraction). over (weighted (successor_weights p.root) costs) (sum (successor_weights p.root))) (same_costs p.root (times_all units p.initial) f h)

  pub own_cost : (m : ℕ) (xi : List ℤ) (t : Tree) → m < count → risk_cost p x units m xi t ≡ cost p units m xi t
  own_cost m xi t h = node_from m xi t h (same_sum (node_at p m) (node_at p m).realizations xi t (known.successors m h))

-- the node's own weights change nothing
same_realizations : (rs : List Realization) → reweighted (map (λ (r : Realization). r.weight) rs) rs ≡ rs
same_realizations [] = refl
same_realizations (r ∷ rs) = ap (λ (qs : List Realization). r ∷ qs) (same_realizations rs)

pub with_own : (n : Node) → with_weights (own_weights n) n ≡ n
with_own n = ap (λ (rs : List Realization). record n { realizations = rs }) (same_realizations n.realizations)

own_cut : (risk_cuts : List (List Cut)) (n : Node) (list : List Certificate) → fault_of risk_cuts n list ≡ None → cut_with risk_cuts n list (own_weights n) ≡ Some (cut_of risk_cuts n list)
unfolding cut_with
own_cut risk_cuts n list h =
    ap (λ (k : Node). if is_none (fault_of risk_cuts k list) then Some (cut_of risk_cuts k list) else None) (with_own n)
    ∙ ap (λ (o : Option CertFault). if is_none o then Some (cut_of risk_cuts n list) else None) h

pub risk_cut-own : (risk_cuts : List (List Cut)) (n : Node) (list : List Certificate) → fault_of risk_cuts n list ≡ None → risk_cut_of risk_cuts n list (own_weights n ∷ []) ≡ Some (cut_of risk_cuts n list)
unfolding risk_cut_of
risk_cut-own risk_cuts n list h = ap (λ (o : Option Cut). better n.low None o) (own_cut risk_cuts n list h)

-- a list that is right over pools is right over risk cuts of the same number
right_elsewhere : (pools risk_cuts : List (List Cut)) (n : Node) (list : List Certificate) → ((m : ℕ) → length (pool risk_cuts m) ≡ length (pool pools m)) → Right pools n list → Right risk_cuts n list
right_elsewhere pools risk_cuts n list same r = record {
  count = r.count;
  each = λ k d h. let q : RightAt pools n (get_or list k d) = r.each k d h in record {
    rows = q.rows;
    successors = q.successors;
    signs = q.signs;
    pairs = λ j b i. let s : PairsRight pools (get_or (zip n.successors (get_or list k d).cuts) j b) = q.pairs j b i in record { rising = s.rising; there = λ g e l. omega (arith, s.there g e l, same (get_or (zip n.successors (get_or list k d).cuts) j b).0.node); positive = s.positive; sum = s.sum };
  };
}

pub range-elsewhere : (pools risk_cuts : List (List Cut)) (ws : List ℕ) (n : Node) (list : List Certificate) → ((m : ℕ) → length (pool risk_cuts m) ≡ length (pool pools m)) → length ws ≡ length n.realizations → fault_of pools n list ≡ None
    → fault_of risk_cuts (with_weights ws n) list ≡ range_fault risk_cuts (with_weights ws n) list
range-elsewhere pools risk_cuts ws n list same count none =
    right-range_fault risk_cuts (with_weights ws n) list (right_with_weights risk_cuts ws n list count (right_elsewhere pools risk_cuts n list same (right-fault_of pools n list none)))
