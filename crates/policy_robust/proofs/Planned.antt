-- A risk cut is the cut of a list of weights with which its certificates are accepted.
use Rattle.std.proofs.Common.{map, ◌≡◌, ◌∙◌, ℕ, suc, ◌<◌, ℤ, Bool, true, false, List, [], ◌∷◌, length, get_or, Option, Some, None, IfSome, Ok, Err, int_lt, refl, sym, subst, ap, arith, if◌then◌else◌}
use Rattle.std.specs.Prelude.{is_none, slice_get}
use Rattle.std.proofs.lemmas.Option.{get_or_from_slice_get}
use Rattle.problem.specs.declared.parts.Node as nodes
use Rattle.problem.specs.declared.parts.Subproblem.{Subproblem}
use Rattle.problem.specs.Validated.{Validated, is_validated}
use Rattle.theory.proofs.ValidatedParts.{Parts, parts_of_node}
use Rattle.theory.specs.declared.cut.Cut.{Cut}
use Rattle.theory.specs.declared.cut.Certificate.{Certificate}
use Rattle.theory.specs.Problem.{Node, node_at, with_weights}
use Rattle.theory.specs.Pools.{push}
use Rattle.theory.specs.CutOf.{cut_of}
use Rattle.theory.specs.Bound.{value_of_cut}
use Rattle.theory.specs.View.{node_of, problem_of}
use Rattle.cut_make.specs.declared.fault.CertFault.{CertFault}
use Rattle.cut_make.specs.Acceptance.{fault_of}
use Rattle.cut_make.specs.Reweighting.{cut_with}
use Rattle.policy_robust.specs.declared.alternatives.Alternatives.{Alternatives}
use Rattle.policy_robust.specs.Listed.{lists_at}
use Rattle.policy_robust.specs.RiskCuts.{better, best_from, risk_cut_of, failing_realization, add_or_stop, risk_cut_added}
use Rattle.policy_robust.proofs.Each.{same_ok}

module _ (P : Cut → Type 0) where
  pub better_has : (x : List ℤ) (best next : Option Cut) → IfSome best P → IfSome next P → IfSome (better x best next) P
  better_has x best None h i = h
  better_has x None (Some c) h i = i
  better_has x (Some b) (Some c) h i = by (int_lt (value_of_cut b x) (value_of_cut c x))
    where
      by : (t : Bool) → IfSome (if t then Some c else Some b) P
      by true = i
      by false = h

  module _ (risk_cuts : List (List Cut)) (n : Node) (list : List Certificate) where
    cut_has : (ws : List ℕ) → (fault_of risk_cuts (with_weights ws n) list ≡ None → P (cut_of risk_cuts (with_weights ws n) list)) → IfSome (cut_with risk_cuts n list ws) P
    unfolding cut_with
    cut_has ws h = by (fault_of risk_cuts (with_weights ws n) list) refl
      where
        by : (o : Option CertFault) → fault_of risk_cuts (with_weights ws n) list ≡ o → IfSome (if is_none o then Some (cut_of risk_cuts (with_weights ws n) list) else None) P
        by None e = h e
        by (Some f) e = tt

    -- a property of the cut of each list with which the certificates are accepted
    abbrev pub OfEach : List (List ℕ) → Type 0
    OfEach lists = (i : ℕ) → i < length lists → fault_of risk_cuts (with_weights (get_or lists i []) n) list ≡ None → P (cut_of risk_cuts (with_weights (get_or lists i []) n) list)

    best_has : (best : Option Cut) (lists : List (List ℕ)) → IfSome best P → OfEach lists → IfSome (best_from n.low best (map (cut_with risk_cuts n list) lists)) P
    best_has best [] h g = h
    best_has best (ws ∷ lists) h g =
        best_has (better n.low best (cut_with risk_cuts n list ws)) lists (better_has n.low best (cut_with risk_cuts n list ws) h (cut_has ws (λ e. g 0 (omega arith) e))) (λ i lt e. g (suc i) (omega arith) e)

    pub risk_cut_has : (lists : List (List ℕ)) (c : Cut) → OfEach lists → risk_cut_of risk_cuts n list lists ≡ Some c → P c
    unfolding risk_cut_of
    risk_cut_has lists c g is = subst (λ (o : Option Cut). IfSome o P) is (best_has None lists tt g)

-- a risk cut that was added
pub added_risk_cut : (p : Validated) (x : Alternatives) (k : ℕ) (risk_cuts : List (List Cut)) (m : ℕ) (list : List Certificate) (new : List (List Cut)) → risk_cut_added p x k risk_cuts m list ≡ Ok new
    → (c : Cut) × (risk_cut_of risk_cuts (node_at (problem_of p) m) list (lists_at x.lists m) ≡ Some c) × (push risk_cuts m c ≡ new)
unfolding risk_cut_added
added_risk_cut p x k risk_cuts m list new e = by (risk_cut_of risk_cuts (node_at (problem_of p) m) list (lists_at x.lists m)) refl e
  where
    by : (o : Option Cut) → risk_cut_of risk_cuts (node_at (problem_of p) m) list (lists_at x.lists m) ≡ o → add_or_stop k m (failing_realization risk_cuts (node_at (problem_of p) m) list (lists_at x.lists m)) risk_cuts o ≡ Ok new
        → (c : Cut) × (risk_cut_of risk_cuts (node_at (problem_of p) m) list (lists_at x.lists m) ≡ Some c) × (push risk_cuts m c ≡ new)
    by None is e = absurd cc
    by (Some c) is e = (c, is, same_ok (push risk_cuts m c) new e)

pub none_left : {A : Type 0} (xs : List A) → length xs ≡ 0 → xs ≡ []
none_left [] e = refl
none_left (x ∷ xs) e = absurd (omega arith)

-- the lower end of a node's box
low_of : (n : nodes.Node) (s : Subproblem) (low high : List ℤ) → (node_of n s low high).low ≡ low
unfolding node_of
low_of n s low high = refl

pub low_is : (p : Validated) (m : ℕ) (low : List ℤ) → is_validated p ≡ true → m < length p.parts.nodes → slice_get p.lo m ≡ Some low → low ≡ (node_at (problem_of p) m).low
low_is p m low e h at =
    let q : Parts p m = parts_of_node p m e h in
    sym (get_or_from_slice_get p.lo m low [] at) ∙ get_or_from_slice_get p.lo m q.low [] q.fit.the_low ∙ sym (ap (λ (n : Node). n.low) q.fit.is ∙ low_of q.node q.subproblem q.low q.high)

-- the addition of a step
module _ (p : Validated) (x : Alternatives) (k : ℕ) (risk_cuts : List (List Cut)) (m : ℕ) (list : List Certificate) (lists : List (List ℕ)) (is : lists ≡ lists_at x.lists m) where
  abbrev there : Node
  there = node_at (problem_of p) m

  pub added_some : (c : Cut) → risk_cut_of risk_cuts there list lists ≡ Some c → risk_cut_added p x k risk_cuts m list ≡ Ok (push risk_cuts m c)
  unfolding risk_cut_added
  added_some c h = ap (λ (o : Option Cut). add_or_stop k m (failing_realization risk_cuts there list (lists_at x.lists m)) risk_cuts o) (ap (λ (ls : List (List ℕ)). risk_cut_of risk_cuts there list ls) (sym is) ∙ h)

  pub added_none : (r : ℕ) → risk_cut_of risk_cuts there list lists ≡ None → r ≡ failing_realization risk_cuts there list lists → risk_cut_added p x k risk_cuts m list ≡ Err (k, m, r)
  unfolding risk_cut_added
  added_none r h e =
      ap (λ (o : Option Cut). add_or_stop k m (failing_realization risk_cuts there list (lists_at x.lists m)) risk_cuts o) (ap (λ (ls : List (List ℕ)). risk_cut_of risk_cuts there list ls) (sym is) ∙ h)
      ∙ ap (λ (n : ℕ). add_or_stop k m n risk_cuts None) (ap (λ (ls : List (List ℕ)). failing_realization risk_cuts there list ls) (sym is) ∙ sym e)
