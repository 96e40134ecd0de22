-- The cut of a right list over the parts of a node, and at a node with its own weights, where its size is in range.
use Rattle.std.proofs.Common.{◌≡◌, ◌<◌, ℕ, ℤ, true, List, length, Result, Ok, Err, Some, None, IfOk, MatchResult, sym, ap, subst, ◌∙◌}
use Rattle.problem.specs.declared.parts.Node as nodes
use Rattle.problem.specs.declared.parts.Subproblem.{Subproblem}
use Rattle.problem.specs.Validated.{Validated, is_validated}
use Rattle.theory.specs.declared.cut.Cut.{Cut}
use Rattle.theory.specs.declared.cut.Certificate.{Certificate}
use Rattle.theory.specs.Problem.{Node, node_at, with_weights}
use Rattle.theory.specs.View.{node_of, problem_of}
use Rattle.theory.specs.CutOf.{slope, cut_of}
use Rattle.theory.specs.Certificates.{Right}
use Rattle.theory.specs.Range.{range_of}
use Rattle.theory.specs.Fit.{CutFits}
use Rattle.theory.specs.Pools.{Holds, Sound}
use Rattle.theory.proofs.Duality.{weak_duality}
use Rattle.theory.proofs.ValidatedPremises.{shaped-validated, narrow-validated}
use Rattle.theory.proofs.Ranges.{within-range_of}
use Rattle.theory.proofs.SizeToFit.{length_table, size_to_fit_given}
use Rattle.cut_make.specs.declared.fault.CertFault.{CertFault}
use Rattle.cut_make.specs.Acceptance.{Accepts, fault_of}
use Rattle.cut_make.specs.Parts.{Limited, Cuttable}
use Rattle.cut_make.specs.Sized.{Sized}
use Rattle.cut_check.proofs.Accepted.{right-fault_of, range-fault_of}
use Rattle.cut_make.specs.NodeParts.{NodeParts}
use Rattle.cut_make.proofs.OwnWeights.{OwnWeights}
use Rattle.cut_make.proofs.PartsOfNode.{own_weighted}
use Rattle.cut_make.proofs.ValidatedCuttable.{cuttable, given_weight}

-- a consequence of two things that are so on success
both_then : {E : Type 0} (r : Result (Unit {0}) E) (P Q R : Type 0) → IfOk r (λ u. P) → IfOk r (λ u. Q) → (P → Q → R) → IfOk r (λ u. R)
both_then (Ok u) P Q R p q f = f p q
both_then (Err e) P Q R p q f = tt

-- a right list whose size is in range
abbrev pub InRange : List (List Cut) → Node → List Certificate → Type 0
InRange pools n list = Right pools n list × (range_of pools n list ≡ None)

-- an accepted list is right, and its size is in range
pub accepted_in_range : (pools : List (List Cut)) (n : Node) (list : List Certificate) (r : Result (Unit {0}) CertFault) → Accepts r (fault_of pools n list) → IfOk r (λ u. InRange pools n list)
accepted_in_range pools n list (Ok u) a = (right-fault_of pools n list a, range-fault_of pools n list a)
accepted_in_range pools n list (Err f) a = tt

-- a right list of which no realization is told is in range
pub right_in_range : (pools : List (List Cut)) (n : Node) (list : List Certificate) (r : Result (Unit {0}) ℕ) → Right pools n list → MatchResult r (λ u. range_of pools n list ≡ None) (λ k. range_of pools n list ≡ Some k) → IfOk r (λ u. InRange pools n list)
right_in_range pools n list (Ok u) right range = (right, range)
right_in_range pools n list (Err k) right range = tt

-- the cut of a list over the parts of a node
module _ (n : nodes.Node) (s : Subproblem) (low high : List ℤ) (ws : List ℕ) (pools : List (List Cut)) (list : List Certificate) (k : Node) (is : k ≡ with_weights ws (node_of n s low high)) where
  pub cuttable_in_range : Limited n s → Sized pools n s low ws → length low ≡ length s.state_costs → Right pools k list → range_of pools k list ≡ None → Cuttable pools n s low ws list
  cuttable_in_range limits sized states right none =
      let own : Node = with_weights ws (node_of n s low high) in
      cuttable n s low high ws pools list limits sized states (subst (λ (x : Node). Right pools x list) is right)
      (within-range_of pools own list (subst (λ (x : Node). range_of pools x list ≡ None) is none))

pub slopes_given : (pools : List (List Cut)) (ws : List ℕ) (n : nodes.Node) (s : Subproblem) (low high : List ℤ) (list : List Certificate) → length (cut_of pools (with_weights ws (node_of n s low high)) list).beta ≡ length low
unfolding node_of
slopes_given pools ws n s low high list = length_table (length low) (slope (with_weights ws (node_of n s low high)) list)

-- the cut of a list at a node of a validated problem, with its own weights
module _ (p : Validated) (m : ℕ) (pools : List (List Cut)) (list : List Certificate) (e : is_validated p ≡ true) (h : m < length p.parts.nodes) where
  pub in_range_fits : (ws : List ℕ) → OwnWeights ws (node_at (problem_of p) m) → range_of pools (node_at (problem_of p) m) list ≡ None → (cut : Cut) → cut ≡ cut_of pools (node_at (problem_of p) m) list → CutFits (node_at (problem_of p) m) cut
  in_range_fits ws own none cut value =
      let k : Node = node_at (problem_of p) m in
      subst (CutFits k) (sym (value ∙ ap (λ (x : Node). cut_of pools x list) (sym own.own)))
      (size_to_fit_given pools ws k list (shaped-validated p m e h).successors (given_weight p m ws e h own.weighs.count own.weighs.positive) (narrow-validated p m e h)
      (within-range_of pools (with_weights ws k) list (ap (λ (x : Node). range_of pools x list) own.own ∙ none)))

  pub right_holds : Right pools (node_at (problem_of p) m) list → (cut : Cut) → cut ≡ cut_of pools (node_at (problem_of p) m) list → Sound (problem_of p) pools → Holds (problem_of p) m cut
  right_holds right cut value sound = subst (Holds (problem_of p) m) (sym value) (weak_duality (problem_of p) pools m list (shaped-validated p m e h) sound right)

-- an answer and a cut over the node's parts are so at the node
module _ (p : Validated) (m : ℕ) (pools qs : List (List Cut)) (list : List Certificate) (ws vs : List ℕ) (n : nodes.Node) (s : Subproblem) (low high : List ℤ) (parts : NodeParts p m qs vs n s low high) (h : m < length p.parts.nodes) (own : OwnWeights ws (node_at (problem_of p) m))
    (weights : vs ≡ ws) (same : qs ≡ pools) where
  is : with_weights vs (node_of n s low high) ≡ node_at (problem_of p) m
  is = own_weighted p m qs ws vs n s low high parts weights own.own

  pub made_accepted : (r : Result (Unit {0}) CertFault) → Accepts r (fault_of qs (with_weights vs (node_of n s low high)) list) → Accepts r (fault_of pools (node_at (problem_of p) m) list)
  made_accepted r a = rw (← same, ← is) a

  pub given_right : Right pools (node_at (problem_of p) m) list → Right qs (with_weights vs (node_of n s low high)) list
  given_right right = rw (same, is) right

  pub made_range : (r : Result (Unit {0}) ℕ)
      → MatchResult r (λ u. range_of qs (with_weights vs (node_of n s low high)) list ≡ None) (λ k. range_of qs (with_weights vs (node_of n s low high)) list ≡ Some k)
      → MatchResult r (λ u. range_of pools (node_at (problem_of p) m) list ≡ None) (λ k. range_of pools (node_at (problem_of p) m) list ≡ Some k)
  made_range r a = rw (← same, ← is) a

  module _ {E : Type 0} (r : Result (Unit {0}) E) (cut : Cut) (v : IfOk r (λ u. cut ≡ cut_of qs (with_weights vs (node_of n s low high)) list)) where
    pub made_value : IfOk r (λ u. cut ≡ cut_of pools (node_at (problem_of p) m) list)
    made_value = rw (← same, ← is) v

    pub made_fits : IfOk r (λ u. InRange pools (node_at (problem_of p) m) list) → IfOk r (λ u. CutFits (node_at (problem_of p) m) cut)
    made_fits i = both_then r (InRange pools (node_at (problem_of p) m) list) (cut ≡ cut_of pools (node_at (problem_of p) m) list) (CutFits (node_at (problem_of p) m) cut) i made_value
        (λ in_range value. in_range_fits p m pools list parts.validated h ws own in_range.1 cut value)

    pub made_holds : IfOk r (λ u. InRange pools (node_at (problem_of p) m) list) → IfOk r (λ u. Sound (problem_of p) pools → Holds (problem_of p) m cut)
    made_holds i = both_then r (InRange pools (node_at (problem_of p) m) list) (cut ≡ cut_of pools (node_at (problem_of p) m) list) (Sound (problem_of p) pools → Holds (problem_of p) m cut) i made_value
        (λ in_range value sound. right_holds p m pools list parts.validated h in_range.0 cut value sound)
