-- A policy of the file is a policy of the problem, at the same cost.
use Rattle.std.proofs.Common.{◌≡◌, ℕ, ◌+◌, ℤ, List, [], ◌∷◌, map, sum, get_or, All, slice_get, Option, Some, IsSomeAnd, option_map, unwrap_or, refl, ap, ap₂, subst, ◌∙◌}
use Rattle.std.proofs.lemmas.List.Elements.{All-head, All-tail}
use Rattle.std.proofs.lemmas.List.Sums.{sum_by-cons}
use Rattle.problem.specs.Validated.{Validated}
use Rattle.theory.specs.Fraction.{Fraction, nothing, plus, times, over, weighted}
use Rattle.theory.specs.Premises.{Nested}
use Rattle.theory.specs.Problem as theory
use Rattle.theory.specs.Problem.{node_at, weight_of_realizations, successor_weight, weight_of_successors}
use Rattle.theory.specs.Tree.{InBox, Decides, next_state, FeasibleTree, FeasibleForest}
use Rattle.theory.specs.Cost.{stage, cost_sum, costs_of}
use Rattle.theory.specs.View.{problem_of}
use Rattle.theory.proofs.Duality.{in_next}
use Rattle.read_profile.specs.File.{Name, Numbers, Stage, FileRealization, FileSuccessor, FileNode, File}
use Rattle.read_meaning.specs.Meaning as meaning
use Rattle.read_meaning.specs.Meaning.{Volumes, Satisfies, leaving, FilePlan, Plans, no_plan, plan, Meets, MeetAfter, file_successor_weights, average, mean, branches_cost, costs}
use Rattle.read_meaning.specs.Said.{Pairs, validated_node_names, validated_state_names, own, Are, SameSuccessor, tree_of, forest_of}
use Rattle.read_meaning.proofs.SameStages.{StageAt}
use Rattle.read_meaning.proofs.Nodes.{NodeSays}

pub file_successor_weights-same : (s : Validated) (ls : List FileSuccessor) (ks : List theory.Successor) → Pairs (SameSuccessor s) ls ks → file_successor_weights ls ≡ theory.successor_weights ks
file_successor_weights-same s [] [] h = refl
file_successor_weights-same s [] (k ∷ ks) h = absurd h
file_successor_weights-same s (l ∷ ls) [] h = absurd h
file_successor_weights-same s (l ∷ ls) (k ∷ ks) h = ap₂ ◌∷◌ h.0.weight (file_successor_weights-same s ls ks h.1)

pub weights-same : (names own : List Name) (n : theory.Node) (t : Stage) (rs : List FileRealization) (qs : List theory.Realization) → Pairs (StageAt names own n t) rs qs → sum (map (λ (r : FileRealization). r.weight) rs) ≡ weight_of_realizations qs
weights-same names own n t [] [] h = refl
weights-same names own n t [] (q ∷ qs) h = absurd h
weights-same names own n t (r ∷ rs) [] h = absurd h
weights-same names own n t (r ∷ rs) (q ∷ qs) h = sum_by-cons (λ k. k) r.weight (map (λ (r : FileRealization). r.weight) rs) ∙ ap₂ ◌+◌ h.0.weight (weights-same names own n t rs qs h.1)

average-same : (stop : ℕ) (ks : List theory.Successor) (fs : List Fraction) → average stop (theory.successor_weights ks) fs ≡ over (weighted (theory.successor_weights ks) fs) (weight_of_successors stop ks)
average-same stop [] fs = refl
average-same stop (k ∷ ks) fs = refl

-- the state lies in the box of a successor, and in those of these successors
abbrev pub InBoxOf : Validated → ℕ → List ℤ → theory.Successor → Type 0
InBoxOf s units xi k = InBox units (node_at (problem_of s) k.node).low (node_at (problem_of s) k.node).high xi

abbrev pub InBoxesOf : Validated → ℕ → List ℤ → List theory.Successor → Type 0
InBoxesOf s units xi ks = All (InBoxOf s units xi) ks

-- decisions in their boxes lead into the boxes of the successors
pub boxes_after : (s : Validated) (units : ℕ) (n : theory.Node) (u : List ℤ) → All (λ (l : theory.Successor). Nested n (node_at (problem_of s) l.node)) n.successors → InBox units n.decision_low n.decision_high u → InBoxesOf s units (next_state n u) n.successors
boxes_after s units n u nested b = λ k d q. in_next units n (node_at (problem_of s) (get_or n.successors k d).node) u (nested k d q) b

module _ (s : Validated) (f : File) (says : (m : ℕ) (k : Name) → slice_get (validated_node_names s) m ≡ Some k → NodeSays s f m k) where
  -- the statement about the node that an arc leads to
  pub at_successor : (l : FileSuccessor) (k : theory.Successor) → SameSuccessor s l k → NodeSays s f k.node l.node
  at_successor l k h = says k.node l.node h.node

  led : (units : ℕ) (l : FileSuccessor) (k : theory.Successor) (x : Volumes) (q : FilePlan) (h : SameSuccessor s l k) → IsSomeAnd (f.nodes l.node) (λ n. Meets f units n n.realizations x q) → Meets f units (at_successor l k h).node (at_successor l k h).node.realizations x q
  led units l k x q h m = subst (λ o. IsSomeAnd o (λ n. Meets f units n n.realizations x q)) (at_successor l k h).there m

  -- numbers that satisfy the stage are decided, and lead on
  decided : (units m : ℕ) (t : Stage) (r : FileRealization) (q : theory.Realization) (x : Volumes) (xi : List ℤ) (y : Numbers) → StageAt (validated_state_names s) (own s m) (node_at (problem_of s) m) t r q → Are s x xi → InBox units (node_at (problem_of s) m).low (node_at (problem_of s) m).high xi
      → Satisfies units t r x y → Decides units (node_at (problem_of s) m) q.values xi (map y (own s m))
  decided units m t r q x xi y h e box sat = (h.kept units x xi y e box sat.states sat.randoms).0 sat.constraints

  mutual
    pub tree-meets : (units m : ℕ) (n : FileNode) (rs : List FileRealization) (qs : List theory.Realization) (x : Volumes) (xi : List ℤ) (b : FilePlan) → Pairs (SameSuccessor s) n.successors (node_at (problem_of s) m).successors
        → All (λ (l : theory.Successor). Nested (node_at (problem_of s) m) (node_at (problem_of s) l.node)) (node_at (problem_of s) m).successors → Pairs (StageAt (validated_state_names s) (own s m) (node_at (problem_of s) m) n.stage) rs qs
        → Are s x xi → InBox units (node_at (problem_of s) m).low (node_at (problem_of s) m).high xi → Meets f units n rs x b → FeasibleTree (problem_of s) units (node_at (problem_of s) m) qs xi (tree_of s m b)
    tree-meets units m n [] [] x xi meaning.no_branch ls nest h e box g = tt
    tree-meets units m n [] (q ∷ qs) x xi b ls nest h e box g = absurd h
    tree-meets units m n (r ∷ rs) [] x xi b ls nest h e box g = absurd h
    tree-meets units m n (r ∷ rs) (q ∷ qs) x xi meaning.no_branch ls nest h e box g = absurd g
    tree-meets units m n [] [] x xi (meaning.branch y ps b) ls nest h e box g = absurd g
    tree-meets units m n (r ∷ rs) (q ∷ qs) x xi (meaning.branch y ps b) ls nest h e box g =
        let node : theory.Node = node_at (problem_of s) m in
        let d = decided units m n.stage r q x xi y h.0 e box g.0 in (
          d,
          forest-meets units n.successors node.successors (leaving n.stage.states y) (next_state node (map y (own s m))) ps ls (h.0.next units x xi y e g.0) (boxes_after s units node (map y (own s m)) nest d.box) g.1,
          tree-meets units m n rs qs x xi b ls nest h.1 e box g.2,
        )

    pub forest-meets : (units : ℕ) (ls : List FileSuccessor) (ks : List theory.Successor) (x : Volumes) (xi : List ℤ) (ps : Plans) → Pairs (SameSuccessor s) ls ks → Are s x xi → InBoxesOf s units xi ks → MeetAfter f units ls x ps → FeasibleForest (problem_of s) units ks xi (forest_of s ks ps)
    forest-meets units [] [] x xi no_plan h e box g = tt
    forest-meets units [] (k ∷ ks) x xi ps h e box g = absurd h
    forest-meets units (l ∷ ls) [] x xi ps h e box g = absurd h
    forest-meets units (l ∷ ls) (k ∷ ks) x xi no_plan h e box g = absurd g
    forest-meets units [] [] x xi (plan b ps) h e box g = absurd g
    forest-meets units (l ∷ ls) (k ∷ ks) x xi (plan b ps) h e box g =
        let at = at_successor l k h.0 in (
          tree-meets units k.node at.node at.node.realizations (node_at (problem_of s) k.node).realizations x xi b at.successors at.nested at.stages e (All-head (InBoxOf s units xi) k ks box) (led units l k x b h.0 g.0),
          forest-meets units ls ks x xi ps h.1 e (All-tail (InBoxOf s units xi) k ks box) g.1,
        )

  mutual
    pub tree-costs : (units m : ℕ) (n : FileNode) (rs : List FileRealization) (qs : List theory.Realization) (x : Volumes) (xi : List ℤ) (b : FilePlan) → n.stop ≡ (node_at (problem_of s) m).stop → Pairs (SameSuccessor s) n.successors (node_at (problem_of s) m).successors
        → Pairs (StageAt (validated_state_names s) (own s m) (node_at (problem_of s) m) n.stage) rs qs → Are s x xi → Meets f units n rs x b → branches_cost f units n rs b ≡ cost_sum (problem_of s) units (node_at (problem_of s) m) qs xi (tree_of s m b)
    tree-costs units m n rs qs x xi meaning.no_branch st ls h e g = refl
    tree-costs units m n [] [] x xi (meaning.branch y ps b) st ls h e g = refl
    tree-costs units m n [] (q ∷ qs) x xi (meaning.branch y ps b) st ls h e g = absurd h
    tree-costs units m n (r ∷ rs) [] x xi (meaning.branch y ps b) st ls h e g = absurd h
    tree-costs units m n (r ∷ rs) (q ∷ qs) x xi (meaning.branch y ps b) st ls h e g =
        let node : theory.Node = node_at (problem_of s) m in
        let u : List ℤ = map y (own s m) in
        let later = forest-costs units n.successors node.successors (leaving n.stage.states y) (next_state node u) ps ls (h.0.next units x xi y e g.0) g.1 in
        let future : Fraction = over (weighted (theory.successor_weights node.successors) (costs_of (problem_of s) units node.successors (next_state node u) (forest_of s node.successors ps))) (successor_weight node) in
        let ahead : average n.stop (file_successor_weights n.successors) (costs f units n.successors ps) ≡ future =
        ap (λ (t : ℕ). average t (file_successor_weights n.successors) (costs f units n.successors ps)) st
        ∙ ap₂ (λ (ws : List ℕ) (cs : List Fraction). average node.stop ws cs) (file_successor_weights-same s n.successors node.successors ls) later
        ∙ average-same node.stop node.successors _ in
        ap₂ (λ (w : ℕ) (g : Fraction). plus (times w g) (branches_cost f units n rs b)) h.0.weight (ap₂ plus (h.0.cost units x xi y e g.0) ahead)
        ∙ ap (λ (g : Fraction). plus (times q.weight (plus (stage units node q.values xi u) future)) g) (tree-costs units m n rs qs x xi b st ls h.1 e g.2)

    pub forest-costs : (units : ℕ) (ls : List FileSuccessor) (ks : List theory.Successor) (x : Volumes) (xi : List ℤ) (ps : Plans) → Pairs (SameSuccessor s) ls ks → Are s x xi → MeetAfter f units ls x ps → costs f units ls ps ≡ costs_of (problem_of s) units ks xi (forest_of s ks ps)
    forest-costs units ls ks x xi no_plan h e g = refl
    forest-costs units [] [] x xi (plan b ps) h e g = absurd g
    forest-costs units [] (k ∷ ks) x xi (plan b ps) h e g = absurd h
    forest-costs units (l ∷ ls) [] x xi (plan b ps) h e g = absurd h
    forest-costs units (l ∷ ls) (k ∷ ks) x xi (plan b ps) h e g =
        let at = at_successor l k h.0 in
        let node : theory.Node = node_at (problem_of s) k.node in
        ap₂ ◌∷◌
        (ap (λ (o : Option FileNode). unwrap_or (option_map (λ (n : FileNode). mean n.realizations (branches_cost f units n n.realizations b)) o) nothing) at.there
        ∙ ap₂ over (tree-costs units k.node at.node at.node.realizations node.realizations x xi b at.stop at.successors at.stages e (led units l k x b h.0 g.0)) (weights-same (validated_state_names s) (own s k.node) node at.node.stage at.node.realizations node.realizations at.stages))
        (forest-costs units ls ks x xi ps h.1 e g.1)
