-- Each policy of the problem comes of one of the file.
use Rattle.std.proofs.Common.{◌≡◌, ℕ, ℤ, List, [], ◌∷◌, map, All, slice_get, Option, Some, IsSomeAnd, refl, sym, ap, ap₂, subst, ◌∙◌}
use Rattle.std.proofs.lemmas.List.Elements.{All-head, All-tail}
use Rattle.problem.specs.Validated.{Validated}
use Rattle.theory.specs.Premises.{Nested}
use Rattle.theory.specs.Problem as theory
use Rattle.theory.specs.Problem.{node_at}
use Rattle.theory.specs.Tree.{Tree, Forest, no_branch, branch, no_tree, tree, InBox, Decides, next_state, FeasibleTree, FeasibleForest}
use Rattle.theory.specs.View.{problem_of}
use Rattle.read_profile.specs.File.{Name, Numbers, Stage, FileRealization, FileSuccessor, FileNode, File}
use Rattle.read_meaning.specs.Meaning as meaning
use Rattle.read_meaning.specs.Meaning.{Volumes, Satisfies, leaving, FilePlan, Plans, no_plan, plan, Meets, MeetAfter}
use Rattle.read_meaning.specs.Said.{Pairs, validated_node_names, validated_state_names, own, Are, SameSuccessor, tree_of, forest_of}
use Rattle.read_meaning.proofs.SameStages.{StageAt}
use Rattle.read_meaning.proofs.Nodes.{NodeSays}
use Rattle.read_meaning.proofs.Policies.{InBoxOf, InBoxesOf, boxes_after, at_successor}

-- numbers that satisfy the stage, with these decisions
abbrev Chosen : Validated → ℕ → ℕ → Stage → FileRealization → Volumes → List ℤ → Type 0
Chosen s units m t r x u = (y : Numbers) × (map y (own s m) ≡ u) × Satisfies units t r x y

chosen : (s : Validated) (units m : ℕ) (t : Stage) (r : FileRealization) (q : theory.Realization) (x : Volumes) (xi u : List ℤ) → StageAt (validated_state_names s) (own s m) (node_at (problem_of s) m) t r q → Are s x xi → InBox units (node_at (problem_of s) m).low (node_at (problem_of s) m).high xi
    → Decides units (node_at (problem_of s) m) q.values xi u → Chosen s units m t r x u
chosen s units m t r q x xi u h e box d =
    let n = h.numbers units x xi u e d.box.count in
    let same : Decides units (node_at (problem_of s) m) q.values xi (map n.0 (own s m)) = subst (Decides units (node_at (problem_of s) m) q.values xi) (sym n.1) d in (
      n.0,
      n.1,
      record {
        states = n.2;
        randoms = n.3;
        constraints = (h.kept units x xi n.0 e box n.2 n.3).1 same;
      },
    )

module _ (s : Validated) (f : File) (says : (m : ℕ) (k : Name) → slice_get (validated_node_names s) m ≡ Some k → NodeSays s f m k) where
  mutual
    pub tree-planned : (units m : ℕ) (n : FileNode) (rs : List FileRealization) (qs : List theory.Realization) (x : Volumes) (xi : List ℤ) (t : Tree) → Pairs (SameSuccessor s) n.successors (node_at (problem_of s) m).successors
        → All (λ (l : theory.Successor). Nested (node_at (problem_of s) m) (node_at (problem_of s) l.node)) (node_at (problem_of s) m).successors → Pairs (StageAt (validated_state_names s) (own s m) (node_at (problem_of s) m) n.stage) rs qs
        → Are s x xi → InBox units (node_at (problem_of s) m).low (node_at (problem_of s) m).high xi → FeasibleTree (problem_of s) units (node_at (problem_of s) m) qs xi t → (b : FilePlan) × (tree_of s m b ≡ t) × Meets f units n rs x b
    tree-planned units m n [] [] x xi no_branch ls nest h e box g = (meaning.no_branch, refl, tt)
    tree-planned units m n [] (q ∷ qs) x xi t ls nest h e box g = absurd h
    tree-planned units m n (r ∷ rs) [] x xi t ls nest h e box g = absurd h
    tree-planned units m n (r ∷ rs) (q ∷ qs) x xi no_branch ls nest h e box g = absurd g
    tree-planned units m n [] [] x xi (branch u fo t) ls nest h e box g = absurd g
    tree-planned units m n (r ∷ rs) (q ∷ qs) x xi (branch u fo t) ls nest h e box g =
        let node : theory.Node = node_at (problem_of s) m in
        let c = chosen s units m n.stage r q x xi u h.0 e box g.0 in
        let next : Are s (leaving n.stage.states c.0) (next_state node u) = subst (λ (v : List ℤ). Are s (leaving n.stage.states c.0) (next_state node v)) c.1 (h.0.next units x xi c.0 e c.2) in
        let after = forest-planned units n.successors node.successors (leaving n.stage.states c.0) (next_state node u) fo ls next (boxes_after s units node u nest g.0.box) g.1 in
        let beside = tree-planned units m n rs qs x xi t ls nest h.1 e box g.2 in (
          meaning.branch c.0 after.0 beside.0,
          ap₂ (λ (v : List ℤ) (w : Forest). branch v w (tree_of s m beside.0)) c.1 after.1 ∙ ap (branch u fo) beside.1,
          (c.2, after.2, beside.2),
        )

    pub forest-planned : (units : ℕ) (ls : List FileSuccessor) (ks : List theory.Successor) (x : Volumes) (xi : List ℤ) (fo : Forest) → Pairs (SameSuccessor s) ls ks → Are s x xi → InBoxesOf s units xi ks → FeasibleForest (problem_of s) units ks xi fo → (ps : Plans) × (forest_of s ks ps ≡ fo) × MeetAfter f units ls x ps
    forest-planned units [] [] x xi no_tree h e box g = (no_plan, refl, tt)
    forest-planned units [] (k ∷ ks) x xi fo h e box g = absurd h
    forest-planned units (l ∷ ls) [] x xi fo h e box g = absurd h
    forest-planned units (l ∷ ls) (k ∷ ks) x xi no_tree h e box g = absurd g
    forest-planned units [] [] x xi (tree t fo) h e box g = absurd g
    forest-planned units (l ∷ ls) (k ∷ ks) x xi (tree t fo) h e box g =
        let at = at_successor s f says l k h.0 in
        let one = tree-planned units k.node at.node at.node.realizations (node_at (problem_of s) k.node).realizations x xi t at.successors at.nested at.stages e (All-head (InBoxOf s units xi) k ks box) g.0 in
        let tail = forest-planned units ls ks x xi fo h.1 e (All-tail (InBoxOf s units xi) k ks box) g.1 in
        (plan one.0 tail.0, ap₂ tree one.1 tail.1, (subst (λ (o : Option FileNode). IsSomeAnd o (λ n. Meets f units n n.realizations x one.0)) (sym at.there) one.2, tail.2))
