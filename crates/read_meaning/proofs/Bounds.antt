-- The file and the problem that is read from it mean the same: nodes, policies and their costs, and so bounds and cuts.
use Rattle.std.proofs.Common.{◌≡◌, ◌↔◌, ℕ, zero, suc, ◌*◌, ◌<◌, ℤ, pos, ◌+ℤ◌, ◌*ℤ◌, true, List, [], ◌∷◌, length, map, sum, get_or, Contains, slice_get, Option, Some, IsSomeAnd, refl, sym, ap, ap₂, subst, ◌∙◌, arith}
use Rattle.std.proofs.lemmas.List.Elements.{All-contains, All-weaker}
use Rattle.std.proofs.lemmas.Option.{same_Some}
use Rattle.base_num.specs.Sums.{dot}
use Rattle.problem.specs.Validated.{Validated, is_validated}
use Rattle.theory.specs.declared.cut.Cut.{Cut}
use Rattle.theory.specs.Bound.{Under}
use Rattle.theory.specs.Cost as theory
use Rattle.theory.specs.Fraction.{Fraction, ◌≤ᶠ◌, over, weighted}
use Rattle.theory.specs.Pools.{Holds}
use Rattle.theory.specs.Premises.{StartsIn}
use Rattle.theory.specs.Problem as problems
use Rattle.theory.specs.Problem.{node_at}
use Rattle.theory.specs.Tree.{Forest, Policy, InBox, Decides, next_state, times_all}
use Rattle.theory.specs.View.{problem_of}
use Rattle.theory.proofs.BoundBelow.{start_in}
use Rattle.theory.proofs.ValidatedPremises.{root_shaped-validated}
use Rattle.theory.proofs.Views.{root-problem_of, initial-problem_of}
use Rattle.read_profile.specs.File.{Name, Numbers, Stage, FileRealization, FileSuccessor, FileNode, File}
use Rattle.read_meaning.specs.Meaning.{Volumes, in_units, Satisfies, leaving, starting, FilePlan, Plans, IsPolicy, Meets, average, file_plan_cost, file_policy_cost, IsBound, Comes, first, next, IsCut}
use Rattle.read_meaning.specs.Said.{Pairs, validated_node_names, validated_state_names, own, Are, SameStage, SameSuccessor, SameNode, tree_of, forest_of}
use Rattle.read_file.specs.Said.{FileSaid}
use Rattle.read_meaning.proofs.Names.{one_place}
use Rattle.read_meaning.proofs.Stages.{same_Somes, map_map}
use Rattle.read_meaning.proofs.SameStages.{StageAt}
use Rattle.read_meaning.proofs.Nodes.{NodeSays, node_says, nodes_differ, same_successors}
use Rattle.read_meaning.proofs.Policies.{InBoxOf, InBoxesOf, boxes_after, file_successor_weights-same, weights-same, tree-meets, forest-meets, tree-costs, forest-costs}
use Rattle.read_meaning.proofs.Every.{forest-planned}

same_stages : (s : Validated) (m : ℕ) (t : Stage) (rs : List FileRealization) (qs : List problems.Realization) → Pairs (StageAt (validated_state_names s) (own s m) (node_at (problem_of s) m) t) rs qs → Pairs (SameStage s m t) rs qs
same_stages s m t [] [] h = tt
same_stages s m t [] (q ∷ qs) h = absurd h
same_stages s m t (r ∷ rs) [] h = absurd h
same_stages s m t (r ∷ rs) (q ∷ qs) h = (record { weight = h.0.weight; kept = h.0.kept; next = h.0.next; cost = h.0.cost }, same_stages s m t rs qs h.1)

-- the root's average, whose weights are there
root_average : (ks : List problems.Successor) (cs : List Fraction) → 0 < sum (problems.successor_weights ks) → average 0 (problems.successor_weights ks) cs ≡ over (weighted (problems.successor_weights ks) cs) (sum (problems.successor_weights ks))
root_average [] cs h = absurd (omega arith)
root_average (k ∷ ks) cs h = ap (over (weighted (problems.successor_weights (k ∷ ks)) cs)) (omega arith)

-- the member beside a member
beside_at : {A B : Type 0} (P : A → B → Type 0) (xs : List A) (ys : List B) (x : A) (i : ℕ) → Pairs P xs ys → i < length xs → get_or xs i x ≡ x → (y : B) × Contains ys y × P x y
beside_at P [] ys x i h l e = absurd (omega arith)
beside_at P (a ∷ xs) [] x i h l e = absurd h
beside_at P (a ∷ xs) (b ∷ ys) x zero h l e = (b, (0, omega arith, refl), subst (λ z. P z b) e h.0)
beside_at P (a ∷ xs) (b ∷ ys) x (suc i) h l e =
    let r = beside_at P xs ys x i h.1 (omega arith) e in
    (r.0, (suc r.1.0, omega (arith, r.1.1), r.1.2), r.2)

beside : {A B : Type 0} (P : A → B → Type 0) (xs : List A) (ys : List B) (x : A) → Pairs P xs ys → Contains xs x → (y : B) × Contains ys y × P x y
beside P xs ys x h c = beside_at P xs ys x c.0 h c.1 c.2

module _ (s : Validated) (e : is_validated s ≡ true) (f : File) (said : FileSaid s.parts f) where
  says : (m : ℕ) (k : Name) → slice_get (validated_node_names s) m ≡ Some k → NodeSays s f m k
  says = node_says s e f said

  -- ---- the root

  pub root_successors : Pairs (SameSuccessor s) f.root (problem_of s).root
  root_successors = subst (λ (ks : List problems.Successor). Pairs (SameSuccessor s) f.root ks) (sym (root-problem_of s)) (same_successors s f.root s.parts.root s.parts.root_weights said.root)

  pub initial_is : map f.initial f.states ≡ map Some (problem_of s).initial
  initial_is = said.initial ∙ ap (map Some) (sym (initial-problem_of s))

  starts_are : (units : ℕ) → Are s (starting f units) (times_all units (problem_of s).initial)
  starts_are units =
      sym (map_map f.initial (in_units units) (validated_state_names s))
      ∙ ap (λ (ks : List Name). map (in_units units) (map f.initial ks)) (sym said.states)
      ∙ ap (map (in_units units)) initial_is
      ∙ map_map Some (in_units units) (problem_of s).initial
      ∙ sym (map_map (λ (z : ℤ). pos units *ℤ z) Some (problem_of s).initial)

  starts_in : (units : ℕ) → InBoxesOf s units (times_all units (problem_of s).initial) (problem_of s).root
  starts_in units =
      All-weaker (λ (l : problems.Successor). StartsIn (problem_of s) (node_at (problem_of s) l.node)) (InBoxOf s units (times_all units (problem_of s).initial))
      (λ l h. start_in (problem_of s) units (node_at (problem_of s) l.node) h) (problem_of s).root (root_shaped-validated s e).boxes

  -- ---- nodes and policies

  pub same_node : (m : ℕ) (k : Name) → slice_get f.names m ≡ Some k → IsSomeAnd (f.nodes k) (SameNode s m)
  same_node m k h =
      let at = says m k (subst (λ (ks : List Name). slice_get ks m ≡ Some k) said.names h) in
      subst (λ (o : Option FileNode). IsSomeAnd o (SameNode s m)) (sym at.there) (record {
        realizations = same_stages s m at.node.stage at.node.realizations (node_at (problem_of s) m).realizations at.stages;
        successors = at.successors;
        stop = at.stop;
      })

  pub policy_is : (units : ℕ) (ps : Plans) → IsPolicy f units ps → Policy (problem_of s) units (forest_of s (problem_of s).root ps)
  policy_is units ps h = forest-meets s f says units f.root (problem_of s).root (starting f units) (times_all units (problem_of s).initial) ps root_successors (starts_are units) (starts_in units) h

  pub cost_is : (units : ℕ) (ps : Plans) → IsPolicy f units ps → file_policy_cost f units ps ≡ theory.policy_cost (problem_of s) units (forest_of s (problem_of s).root ps)
  cost_is units ps h =
      ap₂ (λ (ws : List ℕ) (cs : List Fraction). average 0 ws cs) (file_successor_weights-same s f.root (problem_of s).root root_successors)
      (forest-costs s f says units f.root (problem_of s).root (starting f units) (times_all units (problem_of s).initial) ps root_successors (starts_are units) h)
      ∙ root_average (problem_of s).root _ (root_shaped-validated s e).some

  pub every_policy : (units : ℕ) (t : Forest) → Policy (problem_of s) units t → (ps : Plans) × (forest_of s (problem_of s).root ps ≡ t) × IsPolicy f units ps
  every_policy units t h = forest-planned s f says units f.root (problem_of s).root (starting f units) (times_all units (problem_of s).initial) t root_successors (starts_are units) (starts_in units) h

  -- ---- bounds

  bound_to : (b : ℤ) → Under (problem_of s) b → IsBound f b
  unfolding problems.S
  bound_to b h units ps z g = subst (λ (c : Fraction). record { up = b; under = 16777216 } ≤ᶠ c) (sym (cost_is units ps g)) (h units (forest_of s (problem_of s).root ps) z (policy_is units ps g))

  bound_from : (b : ℤ) → IsBound f b → Under (problem_of s) b
  unfolding problems.S
  bound_from b h units t z g =
      let ps = every_policy units t g in
      subst (λ (u : Forest). record { up = b; under = 16777216 } ≤ᶠ theory.policy_cost (problem_of s) units u) ps.1
      (subst (λ (c : Fraction). record { up = b; under = 16777216 } ≤ᶠ c) (cost_is units ps.0 ps.2) (h units ps.0 z ps.2))

  pub same_bounds : (b : ℤ) → Under (problem_of s) b ↔ IsBound f b
  same_bounds b = (bound_to b, bound_from b)

  -- ---- cuts

  -- the volumes are a state in the box of the node with this name
  record LiesIn (units : ℕ) (k : Name) (x : Volumes) : Type 0 where
    pub number : ℕ
    pub named : slice_get (validated_node_names s) number ≡ Some k
    pub state : List ℤ
    pub are : Are s x state
    pub box : InBox units (node_at (problem_of s) number).low (node_at (problem_of s) number).high state

  lies_first : (units : ℕ) (l : FileSuccessor) → Contains f.root l → LiesIn units l.node (starting f units)
  lies_first units l c =
      let k = beside (SameSuccessor s) f.root (problem_of s).root l root_successors c in
      record {
        number = k.0.node;
        named = k.2.node;
        state = times_all units (problem_of s).initial;
        are = starts_are units;
        box = All-contains (InBoxOf s units (times_all units (problem_of s).initial)) (problem_of s).root k.0 (starts_in units) k.1;
      }

  lies_next : (units : ℕ) (k : Name) (n : FileNode) (x : Volumes) (r : FileRealization) (y : Numbers) (l : FileSuccessor) → LiesIn units k x → f.nodes k ≡ Some n → Contains n.realizations r → Satisfies units n.stage r x y → Contains n.successors l → LiesIn units l.node (leaving n.stage.states y)
  lies_next units k n x r y l h there =
      let at = says h.number k h.named in
      subst (λ (n : FileNode). Contains n.realizations r → Satisfies units n.stage r x y → Contains n.successors l → LiesIn units l.node (leaving n.stage.states y)) (same_Some at.node n (sym at.there ∙ there)) (go at)
    where
      go : (at : NodeSays s f h.number k) → Contains at.node.realizations r → Satisfies units at.node.stage r x y → Contains at.node.successors l → LiesIn units l.node (leaving at.node.stage.states y)
      go at c sat d =
          let node : problems.Node = node_at (problem_of s) h.number in
          let q = beside (StageAt (validated_state_names s) (own s h.number) node at.node.stage) at.node.realizations node.realizations r at.stages c in
          let k = beside (SameSuccessor s) at.node.successors node.successors l at.successors d in
          let u : List ℤ = map y (own s h.number) in
          let decided : Decides units node q.0.values h.state u = (q.2.kept units x h.state y h.are h.box sat.states sat.randoms).0 sat.constraints in
          record {
            number = k.0.node;
            named = k.2.node;
            state = next_state node u;
            are = q.2.next units x h.state y h.are sat;
            box = All-contains (InBoxOf s units (next_state node u)) node.successors k.0 (boxes_after s units node u at.nested decided.box) k.1;
          }

  lies : (units : ℕ) (k : Name) (x : Volumes) → Comes f units k x → LiesIn units k x
  lies units k x (first l c) = lies_first units l c
  lies units k x (next j n w r y l before there c sat d) = lies_next units j n w r y l (lies units j w before) there c sat d

  -- at the state that comes to the node m
  cut_at : (m : ℕ) (k : Name) (c : Cut) (units : ℕ) (x : Volumes) (xi : List ℤ) (p : FilePlan) (at : NodeSays s f m k) → Holds (problem_of s) m c → 0 < units → Are s x xi → InBox units (node_at (problem_of s) m).low (node_at (problem_of s) m).high xi
      → Meets f units at.node at.node.realizations x p → record { up = c.alpha *ℤ pos units +ℤ dot c.beta xi; under = 16777216 * units } ≤ᶠ file_plan_cost f units at.node p
  unfolding problems.S
  cut_at m k c units x xi p at h z are box g =
      let node : problems.Node = node_at (problem_of s) m in
      let same : file_plan_cost f units at.node p ≡ theory.cost (problem_of s) units m xi (tree_of s m p) =
      ap₂ over (tree-costs s f says units m at.node at.node.realizations node.realizations x xi p at.stop at.successors at.stages are g) (weights-same (validated_state_names s) (own s m) node at.node.stage at.node.realizations node.realizations at.stages) in
      subst (λ (b : Fraction). record { up = c.alpha *ℤ pos units +ℤ dot c.beta xi; under = 16777216 * units } ≤ᶠ b) (sym same)
      (h units xi (tree_of s m p) z box (tree-meets s f says units m at.node at.node.realizations node.realizations x xi p at.successors at.nested at.stages are box g))

  pub cut_is : (m : ℕ) (k : Name) (c : Cut) → slice_get f.names m ≡ Some k → Holds (problem_of s) m c → IsCut f k c.alpha c.beta
  cut_is m k c named h units n x xs p z there comes is_xs g =
      let name : slice_get (validated_node_names s) m ≡ Some k = subst (λ (ks : List Name). slice_get ks m ≡ Some k) said.names named in
      let at = says m k name in
      let l = lies units k x comes in
      let number : l.number ≡ m = one_place (validated_node_names s) l.number m k (nodes_differ s e) l.named name in
      let box : InBox units (node_at (problem_of s) m).low (node_at (problem_of s) m).high l.state = subst (λ (j : ℕ). InBox units (node_at (problem_of s) j).low (node_at (problem_of s) j).high l.state) number l.box in
      let states : l.state ≡ xs = same_Somes l.state xs (sym l.are ∙ ap (map x) (sym said.states) ∙ is_xs) in
      let node : at.node ≡ n = same_Some at.node n (sym at.there ∙ there) in
      let meets : Meets f units at.node at.node.realizations x p = subst (λ (n : FileNode). Meets f units n n.realizations x p) (sym node) g in
      subst (λ (n : FileNode). record { up = c.alpha *ℤ pos units +ℤ dot c.beta xs; under = 16777216 * units } ≤ᶠ file_plan_cost f units n p) node
      (subst (λ (zs : List ℤ). record { up = c.alpha *ℤ pos units +ℤ dot c.beta zs; under = 16777216 * units } ≤ᶠ file_plan_cost f units at.node p) states
      (cut_at m k c units x l.state p at h z l.are box meets))
