-- The tree of a policy is feasible.
use Rattle.std.proofs.Common.{◌≡◌, ℕ, zero, suc, ◌<◌, ℤ, true, List, [], ◌∷◌, length, get_or, All, Result, Ok, Err, IfOk, refl, subst, arith}
use Rattle.base_num.specs.Steps.{◌>>=◌}
use Rattle.base_num.proofs.Sums.{All_head, All_tail}
use Rattle.base_graph.specs.Ranks.{rank}
use Rattle.base_graph.proofs.Falling.{rank_falls}
use Rattle.problem.specs.Validated.{Validated, is_validated, graph_of}
use Rattle.problem.proofs.ValidatedFacts.{parts-is_validated, known_graph}
use Rattle.theory.specs.Problem.{S, Realization, Successor, Node, Problem, node_at}
use Rattle.theory.specs.Tree.{Tree, Forest, branch, tree, next_state, times_all, Decides, FeasibleTree, FeasibleForest, Policy}
use Rattle.theory.specs.View.{problem_of}
use Rattle.theory.proofs.ValidatedOrder.{no_cycle-validated}
use Rattle.theory.proofs.ValidatedPremises.{leads-validated, successors-validated, root-validated}
use Rattle.plan_draw.specs.declared.steps.PathStep.{PathStep}
use Rattle.plan_forward.specs.declared.deciding.Decided.{Decided}
use Rattle.policy_evaluate.specs.PolicyTree.{Deciding, Stop, infeasible, missed, GrownPart, stop_behind, grown_forest, branch_of, grown_tree, grow, whole_tree}

-- a property of a result, step by step
pub if_then : {A B E : Type 0} (P : A → Type 0) (Q : B → Type 0) (r : Result A E) (f : A → Result B E) → IfOk r P → ((x : A) → P x → IfOk (f x) Q) → IfOk (r >>= f) Q
if_then P Q (Ok x) f h k = k x h
if_then P Q (Err e) f h k = tt

if_behind : {A : Type 0} (P : A → Type 0) (s : PathStep) (r : Result A Stop) → IfOk r P → IfOk (stop_behind s r) P
if_behind P s (Ok x) h = h
if_behind P s (Err (infeasible d)) h = tt
if_behind P s (Err (missed m)) h = tt

-- the decision at a node is feasible, and leaves the node as its next state
pub record Lawful (p : Problem) (count : ℕ) (decide : Deciding) : Type 0 where
  pub decides : (k : ℕ) (s : PathStep) (values x : List ℤ) (d : Decided) → s.node < count → decide k s values x ≡ Ok d → Decides S (node_at p s.node) values x d.decisions
  pub leaves : (k : ℕ) (s : PathStep) (values x : List ℤ) (d : Decided) → decide k s values x ≡ Ok d → d.next ≡ next_state (node_at p s.node) d.decisions

module _ (p : Problem) (count : ℕ) (decide : Deciding) (lawful : Lawful p count decide) where
  -- the trees that a function grows are feasible, at these successors
  abbrev Grows : (ℕ → ℕ → GrownPart Tree) → List ℤ → List Successor → Type 0
  Grows grow_at x ls = All (λ (l : Successor). (k : ℕ) → IfOk (grow_at k l.node) (λ (t : Tree × ℕ). FeasibleTree p S (node_at p l.node) (node_at p l.node).realizations x t.0)) ls

  forest_feasible : (grow_at : ℕ → ℕ → GrownPart Tree) (x : List ℤ) (ls : List Successor) (k : ℕ) → Grows grow_at x ls → IfOk (grown_forest grow_at k ls) (λ (f : Forest × ℕ). FeasibleForest p S ls x f.0)
  forest_feasible grow_at x [] k h = tt
  forest_feasible grow_at x (l ∷ ls) k h =
      if_then (λ (t : Tree × ℕ). FeasibleTree p S (node_at p l.node) (node_at p l.node).realizations x t.0) (λ (f : Forest × ℕ). FeasibleForest p S (l ∷ ls) x f.0) (grow_at k l.node) (λ t. grown_forest grow_at t.1 ls >>= λ f. Ok (tree t.0 f.0, f.1))
      (All_head (λ (l : Successor). (k : ℕ) → IfOk (grow_at k l.node) (λ (t : Tree × ℕ). FeasibleTree p S (node_at p l.node) (node_at p l.node).realizations x t.0)) l ls h k)
      (λ t own. if_then (λ (f : Forest × ℕ). FeasibleForest p S ls x f.0) (λ (f : Forest × ℕ). FeasibleForest p S (l ∷ ls) x f.0) (grown_forest grow_at t.1 ls) (λ f. Ok (tree t.0 f.0, f.1))
      (forest_feasible grow_at x ls t.1 (All_tail (λ (l : Successor). (k : ℕ) → IfOk (grow_at k l.node) (λ (t : Tree × ℕ). FeasibleTree p S (node_at p l.node) (node_at p l.node).realizations x t.0)) l ls h))
      (λ f tail. (own, tail)))

  abbrev IsBranch : Node → List ℤ → List ℤ → List ℤ × Forest → Type 0
  IsBranch n values x b = Decides S n values x b.0 × FeasibleForest p S n.successors (next_state n b.0) b.1

  branch_feasible : (grow_at : List ℤ → ℕ → ℕ → GrownPart Tree) (m i k : ℕ) (values x : List ℤ) → m < count → ((x : List ℤ) → Grows (grow_at x) x (node_at p m).successors) → IfOk (branch_of decide grow_at (node_at p m).successors k (record { node = m; realization = i }) values x) (λ (b : (List ℤ × Forest) × ℕ). IsBranch (node_at p m) values x b.0)
  branch_feasible grow_at m i k values x known each = by (decide k s values x) refl
    where
      s : PathStep
      s = record { node = m; realization = i }

      node : Node
      node = node_at p m

      by : (r : Result Decided Stop) → decide k s values x ≡ r → IfOk (r >>= λ d. stop_behind s (grown_forest (grow_at d.next) (suc k) node.successors) >>= λ f. Ok ((d.decisions, f.0), f.1)) (λ (b : (List ℤ × Forest) × ℕ). IsBranch node values x b.0)
      by (Err stop) e = tt
      by (Ok d) e =
          if_then (λ (f : Forest × ℕ). FeasibleForest p S node.successors d.next f.0) (λ (b : (List ℤ × Forest) × ℕ). IsBranch node values x b.0) (stop_behind s (grown_forest (grow_at d.next) (suc k) node.successors)) (λ f. Ok ((d.decisions, f.0), f.1))
          (if_behind (λ (f : Forest × ℕ). FeasibleForest p S node.successors d.next f.0) s (grown_forest (grow_at d.next) (suc k) node.successors) (forest_feasible (grow_at d.next) d.next node.successors (suc k) (each d.next)))
          (λ f h. (lawful.decides k s values x d known e, subst (λ (y : List ℤ). FeasibleForest p S node.successors y f.0) (lawful.leaves k s values x d e) h))

  tree_feasible : (grow_at : List ℤ → ℕ → ℕ → GrownPart Tree) (m : ℕ) (x : List ℤ) → m < count → ((x : List ℤ) → Grows (grow_at x) x (node_at p m).successors) → (rs : List Realization) (i k : ℕ) → IfOk (grown_tree decide grow_at (node_at p m).successors m k i rs x) (λ (t : Tree × ℕ). FeasibleTree p S (node_at p m) rs x t.0)
  tree_feasible grow_at m x known each [] i k = tt
  tree_feasible grow_at m x known each (r ∷ rs) i k =
      let n : Node = node_at p m in
      if_then (λ (b : (List ℤ × Forest) × ℕ). IsBranch n r.values x b.0) (λ (t : Tree × ℕ). FeasibleTree p S n (r ∷ rs) x t.0) (branch_of decide grow_at n.successors k (record { node = m; realization = i }) r.values x)
      (λ b. grown_tree decide grow_at n.successors m b.1 (suc i) rs x >>= λ t. Ok (branch b.0.0 b.0.1 t.0, t.1))
      (branch_feasible grow_at m i k r.values x known each)
      (λ b own. if_then (λ (t : Tree × ℕ). FeasibleTree p S n rs x t.0) (λ (t : Tree × ℕ). FeasibleTree p S n (r ∷ rs) x t.0) (grown_tree decide grow_at n.successors m b.1 (suc i) rs x) (λ t. Ok (branch b.0.0 b.0.1 t.0, t.1))
      (tree_feasible grow_at m x known each rs (suc i) b.1)
      (λ t tail. (own.0, own.1, tail)))

-- no path has more stages than its rank says, so each tree is whole
module _ (p : Validated) (e : is_validated p ≡ true) (decide : Deciding) (lawful : Lawful (problem_of p) (length p.parts.nodes) decide) where
  grown_feasible : (n m : ℕ) (x : List ℤ) (k : ℕ) → rank (graph_of p.parts) m < n → m < length p.parts.nodes → IfOk (grow decide (problem_of p) n x k m) (λ (t : Tree × ℕ). FeasibleTree (problem_of p) S (node_at (problem_of p) m) (node_at (problem_of p) m).realizations x t.0)
  grown_feasible zero m x k h known = absurd (omega (arith, h))
  grown_feasible (suc n) m x k h known =
      tree_feasible (problem_of p) (length p.parts.nodes) decide lawful (grow decide (problem_of p) n) m x known
      (λ y i d inside.
      let l : Successor = get_or (node_at (problem_of p) m).successors i d in
      let leads = (leads-validated p m e known i d inside).1 in
      let lower = rank_falls (graph_of p.parts) m l.node (known_graph p.parts (parts-is_validated p e)) (no_cycle-validated p e) leads in
      λ j. grown_feasible n l.node y j (omega (arith, lower, h)) (successors-validated p m e known i d inside))
      (node_at (problem_of p) m).realizations 0 k

  pub policy_feasible : (n : ℕ) → All (λ (l : Successor). rank (graph_of p.parts) l.node < n) (problem_of p).root → IfOk (whole_tree decide (problem_of p) n) (λ (f : Forest × ℕ). Policy (problem_of p) S f.0)
  policy_feasible n h =
      forest_feasible (problem_of p) (length p.parts.nodes) decide lawful (grow decide (problem_of p) n (times_all S (problem_of p).initial)) (times_all S (problem_of p).initial) (problem_of p).root 0
      (λ i d inside k. grown_feasible n (get_or (problem_of p).root i d).node (times_all S (problem_of p).initial) k (h i d inside) (root-validated p e i d inside))
