-- Where the tree of a policy is refuted: at a branch, which is a realization of its node.
use Rattle.std.proofs.Common.{◌≡◌, ℕ, zero, suc, ◌<◌, ℤ, true, List, [], ◌∷◌, length, get_or, All, Contains, Option, Some, None, Result, Ok, Err, IfErr, sym, ap, subst, ◌∙◌}
use Rattle.std.proofs.lemmas.List.{get_or_default}
use Rattle.std.proofs.lemmas.List.Elements.{All-nil, All-cons}
use Rattle.base_num.specs.Steps.{◌>>=◌}
use Rattle.base_num.proofs.Sums.{All_head, All_tail}
use Rattle.problem.specs.declared.parts.Node as nodes
use Rattle.problem.specs.Parts.{successors_at}
use Rattle.problem.specs.Validated.{Validated, is_validated}
use Rattle.theory.specs.declared.cut.Cut.{Cut}
use Rattle.theory.specs.Problem.{S, Successor, Node, Realization, node_at}
use Rattle.theory.specs.Tree.{Forest, Tree, branch, times_all, tree}
use Rattle.theory.specs.View.{problem_of, realizations_of}
use Rattle.theory.proofs.ValidatedParts.{Parts, parts_of_node}
use Rattle.theory.proofs.ValidatedPremises.{leads-validated, successors-validated, root-validated}
use Rattle.theory.proofs.Views.{All-successors_of, realizations-node_of, root-problem_of}
use Rattle.plan_answer.specs.declared.classifying.Infeasibility.{Infeasibility}
use Rattle.lp_program.specs.Solving.{Solving}
use Rattle.plan_draw.specs.declared.steps.PathStep.{PathStep}
use Rattle.plan_draw.proofs.Draws.{made_at, root_counted}
use Rattle.plan_forward.specs.declared.deciding.Decided.{Decided}
use Rattle.plan_forward.specs.Costing.{residuals_of}
use Rattle.cut_pool.specs.AtNodes.{IsStateAt}
use Rattle.plan_forward.proofs.Arcs.{start-validated}
use Rattle.plan_forward.proofs.Boxes.{nested-validated, next_inside}
use Rattle.plan_mend.specs.Deciding.{decide_mended_of}
use Rattle.policy_evaluate.specs.PolicyTree.{Deciding, GrownPart, Stop, stop_behind, branch_of, infeasible, decide_branch, first_missed, grown_forest, grow, classified, missed, or_infeasible_stop, policy_tree, grown_tree, unless_missed, verdict_of, whole_tree}
use Rattle.policy_evaluate.proofs.Following.{Lawful}
use Rattle.policy_evaluate.proofs.Lawful.{lawful}
use Rattle.run_program.specs.Refuted.{IsRealized}
use Rattle.run_program.proofs.RefutedPlace.{Located, err_then, mended_located}
use Rattle.run_program.proofs.RefutedWalks.{values_realized}

-- what holds of an infeasibility
abbrev OnInfeasible : (Infeasibility → Type 0) → Stop → Type 0
OnInfeasible P (infeasible d) = P d
OnInfeasible P (missed m) = Unit {0}

infeasible_as : (P : Infeasibility → Type 0) (r : Result Decided Infeasibility) → IfErr r P → IfErr (or_infeasible_stop r) (OnInfeasible P)
infeasible_as P (Ok d) h = tt
infeasible_as P (Err x) h = h

missed_as : (P : Infeasibility → Type 0) (s : PathStep) (o : Option (ℕ × ℤ)) (d : Decided) → IfErr (unless_missed s o d) (OnInfeasible P)
missed_as P s None d = tt
missed_as P s (Some q) d = tt

behind_as : {A : Type 0} (P : Infeasibility → Type 0) (s : PathStep) (r : Result A Stop) → IfErr r (OnInfeasible P) → IfErr (stop_behind s r) (OnInfeasible P)
behind_as P s (Ok x) h = tt
behind_as P s (Err (infeasible d)) h = h
behind_as P s (Err (missed m)) h = tt

-- the realizations of a node, as the definitions see them
module _ (p : Validated) (m : ℕ) where
  abbrev Own : Realization → Type 0
  Own r = IsRealized p (record { node = m; values = r.values })

  seen_realized : (ws : List ℕ) (vs : List (List ℤ)) → All (λ (values : List ℤ). IsRealized p (record { node = m; values = values })) vs → All Own (realizations_of ws vs)
  seen_realized [] vs all = All-nil Own
  seen_realized (w ∷ ws) [] all = All-nil Own
  seen_realized (w ∷ ws) (v ∷ vs) all =
      All-cons Own (record { weight = w; values = v }) (realizations_of ws vs) (All_head (λ (values : List ℤ). IsRealized p (record { node = m; values = values })) v vs all)
      (seen_realized ws vs (All_tail (λ (values : List ℤ). IsRealized p (record { node = m; values = values })) v vs all))

  all_realized : is_validated p ≡ true → m < length p.parts.nodes → All Own (node_at (problem_of p) m).realizations
  all_realized e h =
      let q : Parts p m = parts_of_node p m e h in
      let values = made_at (λ (n : nodes.Node). n.values) p.parts.nodes m q.node [] q.fit.the_node in
      subst (λ (rs : List Realization). All Own rs) (sym (ap (λ (n : Node). n.realizations) q.fit.is ∙ realizations-node_of q.node q.subproblem q.low q.high))
      (seen_realized q.node.weights q.node.values (subst (λ (vs : List (List ℤ)). All (λ (values : List ℤ). IsRealized p (record { node = m; values = values })) vs) values (values_realized p m e h)))

module _ {Start Chain : Type 0} (v : Solving Start Chain) (p : Validated) (validated : is_validated p ≡ true) (pools : List (List Cut)) where
  abbrev Here : Stop → Type 0
  Here = OnInfeasible (Located p (IsRealized p))

  abbrev decide : Deciding
  decide = decide_branch v p pools

  decide_here : (k : ℕ) (s : PathStep) (values x : List ℤ) → s.node < length p.parts.nodes → IsRealized p (record { node = s.node; values = values }) → IsStateAt p s.node x → IfErr (decide k s values x) Here
  unfolding decide_branch
  decide_here k s values x known own inside =
      err_then Here (or_infeasible_stop (decide_mended_of v p pools k s.node values x)) (λ d. unless_missed s (first_missed 0 (residuals_of (node_at (problem_of p) s.node) d.decisions x values)) d)
      (infeasible_as (Located p (IsRealized p)) (decide_mended_of v p pools k s.node values x) (mended_located p (IsRealized p) s.node values x known own inside v pools k))
      (λ d is. missed_as (Located p (IsRealized p)) s (first_missed 0 (residuals_of (node_at (problem_of p) s.node) d.decisions x values)) d)

  -- what leaves a branch lies in the boxes of its successors
  next_here : (k : ℕ) (s : PathStep) (values x : List ℤ) (d : Decided) → s.node < length p.parts.nodes → decide k s values x ≡ Ok d → (j : ℕ) → Contains (successors_at p.parts s.node) j → IsStateAt p j d.next
  next_here k s values x d known is j c =
      let law : Lawful (problem_of p) (length p.parts.nodes) decide = lawful v p pools validated in
      subst (IsStateAt p j) (sym (law.leaves k s values x d is)) (next_inside (node_at (problem_of p) s.node) (node_at (problem_of p) j) d.decisions (nested-validated p s.node j validated known c) (law.decides k s values x d known is).box)

  -- the trees of successors
  abbrev Grows : (ℕ → ℕ → GrownPart Tree) → Successor → Type 0
  Grows grow_at l = (k : ℕ) → IfErr (grow_at k l.node) Here

  forest_located : (grow_at : ℕ → ℕ → GrownPart Tree) (ls : List Successor) (k : ℕ) → All (Grows grow_at) ls → IfErr (grown_forest grow_at k ls) Here
  forest_located grow_at [] k all = tt
  forest_located grow_at (l ∷ ls) k all =
      err_then Here (grow_at k l.node) (λ t. grown_forest grow_at t.1 ls >>= λ f. Ok (tree t.0 f.0, f.1)) (All_head (Grows grow_at) l ls all k)
      (λ t is. err_then Here (grown_forest grow_at t.1 ls) (λ f. Ok (tree t.0 f.0, f.1)) (forest_located grow_at ls t.1 (All_tail (Grows grow_at) l ls all)) (λ f s. tt))

  module _ (grow_at : List ℤ → ℕ → ℕ → GrownPart Tree) (m : ℕ) (known : m < length p.parts.nodes) (x : List ℤ) (inside : IsStateAt p m x)
      (each : (y : List ℤ) → ((j : ℕ) → Contains (successors_at p.parts m) j → IsStateAt p j y) → All (Grows (grow_at y)) (node_at (problem_of p) m).successors) where
    abbrev successors : List Successor
    successors = (node_at (problem_of p) m).successors

    branch_located : (k i : ℕ) (values : List ℤ) → IsRealized p (record { node = m; values = values }) → IfErr (branch_of decide grow_at successors k (record { node = m; realization = i }) values x) Here
    branch_located k i values own =
        err_then Here (decide k s values x) (λ d. stop_behind s (grown_forest (grow_at d.next) (suc k) successors) >>= λ f. Ok ((d.decisions, f.0), f.1)) (decide_here k s values x known own inside)
        (λ d is. err_then Here (stop_behind s (grown_forest (grow_at d.next) (suc k) successors)) (λ f. Ok ((d.decisions, f.0), f.1))
        (behind_as (Located p (IsRealized p)) s (grown_forest (grow_at d.next) (suc k) successors) (forest_located (grow_at d.next) successors (suc k) (each d.next (next_here k s values x d known is)))) (λ f r. tt))
      where
        s : PathStep
        s = record { node = m; realization = i }

    tree_located : (k i : ℕ) (rs : List Realization) → All (Own p m) rs → IfErr (grown_tree decide grow_at successors m k i rs x) Here
    tree_located k i [] all = tt
    tree_located k i (r ∷ rs) all =
        err_then Here (branch_of decide grow_at successors k (record { node = m; realization = i }) r.values x) (λ b. grown_tree decide grow_at successors m b.1 (suc i) rs x >>= λ t. Ok (branch b.0.0 b.0.1 t.0, t.1))
        (branch_located k i r.values (All_head (Own p m) r rs all))
        (λ b is. err_then Here (grown_tree decide grow_at successors m b.1 (suc i) rs x) (λ t. Ok (branch b.0.0 b.0.1 t.0, t.1)) (tree_located b.1 (suc i) rs (All_tail (Own p m) r rs all)) (λ t s. tt))

  grown_located : (n : ℕ) (x : List ℤ) (k m : ℕ) → m < length p.parts.nodes → IsStateAt p m x → IfErr (grow decide (problem_of p) n x k m) Here
  grown_located zero x k m known inside = tt
  grown_located (suc n) x k m known inside =
      tree_located (grow decide (problem_of p) n) m known x inside
      (λ y next i d there j. grown_located n y j (get_or (node_at (problem_of p) m).successors i d).node (successors-validated p m validated known i d there) (next (get_or (node_at (problem_of p) m).successors i d).node (leads-validated p m validated known i d there).1))
      k 0 (node_at (problem_of p) m).realizations (all_realized p m validated known)

  -- the initial state lies in the boxes of the root's successors
  start_here : All (λ (l : Successor). IsStateAt p l.node (times_all S (problem_of p).initial)) (problem_of p).root
  start_here =
      subst (λ (ls : List Successor). All (λ (l : Successor). IsStateAt p l.node (times_all S (problem_of p).initial)) ls) (sym (root-problem_of p))
      (All-successors_of (λ (l : Successor). IsStateAt p l.node (times_all S (problem_of p).initial)) p.parts.root p.parts.root_weights (root_counted p validated)
      (λ i h. start-validated p (get_or p.parts.root i 0) validated (root_counted p validated) (i, h, get_or_default p.parts.root i (get_or p.parts.root i 0) 0 h)))

  policy_located : IfErr (policy_tree v p pools) Here
  unfolding policy_tree
  policy_located =
      err_then Here (whole_tree decide (problem_of p) p.longest) (λ f. Ok f.0)
      (forest_located (grow decide (problem_of p) p.longest (times_all S (problem_of p).initial)) (problem_of p).root 0
      (λ i d there k. grown_located p.longest (times_all S (problem_of p).initial) k (get_or (problem_of p).root i d).node (root-validated p validated i d there) (start_here i d there)))
      (λ f is. tt)

  classified_as : (r : Result Forest Stop) → IfErr r Here → IfErr (classified (problem_of p) r) (Located p (IsRealized p))
  classified_as (Ok f) h = tt
  classified_as (Err (infeasible d)) h = h
  classified_as (Err (missed m)) h = tt

  pub verdict_located : IfErr (verdict_of v p pools) (Located p (IsRealized p))
  unfolding verdict_of
  verdict_located = classified_as (policy_tree v p pools) policy_located
