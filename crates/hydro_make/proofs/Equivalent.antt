-- A plan is workable where its tree is a policy, and each policy is the tree of its plan: inductions over the stages.
use Rattle.std.proofs.Common.{◌≡◌, ◌↔◌, ℕ, zero, suc, ◌<◌, ◌≤◌, ℤ, List, [], ◌∷◌, length, map, drop, refl, sym, ap, subst, ◌∙◌, arith}
use Rattle.std.proofs.lemmas.List.Elements.{All-nil, All-cons}
use Rattle.theory.specs.Problem.{Successor, Problem, node_at}
use Rattle.theory.specs.Tree.{Tree, Forest, no_branch, branch, no_tree, tree, Decides, FeasibleTree, FeasibleForest, Policy, next_state}
use Rattle.hydro_read.specs.declared.plants.Inflow.{Inflow}
use Rattle.hydro_read.specs.declared.plants.Stage.{Stage}
use Rattle.hydro_read.specs.declared.plants.Plants.{Plants}
use Rattle.hydro_make.specs.Layout.{travel}
use Rattle.hydro_make.specs.Made.{realization, following, stage_node, node_from, problem_of_plants}
use Rattle.hydro_make.specs.Plan.{Choice, Plan, no_plan, choose, LaterPlan, the_end, later, Moment, moment, Past, InBounds, PastInBounds, Works, WorksAfter, WorksLater, Workable}
use Rattle.hydro_make.specs.Trees.{ahead, full, branches_of, later_of, plan_forest, choice_of, plan_in, later_in, plan_of}
use Rattle.hydro_make.proofs.OneStage.{works_from, works_to, full_from, next_ahead, first_ahead}

one_less : {A : Type 0} (m : ℕ) (xs : List A) → drop (suc m) xs ≡ drop 1 (drop m xs)
one_less zero xs = refl
one_less (suc m) [] = refl
one_less (suc m) (x ∷ xs) = one_less m xs

-- the stages after the one that is first of those left
pub next_left : {A : Type 0} (m : ℕ) (xs : List A) (x : A) (tail : List A) → drop m xs ≡ x ∷ tail → drop (suc m) xs ≡ tail
next_left m xs x tail e = one_less m xs ∙ ap (drop 1) e

module _ (h : Plants) (units : ℕ) (short : (j : ℕ) → travel h j ≤ 3) where
  abbrev made : Problem
  made = problem_of_plants h

  abbrev more : (i : Inflow) (c : Choice) (past : Past) → InBounds h units c → PastInBounds h units past → PastInBounds h units (moment i c ∷ past)
  more i c past w b = All-cons (λ (n : Moment). InBounds h units n.choice) (moment i c) past w b

  -- the tree of branches at a stage, and the forest of what comes from stage m on
  abbrev IsTree : ℕ → Stage → List Stage → Past → List Inflow → Tree → Type 0
  IsTree m s stages past is t = FeasibleTree made units (stage_node h s (following (suc m) stages)) (map (realization h s.demand) is) (ahead h units past) t

  abbrev IsForest : ℕ → List Stage → Past → Forest → Type 0
  IsForest m stages past f = FeasibleForest made units (following m stages) (ahead h units past) f

  -- the tree at the node m is the tree at its stage
  at_node : (m : ℕ) (s : Stage) (stages : List Stage) (past : Past) (t : Tree) → drop m h.stages ≡ s ∷ stages → IsTree m s stages past s.inflows t → FeasibleTree made units (node_at made m) (node_at made m).realizations (ahead h units past) t
  unfolding stage_node
  at_node m s stages past t e f = subst (λ (tail : List Stage). FeasibleTree made units (node_from h m tail) (node_from h m tail).realizations (ahead h units past) t) (sym e) f

  from_node : (m : ℕ) (s : Stage) (stages : List Stage) (past : Past) (t : Tree) → drop m h.stages ≡ s ∷ stages → FeasibleTree made units (node_at made m) (node_at made m).realizations (ahead h units past) t → IsTree m s stages past s.inflows t
  unfolding stage_node
  from_node m s stages past t e f = subst (λ (tail : List Stage). FeasibleTree made units (node_from h m tail) (node_from h m tail).realizations (ahead h units past) t) e f

  -- ---- a workable plan's tree is a policy

  mutual
    unfolding stage_node

    tree_to : (m : ℕ) (s : Stage) (stages : List Stage) (past : Past) (is : List Inflow) (p : Plan) → drop (suc m) h.stages ≡ stages → PastInBounds h units past → WorksAfter h units s stages past is p → IsTree m s stages past is (branches_of h units stages past is p)
    tree_to m s stages past [] no_plan e b w = tt
    tree_to m s stages past (i ∷ is) no_plan e b w = w
    tree_to m s stages past [] (choose c l p) e b w = w
    tree_to m s stages past (i ∷ is) (choose c l p) e b w = (
      works_to h units s (following (suc m) stages) past i.water short c b w.0,
      subst (λ x. FeasibleForest made units (following (suc m) stages) x (later_of h units stages (moment i c ∷ past) l)) (sym (next_ahead h units s (following (suc m) stages) past i.water short (moment i c)))
          (forest_to (suc m) stages (moment i c ∷ past) l e (more i c past w.0.bounds b) w.1),
      tree_to m s stages past is p e b w.2,
    )

    forest_to : (m : ℕ) (stages : List Stage) (past : Past) (l : LaterPlan) → drop m h.stages ≡ stages → PastInBounds h units past → WorksLater h units stages past l → IsForest m stages past (later_of h units stages past l)
    forest_to m [] past the_end e b w = tt
    forest_to m (s ∷ stages) past the_end e b w = w
    forest_to m [] past (later p) e b w = w
    forest_to m (s ∷ stages) past (later p) e b w =
        (at_node m s stages past (branches_of h units stages past s.inflows p) e (tree_to m s stages past s.inflows p (next_left m h.stages s stages e) b w), tt)

  -- ---- a plan whose tree is a policy is workable

  mutual
    unfolding stage_node

    tree_from : (m : ℕ) (s : Stage) (stages : List Stage) (past : Past) (is : List Inflow) (p : Plan) → drop (suc m) h.stages ≡ stages → PastInBounds h units past → IsTree m s stages past is (branches_of h units stages past is p) → WorksAfter h units s stages past is p
    tree_from m s stages past [] no_plan e b f = tt
    tree_from m s stages past (i ∷ is) no_plan e b f = f
    tree_from m s stages past [] (choose c l p) e b f = f
    tree_from m s stages past (i ∷ is) (choose c l p) e b f =
        let w : Works h units s.demand past (moment i c) = works_from h units s (following (suc m) stages) past i.water short c f.0 in (
          w,
          forest_from (suc m) stages (moment i c ∷ past) l e (more i c past w.bounds b)
              (subst (λ x. FeasibleForest made units (following (suc m) stages) x (later_of h units stages (moment i c ∷ past) l)) (next_ahead h units s (following (suc m) stages) past i.water short (moment i c)) f.1),
          tree_from m s stages past is p e b f.2,
        )

    forest_from : (m : ℕ) (stages : List Stage) (past : Past) (l : LaterPlan) → drop m h.stages ≡ stages → PastInBounds h units past → IsForest m stages past (later_of h units stages past l) → WorksLater h units stages past l
    forest_from m [] past the_end e b f = tt
    forest_from m (s ∷ stages) past the_end e b f = f
    forest_from m [] past (later p) e b f = f
    forest_from m (s ∷ stages) past (later p) e b f =
        tree_from m s stages past s.inflows p (next_left m h.stages s stages e) b (from_node m s stages past (branches_of h units stages past s.inflows p) e f.0)

  none_bounded : PastInBounds h units []
  none_bounded = All-nil (λ (n : Moment). InBounds h units n.choice)

  pub workable : (p : Plan) → Workable h units p ↔ Policy made units (plan_forest h units p)
  workable p = (
    λ w. subst (λ x. FeasibleForest made units (following 0 h.stages) x (plan_forest h units p)) (sym (first_ahead h units)) (forest_to 0 h.stages [] (later p) refl none_bounded w),
    λ f. forest_from 0 h.stages [] (later p) refl none_bounded (subst (λ x. FeasibleForest made units (following 0 h.stages) x (plan_forest h units p)) (first_ahead h units) f),
  )

  -- ---- a policy is the tree of its plan

  same_branch : (u v : List ℤ) (f g : Forest) (s t : Tree) → u ≡ v → f ≡ g → s ≡ t → branch u f s ≡ branch v g t
  same_branch u v f g s t p q r = ap (λ w. branch w f s) p ∙ ap (λ w. branch v w s) q ∙ ap (λ w. branch v g w) r

  mutual
    unfolding stage_node

    tree_back : (m : ℕ) (s : Stage) (stages : List Stage) (past : Past) (is : List Inflow) (t : Tree) → drop (suc m) h.stages ≡ stages → PastInBounds h units past → IsTree m s stages past is t → branches_of h units stages past is (plan_in h t) ≡ t
    tree_back m s stages past is no_branch e b f = refl
    tree_back m s stages past [] (branch u g t) e b f = absurd f
    tree_back m s stages past (i ∷ is) (branch u g t) e b f =
        let c : Choice = choice_of h u in
        let successors : List Successor = following (suc m) stages in
        let own : u ≡ full h units past (moment i c) = full_from h units s successors past i.water short u f.0 in
        let w : Works h units s.demand past (moment i c) = works_from h units s successors past i.water short c (subst (λ (v : List ℤ). Decides units (stage_node h s successors) (realization h s.demand i).values (ahead h units past) v) own f.0) in
        same_branch (full h units past (moment i c)) u (later_of h units stages (moment i c ∷ past) (later_in h g)) g (branches_of h units stages past is (plan_in h t)) t (sym own)
        (forest_back (suc m) stages (moment i c ∷ past) g e (more i c past w.bounds b)
        (subst (λ x. FeasibleForest made units successors x g) (ap (next_state (stage_node h s successors)) own ∙ next_ahead h units s successors past i.water short (moment i c)) f.1))
        (tree_back m s stages past is t e b f.2)

    forest_back : (m : ℕ) (stages : List Stage) (past : Past) (g : Forest) → drop m h.stages ≡ stages → PastInBounds h units past → IsForest m stages past g → later_of h units stages past (later_in h g) ≡ g
    forest_back m stages past no_tree e b f = refl
    forest_back m [] past (tree t g) e b f = absurd f
    forest_back m (s ∷ stages) past (tree t no_tree) e b f =
        ap (λ r. tree r no_tree) (tree_back m s stages past s.inflows t (next_left m h.stages s stages e) b (from_node m s stages past t e f.0))
    forest_back m (s ∷ stages) past (tree t (tree r g)) e b f = absurd f.1

  policy_back : (stages : List Stage) (g : Forest) → drop 0 h.stages ≡ stages → 0 < length stages → IsForest 0 stages [] g → later_of h units stages [] (later (plan_of h g)) ≡ g
  policy_back [] g e z f = absurd (omega arith)
  policy_back (s ∷ stages) no_tree e z f = absurd f
  policy_back (s ∷ stages) (tree t g) e z f = forest_back 0 (s ∷ stages) [] (tree t g) e none_bounded f

  pub tree_of_plan : (g : Forest) → 0 < length h.stages → Policy made units g → plan_forest h units (plan_of h g) ≡ g
  tree_of_plan g z f = policy_back h.stages g refl z (subst (λ x. FeasibleForest made units (following 0 h.stages) x g) (first_ahead h units) f)
