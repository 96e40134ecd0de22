-- The cost of the tree is that of the walk through it.
use Rattle.std.proofs.Common.{◌≡◌, ◌∙◌, ℕ, zero, suc, ◌*◌, ◌/◌, ℤ, pos, ◌+ℤ◌, ◌*ℤ◌, List, [], ◌∷◌, map, sum, Result, Ok, Err, refl, sym, ap, ap₂, subst, arith}
use Rattle.std.proofs.lemmas.Int.{ints}
use Rattle.base_num.specs.Steps.{◌>>=◌}
use Rattle.base_num.proofs.Ring.{ring, var, num, ◌⊕◌, ◌⊗◌}
use Rattle.plan_draw.specs.declared.steps.PathStep.{PathStep}
use Rattle.theory.specs.Cost.{stage, cost, cost_sum, costs_of, policy_cost}
use Rattle.theory.specs.Fraction.{Fraction, nothing, plus, times, over, weighted}
use Rattle.theory.specs.Problem.{S, Realization, Successor, Node, Problem, node_at, successor_weights, weight_of_realizations, realization_weight, successor_weight}
use Rattle.theory.specs.Tree.{Tree, Forest, no_branch, branch, tree, next_state, times_all}
use Rattle.plan_forward.specs.declared.deciding.Decided.{Decided}
use Rattle.plan_forward.specs.Costing.{stage_cost_of}
use Rattle.policy_evaluate.specs.declared.costs.Walked.{Walked}
use Rattle.policy_evaluate.specs.Multiples.{gcd, lcm, lcm_all}
use Rattle.policy_evaluate.specs.TooBig.{denominator}
use Rattle.policy_evaluate.specs.PolicyTree.{Deciding, Stop, infeasible, missed, GrownPart, stop_behind, grown_forest, branch_of, grown_tree, grow, whole_tree}
use Rattle.policy_evaluate.specs.Costs.{no_cost, add_cost, add_stage, add_branch, share, successor_costs, branch_cost, branch_costs, tree_cost}
use Rattle.policy_evaluate.proofs.Divisors.{is_gcd, parted}

-- the fraction is a / k
pub record Is (f : Fraction) (a : ℤ) (k : ℕ) : Type 0 where
  pub crossed : f.up *ℤ pos k ≡ a *ℤ pos f.under

is_nothing : (k : ℕ) → Is nothing (pos 0) k
is_nothing k = record { crossed = omega (arith, ints) }

is_plus : (f g : Fraction) (a b : ℤ) (k : ℕ) → Is f a k → Is g b k → Is (plus f g) (a +ℤ b) k
is_plus f g a b k h i = record {
  crossed = ring (f.up ∷ g.up ∷ pos f.under ∷ pos g.under ∷ pos k ∷ []) ((var 0 ⊗ var 3 ⊕ var 1 ⊗ var 2) ⊗ var 4) (var 3 ⊗ (var 0 ⊗ var 4) ⊕ var 2 ⊗ (var 1 ⊗ var 4)) tt
      ∙ ap₂ (λ (x y : ℤ). pos g.under *ℤ x +ℤ pos f.under *ℤ y) h.crossed i.crossed
      ∙ ring (a ∷ b ∷ pos f.under ∷ pos g.under ∷ []) (var 3 ⊗ (var 0 ⊗ var 2) ⊕ var 2 ⊗ (var 1 ⊗ var 3)) ((var 0 ⊕ var 1) ⊗ (var 2 ⊗ var 3)) tt;
}

is_times : (w : ℕ) (f : Fraction) (a : ℤ) (k : ℕ) → Is f a k → Is (times w f) (pos w *ℤ a) k
is_times w f a k h = record {
  crossed = ring (pos w ∷ f.up ∷ pos k ∷ []) (var 0 ⊗ var 1 ⊗ var 2) (var 0 ⊗ (var 1 ⊗ var 2)) tt ∙ ap (λ (x : ℤ). pos w *ℤ x) h.crossed ∙ ring (pos w ∷ a ∷ pos f.under ∷ []) (var 0 ⊗ (var 1 ⊗ var 2)) (var 0 ⊗ var 1 ⊗ var 2) tt;
}

is_over : (f : Fraction) (q : ℕ) (a : ℤ) (k : ℕ) → Is f a k → Is (over f q) a (k * q)
is_over f q a k h = record {
  crossed = ring (f.up ∷ pos k ∷ pos q ∷ []) (var 0 ⊗ (var 1 ⊗ var 2)) (var 2 ⊗ (var 0 ⊗ var 1)) tt ∙ ap (λ (x : ℤ). pos q *ℤ x) h.crossed ∙ ring (a ∷ pos f.under ∷ pos q ∷ []) (var 2 ⊗ (var 0 ⊗ var 1)) (var 0 ⊗ (var 1 ⊗ var 2)) tt;
}

-- both parts times a number
is_more : (f : Fraction) (a : ℤ) (k j : ℕ) → Is f a k → Is f (a *ℤ pos j) (k * j)
is_more f a k j h = record {
  crossed = ring (f.up ∷ pos k ∷ pos j ∷ []) (var 0 ⊗ (var 1 ⊗ var 2)) (var 2 ⊗ (var 0 ⊗ var 1)) tt ∙ ap (λ (x : ℤ). pos j *ℤ x) h.crossed ∙ ring (a ∷ pos f.under ∷ pos j ∷ []) (var 2 ⊗ (var 0 ⊗ var 1)) (var 0 ⊗ var 2 ⊗ var 1) tt;
}

-- sums in another grouping
is_grouped : (f g h : Fraction) (a : ℤ) (k : ℕ) → Is (plus (plus f g) h) a k → Is (plus f (plus g h)) a k
is_grouped f g h a k i = record {
  crossed = ring (f.up ∷ g.up ∷ h.up ∷ pos f.under ∷ pos g.under ∷ pos h.under ∷ pos k ∷ [])
      ((var 0 ⊗ (var 4 ⊗ var 5) ⊕ (var 1 ⊗ var 5 ⊕ var 2 ⊗ var 4) ⊗ var 3) ⊗ var 6) (((var 0 ⊗ var 4 ⊕ var 1 ⊗ var 3) ⊗ var 5 ⊕ var 2 ⊗ (var 3 ⊗ var 4)) ⊗ var 6) tt
      ∙ i.crossed
      ∙ ring (a ∷ pos f.under ∷ pos g.under ∷ pos h.under ∷ []) (var 0 ⊗ (var 1 ⊗ var 2 ⊗ var 3)) (var 0 ⊗ (var 1 ⊗ (var 2 ⊗ var 3))) tt;
}

is_alone : (f : Fraction) (a : ℤ) (k : ℕ) → Is (plus nothing f) a k → Is f a k
is_alone f a k i = record {
  crossed = ring (f.up ∷ pos f.under ∷ pos k ∷ []) (var 0 ⊗ var 2) ((num (pos 0) ⊗ var 1 ⊕ var 0 ⊗ num (pos 1)) ⊗ var 2) tt ∙ i.crossed ∙ ring (a ∷ pos f.under ∷ []) (var 0 ⊗ (num (pos 1) ⊗ var 1)) (var 0 ⊗ var 1) tt;
}

is_with_nothing : (f : Fraction) (a : ℤ) (k : ℕ) → Is f a k → Is (plus f nothing) a k
is_with_nothing f a k i = record {
  crossed = ring (f.up ∷ pos f.under ∷ pos k ∷ []) ((var 0 ⊗ num (pos 1) ⊕ num (pos 0) ⊗ var 1) ⊗ var 2) (var 0 ⊗ var 2) tt ∙ i.crossed ∙ ring (a ∷ pos f.under ∷ []) (var 0 ⊗ var 1) (var 0 ⊗ (var 1 ⊗ num (pos 1))) tt;
}

is_same : (f : Fraction) (a b : ℤ) (j k : ℕ) → a ≡ b → j ≡ k → Is f a j → Is f b k
is_same f a b j k e g h = subst (λ (a : ℤ). Is f a k) e (subst (λ (k : ℕ). Is f a k) g h)

-- a sum over the least common multiple
added : (g a b A B : ℕ) (f h : Fraction) (x y : ℤ) (w : ℕ) → A ≡ g * a → B ≡ g * b → Is f x (S * A) → Is h y (S * B) → Is (plus f (times w h)) (x *ℤ pos b +ℤ pos w *ℤ y *ℤ pos a) (S * (a * B))
added g a b A B f h x y w e i p q =
    is_plus f (times w h) (x *ℤ pos b) (pos w *ℤ y *ℤ pos a) (S * (a * B))
    (is_same f (x *ℤ pos b) (x *ℤ pos b) (S * A * b) (S * (a * B)) refl first (is_more f x (S * A) b p))
    (is_same (times w h) (pos w *ℤ y *ℤ pos a) (pos w *ℤ y *ℤ pos a) (S * B * a) (S * (a * B)) refl second (is_more (times w h) (pos w *ℤ y) (S * B) a (is_times w h y (S * B) q)))
  where
    first : S * A * b ≡ S * (a * B)
    first = ap (λ (k : ℕ). S * k * b) e ∙ (turn S g a b ∙ ap (λ (k : ℕ). S * (a * k)) (sym i))
      where
        turn : (s g a b : ℕ) → s * (g * a) * b ≡ s * (a * (g * b))
        turn s g a b = omega arith

    second : S * B * a ≡ S * (a * B)
    second = turn S B a
      where
        turn : (s b a : ℕ) → s * b * a ≡ s * (a * b)
        turn s b a = omega arith

-- the cost and the tree stop at the same place, or have this in common
abbrev pub Agree : {A : Type 0} → (Walked → A → Type 0) → Result Walked Stop → GrownPart A → Type 0
Agree R (Ok w) (Ok t) = (w.decided ≡ t.1) × R w t.0
Agree R (Ok w) (Err s) = ⊥
Agree R (Err s) (Ok t) = ⊥
Agree R (Err s) (Err u) = s ≡ u

agree_then : {A B : Type 0} (R : Walked → A → Type 0) (Q : Walked → B → Type 0) (a : Result Walked Stop) (b : GrownPart A) (f : Walked → Result Walked Stop) (g : A × ℕ → GrownPart B) → Agree R a b
    → ((w : Walked) (t : A × ℕ) → w.decided ≡ t.1 → R w t.0 → Agree Q (f w) (g t)) → Agree Q (a >>= f) (b >>= g)
agree_then R Q (Ok w) (Ok t) f g h k = k w t h.0 h.1
agree_then R Q (Ok w) (Err s) f g h k = absurd h
agree_then R Q (Err s) (Ok t) f g h k = absurd h
agree_then R Q (Err s) (Err u) f g h k = h

-- like agree_then, where only the tree goes on
agree_into : {A B : Type 0} (R : Walked → A → Type 0) (Q : Walked → B → Type 0) (a : Result Walked Stop) (b : GrownPart A) (g : A × ℕ → GrownPart B) → Agree R a b
    → ((w : Walked) (t : A × ℕ) → w.decided ≡ t.1 → R w t.0 → Agree Q (Ok w) (g t)) → Agree Q a (b >>= g)
agree_into R Q (Ok w) (Ok t) g h k = k w t h.0 h.1
agree_into R Q (Ok w) (Err s) g h k = absurd h
agree_into R Q (Err s) (Ok t) g h k = absurd h
agree_into R Q (Err s) (Err u) g h k = h

agree_behind : {A : Type 0} (R : Walked → A → Type 0) (s : PathStep) (a : Result Walked Stop) (b : GrownPart A) → Agree R a b → Agree R (stop_behind s a) (stop_behind s b)
agree_behind R s (Ok w) (Ok t) h = h
agree_behind R s (Ok w) (Err u) h = absurd h
agree_behind R s (Err u) (Ok t) h = absurd h
agree_behind R s (Err u) (Err v) h = subst (λ (v : Stop). Agree R (stop_behind s (Err u)) (stop_behind s (Err v))) h (same u)
  where
    same : (u : Stop) → Agree R (stop_behind s (Err u)) (stop_behind s (Err u))
    same (infeasible d) = refl
    same (missed m) = refl

module _ (p : Problem) where
  -- the relation of a cost to a tree of the node m
  abbrev IsTree : ℕ → List ℤ → ℕ → Walked → Tree → Type 0
  IsTree n x m w t = Is (cost p S m x t) w.up (S * w.under) × (w.under ≡ denominator p n m)

  abbrev dens : ℕ → List Successor → List ℕ
  dens n ls = map (λ (l : Successor). denominator p n l.node) ls

  -- costs of successors, behind others that make f
  abbrev IsSuccessors : ℕ → List ℤ → List Successor → Fraction → ℕ → Walked → Forest → Type 0
  IsSuccessors n x ls f u w trees = Is (plus f (weighted (successor_weights ls) (costs_of p S ls x trees))) w.up (S * w.under) × (w.under ≡ lcm_all u (dens n ls))

  successors_agree : (n : ℕ) (x : List ℤ) (go : ℕ → ℕ → Result Walked Stop) (grow_at : ℕ → ℕ → GrownPart Tree) → ((k m : ℕ) → Agree (IsTree n x m) (go k m) (grow_at k m))
      → (ls : List Successor) (f : Fraction) (total : Walked) (k : ℕ) → total.decided ≡ k → Is f total.up (S * total.under) → Agree (IsSuccessors n x ls f total.under) (successor_costs go total ls) (grown_forest grow_at k ls)
  successors_agree n x go grow_at each [] f total k e h = (e, (is_with_nothing f total.up (S * total.under) h, refl))
  successors_agree n x go grow_at each (l ∷ ls) f total k e h =
      agree_then (IsTree n x l.node) (IsSuccessors n x (l ∷ ls) f total.under) (go total.decided l.node) (grow_at k l.node)
      (λ w. successor_costs go (add_cost total l.weight w) ls) (λ t. grown_forest grow_at t.1 ls >>= λ trees. Ok (tree t.0 trees.0, trees.1))
      (subst (λ (j : ℕ). Agree (IsTree n x l.node) (go total.decided l.node) (grow_at j l.node)) e (each total.decided l.node))
      (λ w t same own.
      agree_into (IsSuccessors n x ls (plus f (times l.weight (cost p S l.node x t.0))) (lcm total.under w.under)) (IsSuccessors n x (l ∷ ls) f total.under) (successor_costs go (add_cost total l.weight w) ls) (grown_forest grow_at t.1 ls)
      (λ trees. Ok (tree t.0 trees.0, trees.1))
      (successors_agree n x go grow_at each ls (plus f (times l.weight (cost p S l.node x t.0))) (add_cost total l.weight w) t.1 same
      (added (gcd total.under w.under) (total.under / gcd total.under w.under) (w.under / gcd total.under w.under) total.under w.under f (cost p S l.node x t.0) total.up w.up l.weight
      (parted (gcd total.under w.under) total.under (is_gcd total.under w.under).0) (parted (gcd total.under w.under) w.under (is_gcd total.under w.under).1) h own.0))
      (λ v trees same' all. (
        same',
        (
          is_grouped f (times l.weight (cost p S l.node x t.0)) (weighted (successor_weights ls) (costs_of p S ls x trees.0)) v.up (S * v.under) all.0,
          all.1 ∙ ap (λ (j : ℕ). lcm_all (lcm total.under j) (dens n ls)) own.1,
        ),
      )))

  -- the node of a step, what was decided there, and the trees behind it
  abbrev IsBranch : ℕ → Node → List ℤ → List ℤ → Walked → List ℤ × Forest → Type 0
  IsBranch n node values x w b =
      Is (plus (stage S node values x b.0) (over (weighted (successor_weights node.successors) (costs_of p S node.successors (next_state node b.0) b.1)) (successor_weight node))) w.up (S * w.under)
      × (w.under ≡ successor_weight node * lcm_all 1 (dens n node.successors))

  -- the decisions leave the node as the next state
  abbrev pub Leaves : Deciding → Type 0
  Leaves decide = (k : ℕ) (s : PathStep) (values x : List ℤ) (d : Decided) → decide k s values x ≡ Ok d → d.next ≡ next_state (node_at p s.node) d.decisions

  module _ (decide : Deciding) (leaves : Leaves decide) where
    is_staged : (q u : ℕ) (c : Fraction) (f : Fraction) (up : ℤ) → c.under ≡ S → Is f up (S * u) → Is (plus c (over f q)) (pos (q * u) *ℤ c.up +ℤ up) (S * (q * u))
    is_staged q u c f up e h =
        is_plus c (over f q) (pos (q * u) *ℤ c.up) up (S * (q * u))
        (record { crossed = ring (c.up ∷ pos S ∷ pos q ∷ pos u ∷ []) (var 0 ⊗ (var 1 ⊗ (var 2 ⊗ var 3))) (var 2 ⊗ var 3 ⊗ var 0 ⊗ var 1) tt ∙ ap (λ (k : ℕ). pos (q * u) *ℤ c.up *ℤ pos k) (sym e) })
        (is_same (over f q) up up (S * u * q) (S * (q * u)) refl (turn S u q) (is_over f q up (S * u) h))
      where
        turn : (s u q : ℕ) → s * u * q ≡ s * (q * u)
        turn s u q = omega arith

    branch_agree : (n : ℕ) (go : List ℤ → ℕ → ℕ → Result Walked Stop) (grow_at : List ℤ → ℕ → ℕ → GrownPart Tree) → ((x : List ℤ) (k m : ℕ) → Agree (IsTree n x m) (go x k m) (grow_at x k m))
        → (m i k : ℕ) (values x : List ℤ) → Agree (IsBranch n (node_at p m) values x) (branch_cost decide go (node_at p m) k (record { node = m; realization = i }) values x) (branch_of decide grow_at (node_at p m).successors k (record { node = m; realization = i }) values x)
    unfolding stage_cost_of
    branch_agree n go grow_at each m i k values x = by (decide k s values x) refl
      where
        s : PathStep
        s = record { node = m; realization = i }

        node : Node
        node = node_at p m

        by : (r : Result Decided Stop) → decide k s values x ≡ r
            → Agree (IsBranch n node values x) (r >>= λ d. stop_behind s (successor_costs (go d.next) (no_cost (suc k)) node.successors) >>= λ w. Ok (add_stage (successor_weight node) (stage_cost_of node d.decisions x values) w))
            (r >>= λ d. stop_behind s (grown_forest (grow_at d.next) (suc k) node.successors) >>= λ f. Ok ((d.decisions, f.0), f.1))
        by (Err stop) e = refl
        by (Ok d) e =
            let next : d.next ≡ next_state node d.decisions = leaves k s values x d e in
            agree_then (IsSuccessors n d.next node.successors nothing 1) (IsBranch n node values x) (stop_behind s (successor_costs (go d.next) (no_cost (suc k)) node.successors)) (stop_behind s (grown_forest (grow_at d.next) (suc k) node.successors))
            (λ w. Ok (add_stage (successor_weight node) (stage_cost_of node d.decisions x values) w)) (λ f. Ok ((d.decisions, f.0), f.1))
            (agree_behind (IsSuccessors n d.next node.successors nothing 1) s (successor_costs (go d.next) (no_cost (suc k)) node.successors) (grown_forest (grow_at d.next) (suc k) node.successors)
            (successors_agree n d.next (go d.next) (grow_at d.next) (each d.next) node.successors nothing (no_cost (suc k)) (suc k) refl (is_nothing (S * 1))))
            (λ w f same all.
            let trees : Fraction = weighted (successor_weights node.successors) (costs_of p S node.successors d.next f.0) in (
              same,
              (
                staged d w f.0 (subst (λ (y : List ℤ). Is (weighted (successor_weights node.successors) (costs_of p S node.successors y f.0)) w.up (S * w.under)) next (is_alone trees w.up (S * w.under) all.0)),
                ap (λ (u : ℕ). successor_weight node * u) all.1,
              ),
            ))
          where
            staged : (d : Decided) (w : Walked) (f : Forest) → Is (weighted (successor_weights node.successors) (costs_of p S node.successors (next_state node d.decisions) f)) w.up (S * w.under)
                → Is (plus (stage S node values x d.decisions) (over (weighted (successor_weights node.successors) (costs_of p S node.successors (next_state node d.decisions) f)) (successor_weight node))) (pos (successor_weight node * w.under) *ℤ stage_cost_of node d.decisions x values +ℤ w.up) (S * (successor_weight node * w.under))
            staged d w f h = is_staged (successor_weight node) w.under (stage S node values x d.decisions) (weighted (successor_weights node.successors) (costs_of p S node.successors (next_state node d.decisions) f)) w.up refl h

    -- the denominator of a sum: v before the first branch, and then u
    abbrev last_under : ℕ → ℕ → List Realization → ℕ
    last_under v u [] = v
    last_under v u (r ∷ rs) = u

    always : (u : ℕ) (rs : List Realization) → last_under u u rs ≡ u
    always u [] = refl
    always u (r ∷ rs) = refl

    shared : (u : ℕ) (rs : List Realization) → weight_of_realizations rs * last_under 1 u rs ≡ weight_of_realizations rs * u
    shared u [] = omega arith
    shared u (r ∷ rs) = refl

    -- the branches of a node, behind others that make f; each stands over u
    abbrev IsBranches : ℕ → ℕ → Node → List Realization → List ℤ → Fraction → Walked → Tree → Type 0
    IsBranches v u node rs x f w t = Is (plus f (cost_sum p S node rs x t)) w.up (S * u) × (w.under ≡ last_under v u rs)

    branches_agree : (n : ℕ) (go : List ℤ → ℕ → ℕ → Result Walked Stop) (grow_at : List ℤ → ℕ → ℕ → GrownPart Tree) → ((x : List ℤ) (k m : ℕ) → Agree (IsTree n x m) (go x k m) (grow_at x k m))
        → (m : ℕ) (x : List ℤ) (rs : List Realization) (i : ℕ) (f : Fraction) (total : Walked) (k : ℕ) → total.decided ≡ k → Is f total.up (S * (successor_weight (node_at p m) * lcm_all 1 (dens n (node_at p m).successors)))
        → Agree (IsBranches total.under (successor_weight (node_at p m) * lcm_all 1 (dens n (node_at p m).successors)) (node_at p m) rs x f) (branch_costs decide go (node_at p m) m total i rs x) (grown_tree decide grow_at (node_at p m).successors m k i rs x)
    branches_agree n go grow_at each m x [] i f total k e h = (e, (is_with_nothing f total.up _ h, refl))
    branches_agree n go grow_at each m x (r ∷ rs) i f total k e h =
        let node : Node = node_at p m in
        let u : ℕ = successor_weight node * lcm_all 1 (dens n node.successors) in
        let s : PathStep = record { node = m; realization = i } in
        agree_then (IsBranch n node r.values x) (IsBranches total.under u node (r ∷ rs) x f) (branch_cost decide go node total.decided s r.values x) (branch_of decide grow_at node.successors k s r.values x)
        (λ w. branch_costs decide go node m (add_branch total r.weight w) (suc i) rs x) (λ b. grown_tree decide grow_at node.successors m b.1 (suc i) rs x >>= λ t. Ok (branch b.0.0 b.0.1 t.0, t.1))
        (subst (λ (j : ℕ). Agree (IsBranch n node r.values x) (branch_cost decide go node total.decided s r.values x) (branch_of decide grow_at node.successors j s r.values x)) e (branch_agree n go grow_at each m i total.decided r.values x))
        (λ w b same own.
        let one : Fraction = plus (stage S node r.values x b.0.0) (over (weighted (successor_weights node.successors) (costs_of p S node.successors (next_state node b.0.0) b.0.1)) (successor_weight node)) in
        let prefix : Is one w.up (S * u) = subst (λ (j : ℕ). Is one w.up (S * j)) own.1 own.0 in
        agree_into (IsBranches w.under u node rs x (plus f (times r.weight one))) (IsBranches total.under u node (r ∷ rs) x f) (branch_costs decide go node m (add_branch total r.weight w) (suc i) rs x) (grown_tree decide grow_at node.successors m b.1 (suc i) rs x)
        (λ t. Ok (branch b.0.0 b.0.1 t.0, t.1))
        (branches_agree n go grow_at each m x rs (suc i) (plus f (times r.weight one)) (add_branch total r.weight w) b.1 same (is_plus f (times r.weight one) total.up (pos r.weight *ℤ w.up) (S * u) h (is_times r.weight one w.up (S * u) prefix)))
        (λ v t same' all. (same', (is_grouped f (times r.weight one) (cost_sum p S node rs x t.0) v.up (S * u) all.0, all.1 ∙ ap (λ (j : ℕ). last_under j u rs) own.1 ∙ always u rs))))

    pub trees_agree : (n : ℕ) (x : List ℤ) (k m : ℕ) → Agree (IsTree n x m) (tree_cost decide p n x k m) (grow decide p n x k m)
    trees_agree zero x k m = (refl, (is_none, refl))
      where
        is_none : Is (cost p S m x no_branch) (pos 0) (S * 1)
        is_none = record { crossed = omega (arith, ints) }
    trees_agree (suc n) x k m =
        let node : Node = node_at p m in
        let u : ℕ = successor_weight node * lcm_all 1 (dens n node.successors) in
        agree_into_share (IsBranches 1 u node node.realizations x nothing) (IsTree (suc n) x m) (realization_weight node) (branch_costs decide (tree_cost decide p n) node m (no_cost k) 0 node.realizations x) (grown_tree decide (grow decide p n) node.successors m k 0 node.realizations x)
        (branches_agree n (tree_cost decide p n) (grow decide p n) (λ x k m. trees_agree n x k m) m x node.realizations 0 nothing (no_cost k) k refl (is_nothing (S * u)))
        (λ w t all. shares node u w t all.0 all.1)
      where
        agree_into_share : {A : Type 0} (R Q : Walked → A → Type 0) (weight : ℕ) (a : Result Walked Stop) (b : GrownPart A) → Agree R a b → ((w : Walked) (t : A) → R w t → Q (share weight w) t) → Agree Q (a >>= λ w. Ok (share weight w)) b
        agree_into_share R Q weight (Ok w) (Ok t) h k = (h.0, k w t.0 h.1)
        agree_into_share R Q weight (Ok w) (Err s) h k = absurd h
        agree_into_share R Q weight (Err s) (Ok t) h k = absurd h
        agree_into_share R Q weight (Err s) (Err u) h k = h

        turn : (s u w : ℕ) → s * u * w ≡ s * (w * u)
        turn s u w = omega arith

        shares : (node : Node) (u : ℕ) (w : Walked) (t : Tree) → Is (plus nothing (cost_sum p S node node.realizations x t)) w.up (S * u) → w.under ≡ last_under 1 u node.realizations
            → Is (over (cost_sum p S node node.realizations x t) (realization_weight node)) w.up (S * (realization_weight node * w.under)) × (realization_weight node * w.under ≡ realization_weight node * u)
        shares node u w t h e =
            let same : realization_weight node * w.under ≡ realization_weight node * u = ap (λ (j : ℕ). realization_weight node * j) e ∙ shared u node.realizations in
            let f : Fraction = cost_sum p S node node.realizations x t in (
              is_same (over f (realization_weight node)) w.up w.up (S * u * realization_weight node) (S * (realization_weight node * w.under)) refl (turn S u (realization_weight node) ∙ ap (λ (j : ℕ). S * j) (sym same))
                  (is_over f (realization_weight node) w.up (S * u) (is_alone f w.up (S * u) h)),
              same,
            )

    -- the whole policy
    abbrev pub IsPolicy : ℕ → Walked → Forest → Type 0
    IsPolicy n w f = Is (policy_cost p S f) w.up (S * (sum (successor_weights p.root) * w.under)) × (w.under ≡ lcm_all 1 (dens n p.root))

    pub policies_agree : (n : ℕ) → Agree (IsPolicy n) (successor_costs (tree_cost decide p n (times_all S p.initial)) (no_cost 0) p.root) (whole_tree decide p n)
    policies_agree n =
        agree_weaker (IsSuccessors n (times_all S p.initial) p.root nothing 1) (IsPolicy n) (successor_costs (tree_cost decide p n (times_all S p.initial)) (no_cost 0) p.root) (whole_tree decide p n)
        (successors_agree n (times_all S p.initial) (tree_cost decide p n (times_all S p.initial)) (grow decide p n (times_all S p.initial)) (λ k m. trees_agree n (times_all S p.initial) k m) p.root nothing (no_cost 0) 0 refl (is_nothing (S * 1)))
        (λ w f all.
        let q : ℕ = sum (successor_weights p.root) in
        let c : Fraction = weighted (successor_weights p.root) (costs_of p S p.root (times_all S p.initial) f) in
        (is_same (over c q) w.up w.up (S * w.under * q) (S * (q * w.under)) refl (turn S w.under q) (is_over c q w.up (S * w.under) (is_alone c w.up (S * w.under) all.0)), all.1))
      where
        turn : (s u w : ℕ) → s * u * w ≡ s * (w * u)
        turn s u w = omega arith

        agree_weaker : {A : Type 0} (R Q : Walked → A → Type 0) (a : Result Walked Stop) (b : GrownPart A) → Agree R a b → ((w : Walked) (t : A) → R w t → Q w t) → Agree Q a b
        agree_weaker R Q (Ok w) (Ok t) h k = (h.0, k w t.0 h.1)
        agree_weaker R Q (Ok w) (Err s) h k = absurd h
        agree_weaker R Q (Err s) (Ok t) h k = absurd h
        agree_weaker R Q (Err s) (Err u) h k = h
