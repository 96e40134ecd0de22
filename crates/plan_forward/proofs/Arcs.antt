-- Paths of a problem's graph: how long they are, where they begin, and the values at a step.
use Rattle.std.proofs.Common.{◌≡◌, ◌∙◌, ℕ, ◌<◌, ◌≤◌, ℤ, pos, ◌*ℤ◌, ◌≤ℤ◌, List, [], ◌∷◌, length, get_or, slice_get, Some, true, Contains, sym, ap, subst, arith}
use Rattle.std.proofs.lemmas.Bool.Decides.{nat_tests}
use Rattle.std.proofs.lemmas.List.{get_or-map, get_or_default, length-map}
use Rattle.std.specs.List.{list_all}
use Rattle.base_num.specs.Sums.{entry}
use Rattle.base_num.proofs.Order.{le_scale}
use Rattle.base_num.proofs.Sums.{All_head}
use Rattle.base_num.proofs.Tests.{all_at}
use Rattle.base_graph.specs.Ranks.{rank}
use Rattle.base_graph.proofs.Falling.{rank_below, rank_falls}
use Rattle.problem.specs.declared.parts.Node as nodes
use Rattle.problem.specs.Limits.{are_numbers, are_values, realizations_fit}
use Rattle.problem.specs.Parts.{graph_of}
use Rattle.problem.specs.Validated.{Validated, is_validated, subproblem_of}
use Rattle.problem.proofs.ValidatedFacts.{parts-is_validated, known_graph, few_nodes}
use Rattle.plan_draw.specs.declared.steps.PathStep.{PathStep}
use Rattle.plan_draw.specs.Drawn.{FollowsSuccessors, IsInRange, IsPath}
use Rattle.plan_draw.proofs.Draws.{made_at}
use Rattle.theory.specs.Problem.{S, Successor, Node, node_at}
use Rattle.theory.specs.Premises.{StartsIn}
use Rattle.theory.specs.Tree.{InBox, times_all}
use Rattle.theory.specs.View.{problem_of}
use Rattle.theory.proofs.ValidatedOrder.{no_cycle-validated}
use Rattle.theory.proofs.ValidatedParts.{Parts, parts_of_node, weighty}
use Rattle.theory.proofs.ValidatedPremises.{root_shaped-validated}
use Rattle.theory.proofs.Views.{successor_at, length-successors_of, root-problem_of}
use Rattle.cut_pool.specs.AtNodes.{IsStateAt}
use Rattle.plan_forward.specs.Walking.{values_of}

-- each step is at a node of a lower rank than the one before it
few_steps : (p : Validated) → is_validated p ≡ true → (m : ℕ) (ss : List PathStep) → FollowsSuccessors p.parts m ss → length ss ≤ rank (graph_of p.parts) m
few_steps p e m [] f = omega arith
few_steps p e m (s ∷ ss) f =
    let lower = rank_falls (graph_of p.parts) m s.node (known_graph p.parts (parts-is_validated p e)) (no_cycle-validated p e) f.0 in
    let tail = few_steps p e s.node ss f.1 in
    omega (arith, lower, tail)

-- a path has at most as many steps as there are nodes
pub path_few : (p : Validated) (path : List PathStep) → is_validated p ≡ true → IsPath p path → length path ≤ length p.parts.nodes
path_few p [] e h = omega arith
path_few p (s ∷ ss) e h =
    let there : s.node < length p.parts.nodes = (All_head (IsInRange p.parts) s ss h.in_range).0 in
    let count = length-map p.parts.nodes (λ (n : nodes.Node). n.successors) in
    let below = rank_below (graph_of p.parts) s.node (known_graph p.parts (parts-is_validated p e)) (no_cycle-validated p e) (omega (arith, there, count)) in
    let tail = few_steps p e s.node ss h.follows in
    omega (arith, below, tail, count)

pub path_short : (p : Validated) (path : List PathStep) → is_validated p ≡ true → IsPath p path → length path ≤ 1000
path_short p path e h = omega (arith, path_few p path e h, few_nodes p.parts (parts-is_validated p e))

-- the initial state lies in the boxes of the root's successors
start_inside : (n : Node) (initial : List ℤ) → length initial ≡ length n.low → ((k : ℕ) → k < length n.low → entry n.low k ≤ℤ entry initial k) → ((k : ℕ) → k < length n.low → entry initial k ≤ℤ entry n.high k) → InBox S n.low n.high (times_all S initial)
start_inside n initial count lows highs = record {
  count = length-map initial (λ x. pos S *ℤ x) ∙ count;
  above = λ k h. subst (λ (z : ℤ). (pos S *ℤ entry n.low k) ≤ℤ z) (sym (at k h)) (le_scale S (entry n.low k) (entry initial k) (lows k h));
  below = λ k h. subst (λ (z : ℤ). z ≤ℤ (pos S *ℤ entry n.high k)) (sym (at k h)) (le_scale S (entry initial k) (entry n.high k) (highs k h));
}
  where
    at : (k : ℕ) → k < length n.low → entry (times_all S initial) k ≡ pos S *ℤ entry initial k
    at k h = get_or-map (λ x. pos S *ℤ x) initial k (pos 0) (pos 0) (omega (arith, h, count))

pub start-validated : (p : Validated) (m : ℕ) → is_validated p ≡ true → length p.parts.root_weights ≡ length p.parts.root → Contains p.parts.root m → IsStateAt p m (times_all S (problem_of p).initial)
start-validated p m e counts c =
    let i : ℕ = c.0 in
    let no_successor : Successor = record { node = 0; weight = 0 } in
    let successors = root-problem_of p in
    let there : i < length (problem_of p).root = subst (λ (ls : List Successor). i < length ls) (sym successors) (omega (arith, c.1, length-successors_of p.parts.root p.parts.root_weights counts)) in
    let at : get_or (problem_of p).root i no_successor ≡ record { node = get_or p.parts.root i 0; weight = get_or p.parts.root_weights i 0 } = ap (λ (ls : List Successor). get_or ls i no_successor) successors ∙ successor_at p.parts.root p.parts.root_weights i no_successor counts c.1 in
    let is : get_or p.parts.root i 0 ≡ m = get_or_default p.parts.root i 0 m c.1 ∙ c.2 in
    let starts : StartsIn (problem_of p) (node_at (problem_of p) m) = subst (λ (x : ℕ). StartsIn (problem_of p) (node_at (problem_of p) x)) (ap (λ (x : Successor). x.node) at ∙ is) ((root_shaped-validated p e).boxes i no_successor there) in
    start_inside (node_at (problem_of p) m) (problem_of p).initial starts.count starts.lows starts.highs

-- the values of a step are values of its node
each_values : (randoms : ℕ) (n : nodes.Node) → realizations_fit randoms n ≡ true → list_all (are_numbers randoms) n.values ≡ true
each_values randoms n e = grind (arith, nat_tests)

pub values-validated : (p : Validated) (s : PathStep) → is_validated p ≡ true → IsInRange p.parts s → are_values (subproblem_of p s.node) (values_of p.parts s) ≡ true
values-validated p s e r =
    let q : Parts p s.node = parts_of_node p s.node e r.0 in
    let w = weighty q.node (length q.subproblem.randoms) q.fit.realizations in
    let weights = made_at (λ (n : nodes.Node). n.weights) p.parts.nodes s.node q.node [] q.fit.the_node in
    let values = made_at (λ (n : nodes.Node). n.values) p.parts.nodes s.node q.node [] q.fit.the_node in
    let inside : s.realization < length q.node.values = omega (arith, r.1, w.3, ap (λ (ws : List ℕ). length ws) weights) in
    let own = all_at (are_numbers (length q.subproblem.randoms)) q.node.values s.realization [] (each_values (length q.subproblem.randoms) q.node q.fit.realizations) inside in
    rw (q.fit.the_node, q.fit.the_subproblem, values) own

-- the values that are read of a problem at a step
pub values_read : (p : Validated) (s : PathStep) (n : nodes.Node) (values : List ℤ) → slice_get p.parts.nodes s.node ≡ Some n → s.realization < length n.values → values ≡ get_or n.values s.realization values → values ≡ values_of p.parts s
values_read p s n values is h at =
    at ∙ get_or_default n.values s.realization values [] h ∙ ap (λ (vs : List (List ℤ)). get_or vs s.realization []) (sym (made_at (λ (n : nodes.Node). n.values) p.parts.nodes s.node n [] is))

pub realization_there : (p : Validated) (s : PathStep) (n : nodes.Node) → is_validated p ≡ true → IsInRange p.parts s → slice_get p.parts.nodes s.node ≡ Some n → s.realization < length n.values
realization_there p s n e r is =
    let q : Parts p s.node = parts_of_node p s.node e r.0 in
    let w = weighty q.node (length q.subproblem.randoms) q.fit.realizations in
    let weights = made_at (λ (n : nodes.Node). n.weights) p.parts.nodes s.node n [] is in
    let own = made_at (λ (n : nodes.Node). length n.values) p.parts.nodes s.node n 0 is in
    let same = made_at (λ (n : nodes.Node). length n.values) p.parts.nodes s.node q.node 0 q.fit.the_node in
    let prefix = made_at (λ (n : nodes.Node). n.weights) p.parts.nodes s.node q.node [] q.fit.the_node in
    omega (arith, r.1, w.3, ap (λ (ws : List ℕ). length ws) weights, ap (λ (ws : List ℕ). length ws) prefix, own, same)
