-- Runs of a problem: their length, and the moment at a place.
use Rattle.std.proofs.Common.{◌≡◌, ◌∙◌, ℕ, zero, suc, ◌+◌, ◌<◌, ◌≤◌, ℤ, Bool, true, false, ◌||◌, ◌==◌, List, [], ◌∷◌, length, map, get_or, drop, slice_get, Option, Some, None, All, Contains, option_and_then, refl, sym, ap, subst, arith}
use Rattle.std.proofs.lemmas.Bool.Decides.{nat_tests}
use Rattle.std.proofs.lemmas.Grind.{common_steps}
use Rattle.std.proofs.lemmas.List.{drop_more, length-map}
use Rattle.std.proofs.lemmas.Option.{slice_get_within}
use Rattle.std.specs.List.{list_all, list_any}
use Rattle.base_num.proofs.Sums.{All_head, All_tail}
use Rattle.base_num.proofs.Tests.{and_first, and_second, both, all_at}
use Rattle.base_graph.specs.Ranks.{rank}
use Rattle.base_graph.proofs.Falling.{rank_below, rank_falls}
use Rattle.problem.specs.declared.parts.Moment.{Moment}
use Rattle.problem.specs.declared.parts.Node as nodes
use Rattle.problem.specs.declared.parts.ProblemParts.{ProblemParts}
use Rattle.problem.specs.Limits.{are_values, scenario_fits, scenarios_fit, step_fits, steps_fit}
use Rattle.problem.specs.Parts.{graph_of, own_subproblem, subproblem_at, successors_at}
use Rattle.problem.specs.Validated.{Validated, is_validated, subproblem_of}
use Rattle.problem.proofs.ValidatedFacts.{few_nodes, known_graph, parts-is_validated, stored_scenarios_fit}
use Rattle.plan_draw.specs.declared.steps.PathStep.{PathStep}
use Rattle.plan_draw.specs.Drawn.{FollowsSuccessors, IsInRange, IsPath}
use Rattle.plan_draw.proofs.Draws.{root_counted}
use Rattle.theory.specs.Problem.{S}
use Rattle.theory.specs.Tree.{times_all}
use Rattle.theory.specs.View.{problem_of}
use Rattle.theory.proofs.ValidatedOrder.{no_cycle-validated}
use Rattle.cut_pool.specs.AtNodes.{IsStateAt}
use Rattle.plan_forward.proofs.Arcs.{start-validated, values-validated}
use Rattle.policy_simulate.specs.Runs.{IsProblemRun, moment_of}

-- a number that a list has is one of its members, and the other way round
contained : (ms : List ℕ) (k : ℕ) → list_any (λ m. m == k) ms ≡ true → Contains ms k
contained [] k e = absurd (no e)
  where
    no : false ≡ true → ⊥
    no h = cc
contained (m ∷ ms) k e = by (contained ms k) (m == k) refl e
  where
    by : (list_any (λ m. m == k) ms ≡ true → Contains ms k) → (b : Bool) → (m == k) ≡ b → (b || list_any (λ m. m == k) ms) ≡ true → Contains (m ∷ ms) k
    by tail true is e = (0, omega arith, grind (arith, nat_tests, is))
    by tail false is e = let c = tail e in (suc c.0, omega (arith, c.1), c.2)

containing : (ms : List ℕ) (k : ℕ) → Contains ms k → list_any (λ m. m == k) ms ≡ true
containing [] k c = absurd (omega (arith, c.1))
containing (m ∷ ms) k (zero, l, e) = ap (λ b. b || list_any (λ m. m == k) ms) same
  where
    same : (m == k) ≡ true
    same = grind (arith, nat_tests, e)
containing (m ∷ ms) k (suc i, l, e) = or_true (m == k) (list_any (λ m. m == k) ms) (containing ms k (i, omega (arith, l), e))
  where
    or_true : (a b : Bool) → b ≡ true → (a || b) ≡ true
    or_true true b h = refl
    or_true false b h = h

node_there : (parts : ProblemParts) (m : ℕ) (values : List ℤ) → are_values (subproblem_at parts m) values ≡ true → m < length parts.nodes
node_there parts m values e = by (slice_get parts.nodes m) refl e
  where
    no : false ≡ true → ⊥
    no h = cc

    by : (o : Option nodes.Node) → slice_get parts.nodes m ≡ o → are_values (option_and_then (own_subproblem parts) o) values ≡ true → m < length parts.nodes
    by None is e = absurd (no e)
    by (Some n) is e = slice_get_within parts.nodes m n is

-- the properties of a step of a run
record Fits (parts : ProblemParts) (from : List ℕ) (m : Moment) (ms : List Moment) : Type 0 where
  pub contained : Contains from m.node
  pub values : are_values (subproblem_at parts m.node) m.values ≡ true
  pub tail : steps_fit parts (successors_at parts m.node) ms ≡ true

split : (parts : ProblemParts) (from : List ℕ) (m : Moment) (ms : List Moment) → steps_fit parts from (m ∷ ms) ≡ true → Fits parts from m ms
split parts from m ms e =
    let first = and_first (step_fits parts from m) (steps_fit parts (successors_at parts m.node) ms) e in
    record {
      contained = contained from m.node (and_first (list_any (λ k. k == m.node) from) (are_values (subproblem_at parts m.node) m.values) first);
      values = and_second (list_any (λ k. k == m.node) from) (are_values (subproblem_at parts m.node) m.values) first;
      tail = and_second (step_fits parts from m) (steps_fit parts (successors_at parts m.node) ms) e;
    }

-- each moment is at a node of a lower rank than the one before it
few_moments : (p : Validated) → is_validated p ≡ true → (m : ℕ) (ms : List Moment) → steps_fit p.parts (successors_at p.parts m) ms ≡ true → length ms ≤ rank (graph_of p.parts) m
few_moments p e m [] f = omega arith
few_moments p e m (x ∷ xs) f =
    let here = split p.parts (successors_at p.parts m) x xs f in
    let lower = rank_falls (graph_of p.parts) m x.node (known_graph p.parts (parts-is_validated p e)) (no_cycle-validated p e) here.contained in
    let tail = few_moments p e x.node xs here.tail in
    omega (arith, lower, tail)

-- a run has at most as many moments as there are nodes
pub run_short : (p : Validated) (ms : List Moment) → is_validated p ≡ true → IsProblemRun p ms → length ms ≤ 1000
run_short p [] e h = omega arith
run_short p (x ∷ xs) e h =
    let here = split p.parts p.parts.root x xs h in
    let there : x.node < length p.parts.nodes = node_there p.parts x.node x.values here.values in
    let count = length-map p.parts.nodes (λ (n : nodes.Node). n.successors) in
    let below = rank_below (graph_of p.parts) x.node (known_graph p.parts (parts-is_validated p e)) (no_cycle-validated p e) (omega (arith, there, count)) in
    let tail = few_moments p e x.node xs here.tail in
    omega (arith, below, tail, count, few_nodes p.parts (parts-is_validated p e))

-- a state that has come to moments which go on from these nodes
pub record ComesTo (p : Validated) (ms : List Moment) (state : List ℤ) : Type 0 where
  pub from : List ℕ
  pub fits : steps_fit p.parts from ms ≡ true
  pub inside : (k : ℕ) → Contains from k → IsStateAt p k state

-- a run begins with the initial state
pub comes_first : (p : Validated) (ms : List Moment) → is_validated p ≡ true → IsProblemRun p ms → ComesTo p ms (times_all S (problem_of p).initial)
comes_first p ms e h = record { from = p.parts.root; fits = h; inside = λ k c. start-validated p k e (root_counted p e) c }

-- the premises on a moment
pub record IsHere (p : Validated) (m : Moment) (ms : List Moment) (state : List ℤ) : Type 0 where
  pub known : m.node < length p.parts.nodes
  pub values : are_values (subproblem_of p m.node) m.values ≡ true
  pub inside : IsStateAt p m.node state
  pub tail : steps_fit p.parts (successors_at p.parts m.node) ms ≡ true

at_first : (p : Validated) (m : Moment) (ms : List Moment) (state : List ℤ) → ComesTo p (m ∷ ms) state → IsHere p m ms state
at_first p m ms state c =
    let own = split p.parts c.from m ms c.fits in
    record { known = node_there p.parts m.node m.values own.values; values = own.values; inside = c.inside m.node own.contained; tail = own.tail }

pub comes_here : (p : Validated) (ms : List Moment) (i : ℕ) (m : Moment) (state : List ℤ) → i < length ms → m ≡ get_or ms i m → ComesTo p (drop i ms) state → IsHere p m (drop (i + 1) ms) state
comes_here p ms i m state inside is c = at_first p m (drop (i + 1) ms) state (subst (λ (xs : List Moment). ComesTo p xs state) (drop_more ms i m inside ∙ ap (λ (x : Moment). x ∷ drop (i + 1) ms) (sym is)) c)

-- the state that leaves its node comes to the next one
pub comes_next : (p : Validated) (m : Moment) (ms : List Moment) (state next : List ℤ) → IsHere p m ms state → ((k : ℕ) → Contains (successors_at p.parts m.node) k → IsStateAt p k next) → ComesTo p ms next
comes_next p m ms state next h f = record { from = successors_at p.parts m.node; fits = h.tail; inside = f }

-- the moments of a path make a run
module _ (p : Validated) (e : is_validated p ≡ true) where
  step_of : (from : List ℕ) (s : PathStep) → Contains from s.node → IsInRange p.parts s → step_fits p.parts from (moment_of p.parts s) ≡ true
  step_of from s c r = both (list_any (λ m. m == s.node) from) (are_values (subproblem_at p.parts s.node) (moment_of p.parts s).values) (containing from s.node c) (values-validated p s e r)

  follow : (m : ℕ) (ss : List PathStep) → FollowsSuccessors p.parts m ss → All (IsInRange p.parts) ss → steps_fit p.parts (successors_at p.parts m) (map (moment_of p.parts) ss) ≡ true
  follow m [] f r = refl
  follow m (s ∷ ss) f r =
      both (step_fits p.parts (successors_at p.parts m) (moment_of p.parts s)) (steps_fit p.parts (successors_at p.parts s.node) (map (moment_of p.parts) ss))
      (step_of (successors_at p.parts m) s f.0 (All_head (IsInRange p.parts) s ss r)) (follow s.node ss f.1 (All_tail (IsInRange p.parts) s ss r))

  pub path_run : (ss : List PathStep) → IsPath p ss → IsProblemRun p (map (moment_of p.parts) ss)
  path_run [] h = refl
  path_run (s ∷ ss) h =
      both (step_fits p.parts p.parts.root (moment_of p.parts s)) (steps_fit p.parts (successors_at p.parts s.node) (map (moment_of p.parts) ss))
      (step_of p.parts.root s h.starts (All_head (IsInRange p.parts) s ss h.in_range)) (follow s.node ss h.follows (All_tail (IsInRange p.parts) s ss h.in_range))

  -- and stored scenarios are runs
  stored : scenarios_fit p.parts ≡ true
  stored = stored_scenarios_fit p.parts (parts-is_validated p e)

  pub few_stored : length p.parts.scenarios ≤ 1000
  unfolding scenarios_fit
  few_stored = grind (arith, nat_tests, common_steps, stored)

  all_stored : list_all (scenario_fits p.parts) p.parts.scenarios ≡ true
  unfolding scenarios_fit
  all_stored = grind (arith, nat_tests, common_steps, stored)

  pub stored_runs : All (IsProblemRun p) p.parts.scenarios
  stored_runs = λ i d h. and_second _ (steps_fit p.parts p.parts.root (get_or p.parts.scenarios i d)) (all_at (scenario_fits p.parts) p.parts.scenarios i d all_stored h)
