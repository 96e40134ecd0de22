-- The premises of the laws hold of each validated problem.
use Rattle.std.proofs.Common.{◌≡◌, ℕ, zero, suc, ◌+◌, ◌*◌, nat_abs, ◌<◌, ◌≤◌, ◌^◌, ℤ, pos, ◌≤ℤ◌, ◌+ℤ◌, true, List, [], ◌∷◌, length, get_or, map, All, Contains, sum, Some, slice_get, nat_lt, sym, ap, ◌∙◌, subst, arith}
use Rattle.std.specs.Prelude.{int_le}
use Rattle.std.specs.List.{list_all}
use Rattle.std.specs.Option.{option_map}
use Rattle.std.proofs.lemmas.Grind.{common_steps}
use Rattle.std.proofs.lemmas.Bool.Decides.{nat_tests}
use Rattle.std.proofs.lemmas.Int.{ints}
use Rattle.std.proofs.lemmas.List.{length-map, get_or-map}
use Rattle.std.proofs.lemmas.List.Elements.{Contains-get_or, All-weaker}
use Rattle.std.proofs.lemmas.Option.{slice_get-map, get_or_from_slice_get}
use Rattle.base_num.proofs.Tests.{and_first, and_second, all_at}
use Rattle.base_num.specs.Sums.{sum_to, entry}
use Rattle.base_graph.specs.Paths.{arcs_from}
use Rattle.base_graph.proofs.Paths.{leads_to}
use Rattle.problem.specs.declared.parts.Node as nodes
use Rattle.problem.specs.declared.parts.State.{State}
use Rattle.problem.specs.declared.parts.ProblemParts.{ProblemParts}
use Rattle.problem.specs.declared.parts.Decision.{Decision}
use Rattle.problem.specs.declared.parts.Subproblem.{Subproblem}
use Rattle.problem.specs.Limits.{are_numbers, are_weights, root_fits}
use Rattle.problem.specs.Validated.{Validated, is_validated, graph_of, at_most, holds_box, out_lows, out_highs, lows_from, highs_from, initial_values}
use Rattle.problem.proofs.ValidatedFacts.{parts-is_validated, root-parts_are_lawful, known_graph, few_states}
use Rattle.theory.specs.Problem.{Successor, Node, Problem, node_at, successor_weights, weight_of_successors}
use Rattle.theory.specs.View.{node_of, successors_of, problem_of}
use Rattle.theory.specs.Premises.{Shaped, Nested, StartsIn, RootShaped, HaveCuts, Known, Narrow}
use Rattle.theory.specs.declared.cut.Cut.{Cut}
use Rattle.theory.specs.Pools.{pool}
use Rattle.theory.specs.Size.{reach}
use Rattle.theory.proofs.Views.{weight-realizations_of, successor_weights-successors_of, root-problem_of, initial-problem_of, All-successors_of}
use Rattle.theory.proofs.ValidatedParts.{PartsFit, Parts, parts_of_node, boxes-validated, weighty, weights_positive, linked, successors_known, successors_positive, counted, outs_known, numbers_counted, numbers_small}

-- lists
le-int_le : (a b : ℤ) → int_le a b ≡ true → a ≤ℤ b
le-int_le a b e = grind (arith, ints)

lt-nat_lt : (m n : ℕ) → nat_lt m n ≡ true → m < n
lt-nat_lt m n e = grind (arith, nat_tests)

-- numbers that are at most those beside them
at_most_at : (xs ys : List ℤ) (k : ℕ) → at_most xs ys ≡ true → k < length xs → k < length ys → entry xs k ≤ℤ entry ys k
at_most_at [] ys k e h i = absurd (omega arith)
at_most_at (x ∷ xs) [] k e h i = absurd (omega arith)
at_most_at (x ∷ xs) (y ∷ ys) zero e h i = le-int_le x y (and_first (int_le x y) (at_most xs ys) e)
at_most_at (x ∷ xs) (y ∷ ys) (suc k) e h i = at_most_at xs ys k (and_second (int_le x y) (at_most xs ys) e) (omega arith) (omega arith)

map_at : {A B : Type 0} (f : A → B) (xs : List A) (i : ℕ) (x : A) (d : B) → slice_get xs i ≡ Some x → get_or (map f xs) i d ≡ f x
map_at f xs i x d e = get_or_from_slice_get (map f xs) i (f x) d (slice_get-map f xs i ∙ ap (option_map f) e)

positive_sum : (ws : List ℕ) → 0 < length ws → are_weights ws ≡ true → 0 < sum ws
positive_sum [] h e = absurd (omega arith)
positive_sum (w ∷ ws) h e = grind (arith, nat_tests, common_steps)

some_successor_weight : (stop : ℕ) (ms ws : List ℕ) → length ws ≡ length ms → are_weights ws ≡ true → 0 < weight_of_successors stop (successors_of ms ws)
some_successor_weight stop [] ws e h = omega arith
some_successor_weight stop (m ∷ ms) [] e h = absurd (omega arith)
some_successor_weight stop (m ∷ ms) (w ∷ ws) e h =
    let is : sum (successor_weights (successors_of (m ∷ ms) (w ∷ ws))) ≡ sum (w ∷ ws) = ap (λ (k : List ℕ). sum k) (successor_weights-successors_of (m ∷ ms) (w ∷ ws) (sym e)) in
    let some : 0 < sum (w ∷ ws) = positive_sum (w ∷ ws) (omega arith) h in
    omega arith

-- the state that leaves a node lies in the box of another
nested : (n k : nodes.Node) (s t : Subproblem) (low high low' high' : List ℤ) → length s.outs ≡ length low' → length s.outs ≡ length high' → list_all (λ o. nat_lt o (length s.decisions)) s.outs ≡ true
    → at_most low' (out_lows s) ≡ true → at_most (out_highs s) high' ≡ true → Nested (node_of n s low high) (node_of k t low' high')
unfolding node_of
nested n k s t low high low' high' lows highs known above below = record {
  count = lows;
  outs = λ i h. subst (λ (c : ℕ). get_or s.outs i 0 < c) (sym (length-map s.decisions (λ (d : Decision). d.low))) (lt-nat_lt (get_or s.outs i 0) (length s.decisions) (all_at (λ o. nat_lt o (length s.decisions)) s.outs i 0 known (omega arith)));
  lows = λ i h. subst (λ (z : ℤ). entry low' i ≤ℤ z) (at (λ (d : Decision). d.low) i h) (at_most_at low' (out_lows s) i above h (inside (λ (d : Decision). d.low) i h));
  highs = λ i h. subst (λ (z : ℤ). z ≤ℤ entry high' i) (at (λ (d : Decision). d.high) i h) (at_most_at (out_highs s) high' i below (inside (λ (d : Decision). d.high) i h) (omega arith));
}
  where
    at : (f : Decision → ℤ) (i : ℕ) → i < length low' → entry (map (λ o. entry (map f s.decisions) o) s.outs) i ≡ entry (map f s.decisions) (get_or s.outs i 0)
    at f i h = get_or-map (λ o. entry (map f s.decisions) o) s.outs i 0 (pos 0) (omega arith)

    inside : (f : Decision → ℤ) (i : ℕ) → i < length low' → i < length (map (λ o. entry (map f s.decisions) o) s.outs)
    inside f i h = omega (arith, length-map s.outs (λ o. entry (map f s.decisions) o))

-- the numbers and the weights of a node's arcs
module _ (p : Validated) (e : is_validated p ≡ true) (m : ℕ) (n : nodes.Node) (s : Subproblem) (low high : List ℤ) (fit : PartsFit p m n s low high) where
  successor_there : (i : ℕ) → i < length n.successors → get_or n.successors i 0 < length p.parts.nodes
  successor_there i h = lt-nat_lt (get_or n.successors i 0) (length p.parts.nodes) (all_at (λ m. nat_lt m (length p.parts.nodes)) n.successors i 0 (successors_known n (length p.parts.nodes) fit.successors) h)

  nested_successor : (i : ℕ) → i < length n.successors → Nested (node_of n s low high) (node_at (problem_of p) (get_or n.successors i 0))
  nested_successor i h =
      let k : ℕ = get_or n.successors i 0 in
      let q : Parts p k = parts_of_node p k e (successor_there i h) in
      let holds : holds_box p.lo p.hi (lows_from p.parts n) (highs_from p.parts n) k ≡ true = all_at (holds_box p.lo p.hi (lows_from p.parts n) (highs_from p.parts n)) n.successors i 0 fit.leaves h in
      let above : at_most (get_or p.lo k []) (lows_from p.parts n) ≡ true = and_first _ (at_most (highs_from p.parts n) (get_or p.hi k [])) holds in
      let below : at_most (highs_from p.parts n) (get_or p.hi k []) ≡ true = and_second (at_most (get_or p.lo k []) (lows_from p.parts n)) _ holds in
      let outs : length s.outs ≡ length p.parts.states = (counted s (length p.parts.states) fit.subproblem).1 in
      let lows : lows_from p.parts n ≡ out_lows s = map_at out_lows p.parts.subs n.sub s [] fit.the_subproblem in
      let highs : highs_from p.parts n ≡ out_highs s = map_at out_highs p.parts.subs n.sub s [] fit.the_subproblem in
      let low' : get_or p.lo k [] ≡ q.low = get_or_from_slice_get p.lo k q.low [] q.fit.the_low in
      let high' : get_or p.hi k [] ≡ q.high = get_or_from_slice_get p.hi k q.high [] q.fit.the_high in
      subst (λ (x : Node). Nested (node_of n s low high) x) (sym q.fit.is)
      (nested n q.node s q.subproblem low high q.low q.high
      (outs ∙ sym (numbers_counted q.low (length p.parts.states) q.fit.lows)) (outs ∙ sym (numbers_counted q.high (length p.parts.states) q.fit.highs)) (outs_known s (length p.parts.states) fit.subproblem)
      (rw (low', lows) at above) (rw (highs, high') at below))

  shaped_parts : Shaped (problem_of p) (node_of n s low high)
  unfolding node_of
  shaped_parts =
      let w = weighty n (length s.randoms) fit.realizations in
      let l = linked n (length p.parts.nodes) fit.successors in
      record {
        decisions = length-map s.decisions (λ (d : Decision). d.low) ∙ sym (length-map s.decisions (λ (d : Decision). d.cost));
        states = numbers_counted low (length p.parts.states) fit.lows ∙ sym (counted s (length p.parts.states) fit.subproblem).0;
        realizations = subst (λ (k : ℕ). 0 < k) (sym (weight-realizations_of n.weights n.values (sym w.3))) (positive_sum n.weights w.0 (weights_positive n (length s.randoms) fit.realizations));
        successors = some_successor_weight n.stop n.successors n.successor_weights l.1 (successors_positive n (length p.parts.nodes) fit.successors);
        nested = All-successors_of (λ (k : Successor). Nested (node_of n s low high) (node_at (problem_of p) k.node)) n.successors n.successor_weights l.1 nested_successor;
      }

  -- each arc has weight and leads to a node that the graph has there
  leads_parts : All (λ (l : Successor). (0 < l.weight) × Contains (arcs_from (graph_of p.parts) m) l.node) (node_of n s low high).successors
  unfolding node_of
  leads_parts =
      let l = linked n (length p.parts.nodes) fit.successors in
      let successors : arcs_from (graph_of p.parts) m ≡ n.successors = map_at (λ (k : nodes.Node). k.successors) p.parts.nodes m n [] fit.the_node in
      subst (λ (ks : List ℕ). All (λ (k : Successor). (0 < k.weight) × Contains ks k.node) (successors_of n.successors n.successor_weights)) (sym successors)
      (All-successors_of (λ (k : Successor). (0 < k.weight) × Contains n.successors k.node) n.successors n.successor_weights l.1 (λ i h. (lt-nat_lt 0 (get_or n.successor_weights i 0) (all_at (λ w. nat_lt 0 w) n.successor_weights i 0 (successors_positive n (length p.parts.nodes) fit.successors) (omega (arith, l.1))), Contains-get_or n.successors i 0 h)))

-- the lists of each node fit
pub shaped-validated : (p : Validated) (m : ℕ) → is_validated p ≡ true → m < length p.parts.nodes → Shaped (problem_of p) (node_at (problem_of p) m)
shaped-validated p m e h = let q = parts_of_node p m e h in subst (λ (n : Node). Shaped (problem_of p) n) (sym q.fit.is) (shaped_parts p e m q.node q.subproblem q.low q.high q.fit)

pub leads-validated : (p : Validated) (m : ℕ) → is_validated p ≡ true → m < length p.parts.nodes → All (λ (l : Successor). (0 < l.weight) × Contains (arcs_from (graph_of p.parts) m) l.node) (node_at (problem_of p) m).successors
leads-validated p m e h = let q = parts_of_node p m e h in subst (λ (n : Node). All (λ (l : Successor). (0 < l.weight) × Contains (arcs_from (graph_of p.parts) m) l.node) n.successors) (sym q.fit.is) (leads_parts p e m q.node q.subproblem q.low q.high q.fit)

-- each arc leads to a node that is there
pub successors-validated : (p : Validated) (m : ℕ) → is_validated p ≡ true → m < length p.parts.nodes → All (λ (l : Successor). l.node < length p.parts.nodes) (node_at (problem_of p) m).successors
successors-validated p m e h =
    All-weaker (λ (l : Successor). (0 < l.weight) × Contains (arcs_from (graph_of p.parts) m) l.node) (λ (l : Successor). l.node < length p.parts.nodes)
    (λ l q. subst (λ (c : ℕ). l.node < c) (length-map p.parts.nodes (λ (n : nodes.Node). n.successors)) (leads_to (graph_of p.parts) m l.node (known_graph p.parts (parts-is_validated p e)) q.1))
    (node_at (problem_of p) m).successors (leads-validated p m e h)

-- the nodes have weights and lead to nodes
pub known-validated : (p : Validated) → is_validated p ≡ true → Known (problem_of p) (length p.parts.nodes)
known-validated p e = record {
  realizations = λ m h. (shaped-validated p m e h).realizations;
  weighted = λ m h. (shaped-validated p m e h).successors;
  successors = λ m h. successors-validated p m e h;
}

-- the root
root_facts : (parts : ProblemParts) → root_fits parts ≡ true → (0 < length parts.root_weights) × (length parts.root_weights ≡ length parts.root)
root_facts parts e = grind (arith, nat_tests)

root_known : (parts : ProblemParts) → root_fits parts ≡ true → list_all (λ m. nat_lt m (length parts.nodes)) parts.root ≡ true
root_known parts e = grind (arith, nat_tests)

root_weighted : (parts : ProblemParts) → root_fits parts ≡ true → are_weights parts.root_weights ≡ true
root_weighted parts e = grind (arith, nat_tests)

starts_parts : (p : Problem) (parts : ProblemParts) (n : nodes.Node) (s : Subproblem) (low high : List ℤ) → p.initial ≡ initial_values parts → length low ≡ length parts.states → length high ≡ length parts.states → at_most low (initial_values parts) ≡ true → at_most (initial_values parts) high ≡ true → StartsIn p (node_of n s low high)
unfolding node_of
starts_parts p parts n s low high is lows highs above below =
    let count : length (initial_values parts) ≡ length parts.states = length-map parts.states (λ (x : State). x.initial) in
    record {
      count = ap length is ∙ count ∙ sym lows;
      lows = λ k h. subst (λ (xs : List ℤ). entry low k ≤ℤ entry xs k) (sym is) (at_most_at low (initial_values parts) k above h (omega arith));
      highs = λ k h. subst (λ (xs : List ℤ). entry xs k ≤ℤ entry high k) (sym is) (at_most_at (initial_values parts) high k below (omega arith) (omega arith));
    }

module _ (p : Validated) (e : is_validated p ≡ true) where
  root_there : (i : ℕ) → i < length p.parts.root → get_or p.parts.root i 0 < length p.parts.nodes
  root_there i h = lt-nat_lt (get_or p.parts.root i 0) (length p.parts.nodes) (all_at (λ m. nat_lt m (length p.parts.nodes)) p.parts.root i 0 (root_known p.parts (root-parts_are_lawful p.parts (parts-is_validated p e))) h)

  starts_at : (i : ℕ) → i < length p.parts.root → StartsIn (problem_of p) (node_at (problem_of p) (get_or p.parts.root i 0))
  starts_at i h =
      let k : ℕ = get_or p.parts.root i 0 in
      let q : Parts p k = parts_of_node p k e (root_there i h) in
      let x : List ℤ = initial_values p.parts in
      let holds : holds_box p.lo p.hi x x k ≡ true = all_at (holds_box p.lo p.hi x x) p.parts.root i 0 (boxes-validated p e).starts h in
      let above : at_most (get_or p.lo k []) x ≡ true = and_first _ (at_most x (get_or p.hi k [])) holds in
      let below : at_most x (get_or p.hi k []) ≡ true = and_second (at_most (get_or p.lo k []) x) _ holds in
      let low : get_or p.lo k [] ≡ q.low = get_or_from_slice_get p.lo k q.low [] q.fit.the_low in
      let high : get_or p.hi k [] ≡ q.high = get_or_from_slice_get p.hi k q.high [] q.fit.the_high in
      subst (λ (n : Node). StartsIn (problem_of p) n) (sym q.fit.is)
      (starts_parts (problem_of p) p.parts q.node q.subproblem q.low q.high (initial-problem_of p) (numbers_counted q.low (length p.parts.states) q.fit.lows) (numbers_counted q.high (length p.parts.states) q.fit.highs) (rw low at above) (rw high at below))

  -- the root's arcs lead to nodes
  pub root-validated : All (λ (l : Successor). l.node < length p.parts.nodes) (problem_of p).root
  root-validated =
      let f = root_facts p.parts (root-parts_are_lawful p.parts (parts-is_validated p e)) in
      subst (λ (ls : List Successor). All (λ (l : Successor). l.node < length p.parts.nodes) ls) (sym (root-problem_of p)) (All-successors_of (λ (l : Successor). l.node < length p.parts.nodes) p.parts.root p.parts.root_weights f.1 root_there)

  -- the initial state lies in the boxes of the root's successors
  pub root_shaped-validated : RootShaped (problem_of p)
  root_shaped-validated =
      let fits = root-parts_are_lawful p.parts (parts-is_validated p e) in
      let f = root_facts p.parts fits in
      let weights : sum (successor_weights (successors_of p.parts.root p.parts.root_weights)) ≡ sum p.parts.root_weights = ap (λ (ws : List ℕ). sum ws) (successor_weights-successors_of p.parts.root p.parts.root_weights (sym f.1)) in
      record {
        some = subst (λ (ls : List Successor). 0 < sum (successor_weights ls)) (sym (root-problem_of p)) (subst (λ (k : ℕ). 0 < k) (sym weights) (positive_sum p.parts.root_weights f.0 (root_weighted p.parts fits)));
        boxes = subst (λ (ls : List Successor). All (λ (l : Successor). StartsIn (problem_of p) (node_at (problem_of p) l.node)) ls) (sym (root-problem_of p)) (All-successors_of (λ (l : Successor). StartsIn (problem_of p) (node_at (problem_of p) l.node)) p.parts.root p.parts.root_weights f.1 starts_at);
      }

-- where each node has a cut, so have the successors of the root and of each node
have_cuts : (pools : List (List Cut)) (count : ℕ) (ls : List Successor) → ((k : ℕ) → k < count → 0 < length (pool pools k)) → All (λ (l : Successor). l.node < count) ls → HaveCuts pools ls
have_cuts pools count ls some known = All-weaker (λ (l : Successor). l.node < count) (λ (l : Successor). 0 < length (pool pools l.node)) (λ l h. some l.node h) ls known

pub have_cuts-root : (p : Validated) (pools : List (List Cut)) → is_validated p ≡ true → ((k : ℕ) → k < length p.parts.nodes → 0 < length (pool pools k)) → HaveCuts pools (problem_of p).root
have_cuts-root p pools e some = have_cuts pools (length p.parts.nodes) (problem_of p).root some (root-validated p e)

pub have_cuts-successors : (p : Validated) (pools : List (List Cut)) (m : ℕ) → is_validated p ≡ true → m < length p.parts.nodes → ((k : ℕ) → k < length p.parts.nodes → 0 < length (pool pools k)) → HaveCuts pools (node_at (problem_of p) m).successors
have_cuts-successors p pools m e h some = have_cuts pools (length p.parts.nodes) (node_at (problem_of p) m).successors some (successors-validated p m e h)

-- the sides of each box are small
sum_at_most : (n c : ℕ) (f : ℕ → ℤ) → ((k : ℕ) → k < n → f k ≤ℤ pos c) → sum_to n f ≤ℤ pos (n * c)
sum_at_most zero c f h = omega (arith, ints)
sum_at_most (suc n) c f h =
    let tail : sum_to n (λ j. f (suc j)) ≤ℤ pos (n * c) = sum_at_most n c (λ j. f (suc j)) (λ k i. h (suc k) (omega arith)) in
    let first : f 0 ≤ℤ pos c = h 0 (omega arith) in
    let both : (f 0 +ℤ sum_to n (λ j. f (suc j))) ≤ℤ (pos c +ℤ pos (n * c)) = omega (arith, ints, tail, first) in
    let more : suc n * c ≡ c + n * c = omega arith in
    omega (arith, ints, both, more)

reach_small : (low high : List ℤ) (k : ℕ) → nat_abs (entry low k) ≤ 2 ^ 40 → nat_abs (entry high k) ≤ 2 ^ 40 → reach low high k ≤ℤ pos (2 ^ 40)
reach_small low high k a b = omega (arith, ints)

narrow_box : (low high : List ℤ) (count : ℕ) → are_numbers count low ≡ true → are_numbers count high ≡ true → count ≤ 50 → (pos 1 +ℤ sum_to (length low) (reach low high)) ≤ℤ pos (2 ^ 46)
narrow_box low high count e f few =
    let lows : length low ≡ count = numbers_counted low count e in
    let highs : length high ≡ count = numbers_counted high count f in
    let small : sum_to (length low) (reach low high) ≤ℤ pos (length low * 2 ^ 40) = sum_at_most (length low) (2 ^ 40) (reach low high) (λ k h. reach_small low high k (numbers_small low count k e h) (numbers_small high count k f (omega arith))) in
    let at_most : length low * 2 ^ 40 ≤ 50 * 2 ^ 40 = omega arith in
    omega (arith, ints, small, at_most)

narrow_parts : (n : nodes.Node) (s : Subproblem) (low high : List ℤ) → (pos 1 +ℤ sum_to (length low) (reach low high)) ≤ℤ pos (2 ^ 46) → Narrow (node_of n s low high)
unfolding node_of
narrow_parts n s low high h = h

pub narrow-validated : (p : Validated) (m : ℕ) → is_validated p ≡ true → m < length p.parts.nodes → Narrow (node_at (problem_of p) m)
narrow-validated p m e h =
    let q = parts_of_node p m e h in
    subst (λ (n : Node). Narrow n) (sym q.fit.is) (narrow_parts q.node q.subproblem q.low q.high (narrow_box q.low q.high (length p.parts.states) q.fit.lows q.fit.highs (few_states p.parts (parts-is_validated p e))))
