-- The boxes of a chain whose nodes share one subproblem with a box for each state: the states that come in lie inside.
use Rattle.std.proofs.Common.{◌≡◌, ℕ, zero, suc, ◌+◌, ◌<◌, ◌≤◌, ◌==◌, ◌⊎◌, inl, inr, ℤ, pos, ◌≤ℤ◌, List, [], ◌∷◌, ◌++◌, length, map, filter, fold, get_or, slice_get, false, Option, Some, None, option_and_then, unwrap_or, Ok, refl, sym, ap, ap₂, subst, ◌∙◌, arith}
use Rattle.std.specs.List.{AllByRecursion, cons_option, flat_map, range_with_len}
use Rattle.std.proofs.lemmas.Bool.{cases_lt, lt-ltb}
use Rattle.std.proofs.lemmas.Bool.Decides.{nat_tests}
use Rattle.std.proofs.lemmas.Int.{ints, clamps}
use Rattle.std.proofs.lemmas.List.FromFn.{fill_by_all, length-map-range_with_len, get_or-map-range_with_len}
use Rattle.base_num.specs.Sums.{entry}
use Rattle.base_graph.specs.Paths.{numbers, arcs_from, first_in_cycle, first_unreached}
use Rattle.base_graph.specs.Ranks.{ranks, by_rank, longest_from, predecessors}
use Rattle.problem.specs.declared.parts.Node.{Node}
use Rattle.problem.specs.declared.parts.Subproblem.{Subproblem}
use Rattle.problem.specs.declared.parts.ProblemParts.{ProblemParts}
use Rattle.problem.specs.Validated.{Validated, graph_of, out_lows, out_highs, initial_values}
use Rattle.problem.specs.declared.side.Side.{Side}
use Rattle.problem.specs.declared.side.Side.TheVariants.{Low, High}
use Rattle.problem.specs.Hull.{outer, outermost, hull_ends, end_at, start_at, incoming, hull, given, given_in, has_gap, first_gap, gap_in, box_side, sides}
use Rattle.problem.specs.Arranged.{unless_cycle, unless_unreached, unless_gap, with_order, with_boxes, ordered, boxed, arranged}
use Rattle.theory.proofs.Ranges.{int_le-true}
use Rattle.hydro_accept.proofs.Named.{map_alike, some_is}
use Rattle.hydro_accept.proofs.Pairs.{all_numbers, all_flat_map, all_map, all_of}
use Rattle.hydro_accept.proofs.Chain.{chain, length-chain, successors_within, itself, none_found, no_cycle, none_unreached}

pub record Inside (low high z : ℤ) : Type 0 where
  pub above : low ≤ℤ z
  pub below : z ≤ℤ high

-- ---- lists with an entry

abbrev Some_in : {A : Type 0} → List A → Type 0
Some_in [] = ⊥
Some_in (x ∷ xs) = Unit {0}

some_left : {A : Type 0} (xs ys : List A) → Some_in xs → Some_in (xs ++ ys)
some_left [] ys s = absurd s
some_left (x ∷ xs) ys s = tt

some_right : {A : Type 0} (xs ys : List A) → Some_in ys → Some_in (xs ++ ys)
some_right [] ys s = s
some_right (x ∷ xs) ys s = tt

first_or_later : {A : Type 0} (f : ℕ → List A) (a n k : ℕ) → a ≤ k → (a < k) ⊎ (k ≤ a) → Some_in (f k) → (a < k → Some_in (flat_map f (range_with_len (a + 1) n))) → Some_in (f a ++ flat_map f (range_with_len (a + 1) n))
first_or_later f a n k low (inl less) s later = some_right (f a) (flat_map f (range_with_len (a + 1) n)) (later less)
first_or_later f a n k low (inr most) s later = let e : k ≡ a = omega (arith, low, most) in some_left (f a) (flat_map f (range_with_len (a + 1) n)) (subst (λ (j : ℕ). Some_in (f j)) e s)

some_flat : {A : Type 0} (f : ℕ → List A) (a n k : ℕ) → a ≤ k → k < a + n → Some_in (f k) → Some_in (flat_map f (range_with_len a n))
some_flat f a zero k low high s = absurd (omega arith)
some_flat f a (suc n) k low high s = first_or_later f a n k low (cases_lt a k) s (λ (less : a < k). some_flat f (a + 1) n k (omega (arith, less)) (omega (arith, high)) s)

some_map : {A B : Type 0} (f : A → B) (xs : List A) → Some_in xs → Some_in (map f xs)
some_map f [] s = absurd s
some_map f (x ∷ xs) s = tt

some_cons : {A : Type 0} (o : Option A) (xs : List A) → Some_in xs → Some_in (cons_option o xs)
some_cons None xs s = s
some_cons (Some x) xs s = tt

-- ---- the outermost of numbers that lie inside

module _ (low high : ℤ) where
  outer_in : (side : Side) (x y : ℤ) → Inside low high x → Inside low high y → Inside low high (outer side x y)
  outer_in Low x y p q = record { above = omega (arith, ints, clamps, p.above, q.above); below = omega (arith, ints, clamps, p.below, q.below) }
  outer_in High x y p q = record { above = omega (arith, ints, clamps, p.above, q.above); below = omega (arith, ints, clamps, p.below, q.below) }

  fold_in : (side : Side) (x : ℤ) (xs : List ℤ) → Inside low high x → AllByRecursion (Inside low high) xs → Inside low high (fold (outer side) x xs)
  fold_in side x [] p q = p
  fold_in side x (y ∷ ys) p q = fold_in side (outer side x y) ys (outer_in side x y p q.0) q.1

  outermost_in : (side : Side) (xs : List ℤ) → Some_in xs → AllByRecursion (Inside low high) xs → Inside low high (outermost side xs)
  outermost_in side [] s p = absurd s
  outermost_in side (x ∷ xs) s p = fold_in side x xs p.0 p.1

  cons_in : (o : Option ℤ) (xs : List ℤ) → ((z : ℤ) → o ≡ Some z → Inside low high z) → AllByRecursion (Inside low high) xs → AllByRecursion (Inside low high) (cons_option o xs)
  cons_in None xs p q = q
  cons_in (Some z) xs p q = (p z refl, q)

-- ---- the chain

pub slice_is : (xs : List ℤ) (s : ℕ) → s < length xs → slice_get xs s ≡ Some (entry xs s)
slice_is [] s h = absurd (omega arith)
slice_is (x ∷ xs) zero h = refl
slice_is (x ∷ xs) (suc s) h = slice_is xs s (omega arith)

given_is : (xs : List ℤ) (s : ℕ) → s < length xs → get_or (map Some xs) s None ≡ Some (entry xs s)
given_is [] s h = absurd (omega arith)
given_is (x ∷ xs) zero h = refl
given_is (x ∷ xs) (suc s) h = given_is xs s (omega arith)

node_got : {A : Type 0} (f : ℕ → A) (a n m : ℕ) → m < n → slice_get (map f (range_with_len a n)) m ≡ Some (f (a + m))
node_got f a zero m h = absurd (omega arith)
node_got f a (suc n) zero h = let e : a ≡ a + 0 = omega arith in ap (λ (k : ℕ). Some (f k)) e
node_got f a (suc n) (suc m) h = let e : a + 1 + m ≡ a + suc m = omega arith in node_got f (a + 1) n m (omega arith) ∙ ap (λ (k : ℕ). Some (f k)) e

pub node_there : {A : Type 0} (f : ℕ → A) (n m : ℕ) → m < n → slice_get (map f (numbers n)) m ≡ Some (f m)
node_there f n m h = let e : 0 + m ≡ m = omega arith in node_got f 0 n m h ∙ ap (λ (k : ℕ). Some (f k)) e

-- a chain of nodes with one subproblem, whose states lie between these
pub record IsChain (parts : ProblemParts) (f : ℕ → Node) (sub : Subproblem) (count : ℕ) (lows highs : List ℤ) : Type 0 where
  pub some : 0 < count
  pub nodes : parts.nodes ≡ map f (numbers count)
  pub own : (m : ℕ) → (f m).sub ≡ 0
  pub subs : parts.subs ≡ sub ∷ []
  pub root : parts.root ≡ 0 ∷ []
  pub graph : graph_of parts ≡ chain count
  pub low : sub.low ≡ map Some lows
  pub high : sub.high ≡ map Some highs
  pub out_low : out_lows sub ≡ lows
  pub out_high : out_highs sub ≡ highs
  pub states : length parts.states ≡ length lows
  pub as_many : length highs ≡ length lows
  pub ordered : (s : ℕ) → s < length lows → entry lows s ≤ℤ entry highs s
  pub initial : (s : ℕ) → s < length lows → (z : ℤ) × (slice_get (initial_values parts) s ≡ Some z) × Inside (entry lows s) (entry highs s) z

module _ (parts : ProblemParts) (f : ℕ → Node) (sub : Subproblem) (count : ℕ) (lows highs : List ℤ) (c : IsChain parts f sub count lows highs) where
  own_sub : (m : ℕ) → m < count → option_and_then (λ (node : Node). slice_get parts.subs node.sub) (slice_get parts.nodes m) ≡ Some sub
  own_sub m h = rw (c.nodes, node_there f count m h, c.own m, c.subs) refl

  low_given : (m s : ℕ) → m < count → s < length lows → given Low parts m s ≡ Some (entry lows s)
  low_given m s h k = ap (λ (o : Option Subproblem). given_in Low o s) (own_sub m h) ∙ ap (λ (os : List (Option ℤ)). get_or os s None) c.low ∙ given_is lows s k

  high_given : (m s : ℕ) → m < count → s < length lows → given High parts m s ≡ Some (entry highs s)
  high_given m s h k = ap (λ (o : Option Subproblem). given_in High o s) (own_sub m h) ∙ ap (λ (os : List (Option ℤ)). get_or os s None) c.high ∙ given_is highs s (omega (arith, c.as_many))

  abbrev In : ℕ → ℤ → Type 0
  In s z = Inside (entry lows s) (entry highs s) z

  -- the ends of the state that leaves a node
  end_is : (side : Side) (zs : List ℤ) (m s : ℕ) → hull_ends side parts ≡ zs ∷ [] → m < count → s < length zs → end_at parts.nodes (hull_ends side parts) s m ≡ entry zs s
  end_is side zs m s e h k = rw (e, c.nodes, node_there f count m h, c.own m, slice_is zs s k) refl

  low_ends : hull_ends Low parts ≡ lows ∷ []
  low_ends = ap (map out_lows) c.subs ∙ ap (λ (zs : List ℤ). zs ∷ []) c.out_low

  high_ends : hull_ends High parts ≡ highs ∷ []
  high_ends = ap (map out_highs) c.subs ∙ ap (λ (zs : List ℤ). zs ∷ []) c.out_high

  low_itself : (s : ℕ) → s < length lows → In s (entry lows s)
  low_itself s h = record { above = omega (arith, ints); below = c.ordered s h }

  high_itself : (s : ℕ) → s < length lows → In s (entry highs s)
  high_itself s h = record { above = c.ordered s h; below = omega (arith, ints) }

  end_in : (side : Side) (s m : ℕ) → m < count → s < length lows → In s (end_at parts.nodes (hull_ends side parts) s m)
  end_in Low s m h k = subst (In s) (sym (end_is Low lows m s low_ends h k)) (low_itself s k)
  end_in High s m h k = subst (In s) (sym (end_is High highs m s high_ends h (omega (arith, c.as_many)))) (high_itself s k)

  -- ---- what comes in

  abbrev from : ℕ → ℕ → List ℕ
  from m p = map (λ (k : ℕ). p) (filter (λ k. k == m) (arcs_from (chain count) p))

  predecessors_in : (m : ℕ) → AllByRecursion (λ p. p < count) (predecessors (chain count) m)
  predecessors_in m =
      all_flat_map (λ p. p < count) (from m) (numbers (length (chain count)))
      (all_numbers (λ p. AllByRecursion (λ q. q < count) (from m p)) (length (chain count)) (λ p h. all_map (λ q. q < count) (λ (k : ℕ). p) (filter (λ k. k == m) (arcs_from (chain count) p)) (all_of (λ k. p < count) (λ k. omega (arith, length-chain count)) (filter (λ k. k == m) (arcs_from (chain count) p)))))

  predecessor_there : (p : ℕ) → suc p < count → Some_in (predecessors (chain count) (suc p))
  predecessor_there p h =
      some_flat (from (suc p)) 0 (length (chain count)) p (omega arith) (omega (arith, length-chain count))
      (some_map (λ (k : ℕ). p) (filter (λ k. k == suc p) (arcs_from (chain count) p)) (rw (successors_within count p (omega arith), lt-ltb (suc p) count h, itself (suc p)) tt))

  start_first : (s : ℕ) → start_at parts 0 s ≡ slice_get (initial_values parts) s
  start_first s = rw c.root refl

  start_later : (m s : ℕ) → start_at parts (suc m) s ≡ None
  start_later m s = let e : (0 == suc m) ≡ false = grind (arith, nat_tests) in rw (c.root, e) refl

  ends_in : (side : Side) (m s : ℕ) → s < length lows → AllByRecursion (In s) (map (end_at parts.nodes (hull_ends side parts) s) (predecessors (chain count) m))
  ends_in side m s k = all_ends (predecessors (chain count) m) (predecessors_in m)
    where
      all_ends : (ps : List ℕ) → AllByRecursion (λ p. p < count) ps → AllByRecursion (In s) (map (end_at parts.nodes (hull_ends side parts) s) ps)
      all_ends [] a = tt
      all_ends (p ∷ ps) a = (end_in side s p a.0 k, all_ends ps a.1)

  first_in : (s : ℕ) (z : ℤ) → s < length lows → start_at parts 0 s ≡ Some z → In s z
  first_in s z k e = let i = c.initial s k in subst (In s) (some_is i.0 z (sym i.1 ∙ sym (start_first s) ∙ e)) i.2

  incoming_in : (side : Side) (m s : ℕ) → s < length lows → AllByRecursion (In s) (incoming side parts m s)
  incoming_in side zero s k =
      cons_in (entry lows s) (entry highs s) (start_at parts 0 s) _ (λ z e. first_in s z k e) (subst (λ (g : List (List ℕ)). AllByRecursion (In s) (map (end_at parts.nodes (hull_ends side parts) s) (predecessors g 0))) (sym c.graph) (ends_in side 0 s k))
  incoming_in side (suc m) s k =
      cons_in (entry lows s) (entry highs s) (start_at parts (suc m) s) _ (λ z e. absurd (no_start z (sym (start_later m s) ∙ e))) (subst (λ (g : List (List ℕ)). AllByRecursion (In s) (map (end_at parts.nodes (hull_ends side parts) s) (predecessors g (suc m)))) (sym c.graph) (ends_in side (suc m) s k))
    where
      no_start : (z : ℤ) → None ≡ Some z → ⊥
      no_start z e = absurd cc

  incoming_some : (side : Side) (m s : ℕ) → m < count → s < length lows → Some_in (incoming side parts m s)
  incoming_some side zero s h k = let i = c.initial s k in subst (λ (o : Option ℤ). Some_in (cons_option o (map (end_at parts.nodes (hull_ends side parts) s) (predecessors (graph_of parts) 0)))) (sym (start_first s ∙ i.1)) tt
  incoming_some side (suc m) s h k =
      some_cons (start_at parts (suc m) s) _ (subst (λ (g : List (List ℕ)). Some_in (map (end_at parts.nodes (hull_ends side parts) s) (predecessors g (suc m)))) (sym c.graph) (some_map (end_at parts.nodes (hull_ends side parts) s) (predecessors (chain count) (suc m)) (predecessor_there m h)))

  hull_in : (side : Side) (m s : ℕ) → m < count → s < length lows → In s (entry (hull side parts m) s)
  unfolding hull
  hull_in side m s h k =
      subst (In s) (sym (get_or-map-range_with_len (λ (t : ℕ). outermost side (incoming side parts m t)) 0 (length parts.states) s s (pos 0) (omega (arith, c.states)) (omega arith)))
      (outermost_in (entry lows s) (entry highs s) side (incoming side parts m s) (incoming_some side m s h k) (incoming_in side m s k))

  -- ---- the given bounds enclose it

  no_gap : (m s : ℕ) → m < count → s < length lows → has_gap parts m s ≡ false
  no_gap m s h k =
      let l = hull_in Low m s h k in
      let u = hull_in High m s h k in
      rw (low_given m s h k, high_given m s h k, int_le-true (entry lows s) (entry (hull Low parts m) s) l.above, int_le-true (entry (hull High parts m) s) (entry highs s) u.below) refl

  no_gaps : (a n : ℕ) → a + n ≤ count → first_gap parts (range_with_len a n) ≡ None
  no_gaps a zero h = refl
  no_gaps a (suc n) h =
      ap (λ (o : Option ℕ). gap_in a o (first_gap parts (range_with_len (a + 1) n))) (none_found (has_gap parts a) 0 (length parts.states) (λ s l. no_gap a s (omega arith) (omega (arith, c.states))))
      ∙ no_gaps (a + 1) n (omega arith)

  count_nodes : length parts.nodes ≡ count
  count_nodes = ap length c.nodes ∙ length-map-range_with_len f 0 count

  boxed_is : boxed parts ≡ Ok (sides Low parts, sides High parts)
  unfolding boxed
  boxed_is = ap (unless_gap parts) (ap (λ (n : ℕ). first_gap parts (numbers n)) count_nodes ∙ no_gaps 0 count (omega arith))

  ordered_is : ordered parts ≡ Ok (by_rank (ranks (graph_of parts)), longest_from (ranks (graph_of parts)) parts.root)
  unfolding ordered
  ordered_is =
      ap (unless_cycle parts) (ap first_in_cycle c.graph ∙ no_cycle count)
      ∙ ap (unless_unreached parts) (ap₂ first_unreached c.graph c.root ∙ none_unreached count)

  -- the problem of the parts
  abbrev pub validated : Validated
  validated = record { parts = parts; order = by_rank (ranks (graph_of parts)); longest = longest_from (ranks (graph_of parts)) parts.root; lo = sides Low parts; hi = sides High parts }

  pub arranged_is : arranged parts ≡ Ok validated
  unfolding arranged
  arranged_is = ap (with_order parts) ordered_is ∙ ap (with_boxes parts (by_rank (ranks (graph_of parts)), longest_from (ranks (graph_of parts)) parts.root)) boxed_is

  -- ---- the boxes are the given ones

  all_entries : (zs : List ℤ) → map (entry zs) (numbers (length zs)) ≡ zs
  all_entries zs = sym (fill_by_all (entry zs) zs (length zs) (pos 0) refl (λ k p. refl))

  side_low : (m : ℕ) → m < count → box_side Low parts m ≡ lows
  side_low m h =
      ap (λ (n : ℕ). map (λ s. unwrap_or (given Low parts m s) (entry (hull Low parts m) s)) (numbers n)) c.states
      ∙ map_alike (λ s. unwrap_or (given Low parts m s) (entry (hull Low parts m) s)) (entry lows) (numbers (length lows)) (all_numbers _ (length lows) (λ s k. ap (λ (o : Option ℤ). unwrap_or o (entry (hull Low parts m) s)) (low_given m s h k)))
      ∙ all_entries lows

  side_high : (m : ℕ) → m < count → box_side High parts m ≡ highs
  side_high m h =
      ap (λ (n : ℕ). map (λ s. unwrap_or (given High parts m s) (entry (hull High parts m) s)) (numbers n)) (c.states ∙ sym c.as_many)
      ∙ map_alike (λ s. unwrap_or (given High parts m s) (entry (hull High parts m) s)) (entry highs) (numbers (length highs)) (all_numbers _ (length highs) (λ s k. ap (λ (o : Option ℤ). unwrap_or o (entry (hull High parts m) s)) (high_given m s h (omega (arith, c.as_many)))))
      ∙ all_entries highs

  pub low_at : (m : ℕ) → m < count → get_or validated.lo m [] ≡ lows
  low_at m h = get_or-map-range_with_len (box_side Low parts) 0 (length parts.nodes) m m [] (omega (arith, count_nodes)) (omega arith) ∙ side_low m h

  pub high_at : (m : ℕ) → m < count → get_or validated.hi m [] ≡ highs
  high_at m h = get_or-map-range_with_len (box_side High parts) 0 (length parts.nodes) m m [] (omega (arith, count_nodes)) (omega arith) ∙ side_high m h
