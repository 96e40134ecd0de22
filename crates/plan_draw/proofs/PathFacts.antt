-- A drawn path starts at a successor of the root, follows the arcs, and ends where it may, within the longest path.
use Rattle.std.proofs.Common.{◌≡◌, ℕ, zero, suc, ◌+◌, ◌<◌, ◌≤◌, ◌^◌, ◌⊎◌, inl, inr, true, List, [], ◌∷◌, ◌++◌, length, get_or, Option, Some, None, All, Contains, slice_get, nat_lt, refl, sym, subst, ◌∙◌, arith}
use Rattle.std.proofs.lemmas.List.Elements.{All-nil, All-cons}
use Rattle.std.proofs.Math.Nat.{mod-lt}
use Rattle.std.proofs.lemmas.Bool.{cases_lt}
use Rattle.std.proofs.lemmas.Bool.Decides.{nat_tests}
use Rattle.std.proofs.lemmas.Grind.{common_steps}
use Rattle.std.proofs.lemmas.List.{length-append, length-map}
use Rattle.std.proofs.lemmas.Option.{slice_get_within, get_or_from_slice_get}
use Rattle.rand_chacha.specs.ChaCha.{ChaCha}
use Rattle.rand_chacha.specs.Block.{block_word}
use Rattle.base_num.proofs.Tests.{and_first, and_second, is_none-true, some_of}
use Rattle.base_graph.specs.Paths.{first_in_cycle}
use Rattle.base_graph.specs.Ranks.{longest_from, rank, ranks}
use Rattle.base_graph.proofs.AllRanked.{greatest_over}
use Rattle.base_graph.proofs.Falling.{rank_falls}
use Rattle.base_graph.proofs.Placing.{rank_at}
use Rattle.base_graph.proofs.Paths.{leads_to}
use Rattle.problem.specs.declared.parts.Node.{Node}
use Rattle.problem.specs.Limits.{are_weights}
use Rattle.problem.specs.Parts.{successors_at, weights_at, graph_of}
use Rattle.problem.specs.Validated.{Validated, is_validated, graph_fits}
use Rattle.problem.proofs.ValidatedFacts.{parts-is_validated, graph-is_validated, known_graph}
use Rattle.plan_draw.specs.declared.steps.PathStep.{PathStep}
use Rattle.plan_draw.specs.Picked.{picked, stop_weight}
use Rattle.plan_draw.specs.Drawn.{choices, choices_at, EndsRight, first_node, FollowsSuccessors, FollowsArcs, IsInRange, last_node, MayEnd, next_node, path, path_from, StartsAtRoot, step_at, steps_from_node, stream_of, word_in}
use Rattle.plan_draw.proofs.Picking.{picked_in_range}
use Rattle.plan_draw.proofs.Draws.{Linked, made_at, next_is, node_linked, node_weighty, root_counted, root_inside, root_weighty}

-- each word has 32 bits
word_small : (g : ChaCha) (place : ℕ) → word_in g place < 2 ^ 32
unfolding word_in block_word
word_small g place = mod-lt _ (omega arith)

-- an entry at a place of a list is in it
contained : (ks : List ℕ) (i k : ℕ) → slice_get ks i ≡ Some k → Contains ks k
contained ks i k is = (i, slice_get_within ks i k is, get_or_from_slice_get ks i k k is)

-- weights and a stop weight behind them
weights_stop : (ws : List ℕ) (stop : ℕ) → are_weights ws ≡ true → are_weights (ws ++ stop_weight stop) ≡ true
weights_stop [] zero e = refl
weights_stop [] (suc n) e = grind (arith, nat_tests)
weights_stop (w ∷ ws) stop e =
    let here : nat_lt 0 w ≡ true = and_first (nat_lt 0 w) (are_weights ws) e in
    let tail : are_weights (ws ++ stop_weight stop) ≡ true = weights_stop ws stop (and_second (nat_lt 0 w) (are_weights ws) e) in
    rw here tail

-- a word that picks none of the successors picks the stop weight
stops : (successors ws : List ℕ) (stop word : ℕ) → length ws ≡ length successors → are_weights ws ≡ true → word < 2 ^ 32 → 0 < length successors → length successors ≤ picked (ws ++ stop_weight stop) word → 0 < stop
stops successors ws zero word count e small some past =
    let inside : picked (ws ++ []) word < length (ws ++ []) = picked_in_range (ws ++ []) word small (omega (arith, count, length-append ws (stop_weight zero))) (weights_stop ws zero e) in
    absurd (omega (arith, inside, count, past, length-append ws (stop_weight zero)))
stops successors ws (suc n) word count e small some past = omega arith

-- an empty list, or one whose places are below its length
some_or_none : {A : Type 0} (xs : List A) → (xs ≡ []) ⊎ (0 < length xs)
some_or_none [] = inl refl
some_or_none (x ∷ xs) = inr (omega arith)

not_both : (o : Option ℕ) (k : ℕ) → o ≡ None → o ≡ Some k → ⊥
not_both o k none some = cc

past_end : (ks : List ℕ) (i : ℕ) → slice_get ks i ≡ None → length ks ≤ i
past_end ks i none = by (cases_lt i (length ks))
  where
    by : (i < length ks) ⊎ (length ks ≤ i) → length ks ≤ i
    by (inl h) = let k = some_of ks i h in absurd (not_both (slice_get ks i) k.0 none k.1)
    by (inr h) = h

module _ (p : Validated) (e : is_validated p ≡ true) where
  abbrev graph : List (List ℕ)
  graph = graph_of p.parts

  no_cycle : first_in_cycle graph ≡ None
  unfolding graph_fits
  no_cycle = let g : graph_fits p.parts p.order p.longest ≡ true = graph-is_validated p e in is_none-true (first_in_cycle graph) (grind (arith, nat_tests, g))

  longest_is : p.longest ≡ longest_from (ranks graph) p.parts.root
  unfolding graph_fits
  longest_is = let g : graph_fits p.parts p.order p.longest ≡ true = graph-is_validated p e in grind (arith, nat_tests, common_steps, g)

  -- a successor of a lower rank
  falls : (m k : ℕ) → Contains (successors_at p.parts m) k → rank graph k < rank graph m
  falls m k c = rank_falls graph m k (known_graph p.parts (parts-is_validated p e)) no_cycle c

  starts_low : (m : ℕ) → m < length p.parts.nodes → Contains p.parts.root m → rank graph m < p.longest
  starts_low m h c =
      let most : suc (get_or (ranks graph) m 0) ≤ longest_from (ranks graph) p.parts.root = greatest_over (λ k. suc (get_or (ranks graph) k 0)) p.parts.root m c in
      let at : get_or (ranks graph) m 0 ≡ rank graph m = rank_at graph m (omega (arith, h, length-map p.parts.nodes (λ (n : Node). n.successors))) in
      omega (arith, most, at, longest_is)

  -- where a word picks no successor, the path may end
  may_end : (m word : ℕ) (n : Node) → slice_get p.parts.nodes m ≡ Some n → word < 2 ^ 32 → next_node p.parts m word ≡ None → MayEnd p.parts m
  may_end m word n is small none = by (some_or_none n.successors)
    where
      linked : Linked p n
      linked = node_linked p m n e is

      past : length n.successors ≤ picked (choices n) word
      past = past_end n.successors (picked (choices n) word) (next_is p m n word is ∙ none)

      by : (n.successors ≡ []) ⊎ (0 < length n.successors) → MayEnd p.parts m
      by (inl empty) = inl (made_at (λ (k : Node). k.successors) p.parts.nodes m n [] is ∙ empty)
      by (inr some) = inr (subst (λ (k : ℕ). 0 < k) (sym (made_at (λ (k : Node). k.stop) p.parts.nodes m n 0 is)) (stops n.successors n.successor_weights n.stop word linked.counted linked.weights small some past))

  step_in_range : (m word : ℕ) → m < length p.parts.nodes → word < 2 ^ 32 → IsInRange p.parts (step_at p.parts m word)
  step_in_range m word h small =
      let n = some_of p.parts.nodes m h in
      let w = node_weighty p m n.0 e n.1 in
      let at : weights_at p.parts m ≡ n.0.weights = made_at (λ (k : Node). k.weights) p.parts.nodes m n.0 [] n.1 in
      (h, subst (λ (ws : List ℕ). picked ws word < length ws) (sym at) (picked_in_range n.0.weights word small w.some w.weights))

  -- the properties of the steps after one at the node m, of at most n steps
  record Tail (n m : ℕ) (steps : List PathStep) : Type 0 where
    pub follows : FollowsSuccessors p.parts m steps
    pub ends : MayEnd p.parts (last_node m steps)
    pub in_range : All (IsInRange p.parts) steps
    pub few : length steps ≤ n

  tail_done : (n m : ℕ) → MayEnd p.parts m → Tail n m []
  tail_done n m ends = record { follows = tt; ends = ends; in_range = All-nil (IsInRange p.parts); few = omega arith }

  -- a step at k, a successor of m, and the steps after it
  tail_more : (n m k word : ℕ) (steps : List PathStep) → word < 2 ^ 32 → k < length p.parts.nodes → Contains (successors_at p.parts m) k → Tail n k steps → Tail (suc n) m (step_at p.parts k word ∷ steps)
  tail_more n m k word steps small h c t = record { follows = (c, t.follows); ends = t.ends; in_range = All-cons (IsInRange p.parts) (step_at p.parts k word) steps (step_in_range k word h small) t.in_range; few = omega (arith, t.few) }

  successor_inside : (m k : ℕ) → m < length p.parts.nodes → Contains (successors_at p.parts m) k → k < length p.parts.nodes
  successor_inside m k h c = subst (λ (count : ℕ). k < count) (length-map p.parts.nodes (λ (n : Node). n.successors)) (leads_to graph m k (known_graph p.parts (parts-is_validated p e)) c)

  -- the steps that the words draw after one at the node m
  tail : (g : ChaCha) (n place m word : ℕ) → m < length p.parts.nodes → rank graph m ≤ n → word < 2 ^ 32 → Tail n m (steps_from_node (λ k. path_from p.parts (word_in g) n place k) (next_node p.parts m word))
  tail g zero place m word h low small = by (next_node p.parts m word) refl
    where
      n : (x : Node) × (slice_get p.parts.nodes m ≡ Some x)
      n = some_of p.parts.nodes m h

      by : (o : Option ℕ) → next_node p.parts m word ≡ o → Tail zero m (steps_from_node (λ k. path_from p.parts (word_in g) zero place k) o)
      by None is = tail_done zero m (may_end m word n.0 n.1 small is)
      by (Some k) is = absurd (omega (arith, low, falls m k (contained (successors_at p.parts m) (picked (choices_at p.parts m) word) k is)))
  tail g (suc l) place m word h low small = by (λ k inside lower. tail g l (place + 2) k (word_in g (place + 1)) inside lower (word_small g (place + 1))) (next_node p.parts m word) refl
    where
      n : (x : Node) × (slice_get p.parts.nodes m ≡ Some x)
      n = some_of p.parts.nodes m h

      by : ((k : ℕ) → k < length p.parts.nodes → rank graph k ≤ l → Tail l k (steps_from_node (λ j. path_from p.parts (word_in g) l (place + 2) j) (next_node p.parts k (word_in g (place + 1)))))
          → (o : Option ℕ) → next_node p.parts m word ≡ o → Tail (suc l) m (steps_from_node (λ k. path_from p.parts (word_in g) (suc l) place k) o)
      by tail None is = tail_done (suc l) m (may_end m word n.0 n.1 small is)
      by tail (Some k) is =
          let c = contained (successors_at p.parts m) (picked (choices_at p.parts m) word) k is in
          let inside = successor_inside m k h c in
          tail_more l m k (word_in g place) _ (word_small g place) inside c (tail k inside (omega (arith, low, falls m k c)))

  -- the properties of a path
  pub record Drawn (steps : List PathStep) : Type 0 where
    pub starts : StartsAtRoot p.parts steps
    pub follows : FollowsArcs p.parts steps
    pub ends : EndsRight p.parts steps
    pub in_range : All (IsInRange p.parts) steps
    pub few : length steps ≤ p.longest

  drawn_from : (g : ChaCha) (longest m : ℕ) → longest ≡ p.longest → Contains p.parts.root m → m < length p.parts.nodes → rank graph m < longest → Drawn (path_from p.parts (word_in g) longest 1 m)
  drawn_from g zero m is c h low = absurd (omega arith)
  drawn_from g (suc n) m is c h low =
      let t = tail g n 3 m (word_in g 2) h (omega arith) (word_small g 2) in
      record { starts = c; follows = t.follows; ends = t.ends; in_range = All-cons (IsInRange p.parts) _ _ (step_in_range m (word_in g 1) h (word_small g 1)) t.in_range; few = omega (arith, t.few, is) }

  pub drawn : (seed stream : ℕ) → Drawn (path p seed stream)
  unfolding path
  drawn seed stream = by (some_of p.parts.root (picked p.parts.root_weights (word_in g 0)) place)
    where
      g : ChaCha
      g = stream_of seed stream

      place : picked p.parts.root_weights (word_in g 0) < length p.parts.root
      place = let w = root_weighty p e in omega (arith, root_counted p e, picked_in_range p.parts.root_weights (word_in g 0) (word_small g 0) w.some w.weights)

      by : (m : ℕ) × (first_node p.parts (word_in g 0) ≡ Some m) → Drawn (steps_from_node (λ m. path_from p.parts (word_in g) p.longest 1 m) (first_node p.parts (word_in g 0)))
      by (m, is) =
          let c = contained p.parts.root (picked p.parts.root_weights (word_in g 0)) m is in
          let h = root_inside p (picked p.parts.root_weights (word_in g 0)) m e is in
          subst (λ (o : Option ℕ). Drawn (steps_from_node (λ m. path_from p.parts (word_in g) p.longest 1 m) o)) (sym is) (drawn_from g p.longest m refl c h (starts_low m h c))
