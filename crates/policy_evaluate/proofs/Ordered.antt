-- The order of a validated problem: each node comes after its successors, and ranks fall along arcs.
use Rattle.std.proofs.Common.{◌≡◌, ℕ, zero, suc, ◌<◌, ◌≤◌, true, nat_lt, List, [], ◌∷◌, length, get_or, take, Contains, ◌⊎◌, inl, inr, sym, subst, arith}
use Rattle.std.proofs.Math.Logic.{⊎_elim}
use Rattle.std.proofs.lemmas.Bool.{ltb-true}
use Rattle.std.proofs.lemmas.Bool.Decides.{nat_tests}
use Rattle.std.proofs.lemmas.Grind.{common_steps}
use Rattle.std.proofs.lemmas.List.{length-map}
use Rattle.base_num.proofs.Tests.{all_at}
use Rattle.base_graph.specs.Paths.{arcs_from}
use Rattle.base_graph.specs.Ranks.{longest_from, rank, ranks}
use Rattle.base_graph.proofs.AllRanked.{greatest_over}
use Rattle.base_graph.proofs.Falling.{rank_falls}
use Rattle.base_graph.proofs.Paths.{one_of, leads_to}
use Rattle.base_graph.proofs.Placing.{After, after, behind, rank_at}
use Rattle.problem.specs.declared.parts.Node as nodes
use Rattle.problem.specs.Parts.{successors_at}
use Rattle.problem.specs.Validated.{Validated, is_validated, graph_fits, graph_of}
use Rattle.problem.proofs.ValidatedFacts.{parts-is_validated, graph-is_validated, known_graph}
use Rattle.plan_draw.proofs.Draws.{root_known}
use Rattle.theory.proofs.ValidatedOrder.{no_cycle-validated, order-validated}

-- each node of an order comes after those that it leads to
before : (g : List (List ℕ)) (done ms : List ℕ) (i k : ℕ) → After g done ms → i < length ms → Contains (arcs_from g (get_or ms i 0)) k → Contains (take i ms) k ⊎ Contains done k
before g done [] i k a h c = absurd (omega (arith, h))
before g done (m ∷ ms) zero k a h c = inr (a.2 k c)
before g done (m ∷ ms) (suc i) k a h c = by (before g (m ∷ done) ms i k a.3 (omega (arith, h)) c)
  where
    first : m ≡ k → Contains (m ∷ take i ms) k
    first e = (0, omega arith, e)

    by : Contains (take i ms) k ⊎ Contains (m ∷ done) k → Contains (m ∷ take i ms) k ⊎ Contains done k
    by (inl b) = inl (behind m (take i ms) k b)
    by (inr b) = ⊎_elim (λ e. inl (first e)) (λ d. inr d) (one_of m done k b)

there : (g : List (List ℕ)) (done ms : List ℕ) (i : ℕ) → After g done ms → i < length ms → get_or ms i 0 < length g
there g done [] i a h = absurd (omega (arith, h))
there g done (m ∷ ms) zero a h = a.0
there g done (m ∷ ms) (suc i) a h = there g (m ∷ done) ms i a.3 (omega (arith, h))

module _ (p : Validated) (e : is_validated p ≡ true) where
  graph_count : length (graph_of p.parts) ≡ length p.parts.nodes
  graph_count = length-map p.parts.nodes (λ (n : nodes.Node). n.successors)

  in_graph : After (graph_of p.parts) [] p.order
  in_graph = subst (λ (ks : List ℕ). After (graph_of p.parts) [] ks) (sym (order-validated p e)) (after (graph_of p.parts) (known_graph p.parts (parts-is_validated p e)) (no_cycle-validated p e))

  -- ranks fall along arcs
  pub falls : (m k : ℕ) → Contains (successors_at p.parts m) k → rank (graph_of p.parts) k < rank (graph_of p.parts) m
  falls m k c = rank_falls (graph_of p.parts) m k (known_graph p.parts (parts-is_validated p e)) (no_cycle-validated p e) c

  pub led_there : (m k : ℕ) → Contains (successors_at p.parts m) k → k < length p.parts.nodes
  led_there m k c = omega (arith, leads_to (graph_of p.parts) m k (known_graph p.parts (parts-is_validated p e)) c, graph_count)

  -- along the order of the problem
  module _ (ms : List ℕ) (is : ms ≡ p.order) where
    in_order : After (graph_of p.parts) [] ms
    in_order = subst (λ (ks : List ℕ). After (graph_of p.parts) [] ks) (sym is) in_graph

    pub ordered_there : (i : ℕ) → i < length ms → get_or ms i 0 < length p.parts.nodes
    ordered_there i h = omega (arith, there (graph_of p.parts) [] ms i in_order h, graph_count)

    pub led_before : (i k : ℕ) → i < length ms → Contains (successors_at p.parts (get_or ms i 0)) k → Contains (take i ms) k
    led_before i k h c = ⊎_elim (λ b. b) (λ d. absurd (omega (arith, d.1))) (before (graph_of p.parts) [] ms i k in_order h c)

  -- no path from the root is cut off at the longest
  longest_is : p.longest ≡ longest_from (ranks (graph_of p.parts)) p.parts.root
  unfolding graph_fits
  longest_is = let g : graph_fits p.parts p.order p.longest ≡ true = graph-is_validated p e in grind (arith, nat_tests, common_steps, g)

  pub root_there : (m : ℕ) → Contains p.parts.root m → m < length p.parts.nodes
  root_there m c = ltb-true m (length p.parts.nodes) (subst (λ (k : ℕ). nat_lt k (length p.parts.nodes) ≡ true) c.2 (all_at (λ k. nat_lt k (length p.parts.nodes)) p.parts.root c.0 m (root_known p e) c.1))

  pub root_low : (m : ℕ) → Contains p.parts.root m → rank (graph_of p.parts) m < p.longest
  root_low m c =
      let most : suc (get_or (ranks (graph_of p.parts)) m 0) ≤ longest_from (ranks (graph_of p.parts)) p.parts.root = greatest_over (λ k. suc (get_or (ranks (graph_of p.parts)) k 0)) p.parts.root m c in
      let at : get_or (ranks (graph_of p.parts)) m 0 ≡ rank (graph_of p.parts) m = rank_at (graph_of p.parts) m (omega (arith, root_there m c, graph_count)) in
      omega (arith, most, at, longest_is)
