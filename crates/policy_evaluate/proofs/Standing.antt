-- The branches and the denominator of a node, by those of its successors in a table.
use Rattle.std.proofs.Common.{◌≡◌, ◌∙◌, ℕ, zero, suc, ◌+◌, ◌*◌, ◌<◌, min, true, List, [], ◌∷◌, length, get_or, map, sum, Contains, Some, slice_get, refl, sym, ap, ap₂, subst, arith}
use Rattle.base_graph.specs.Ranks.{rank}
use Rattle.problem.specs.declared.parts.Node as nodes
use Rattle.problem.specs.Formulas.{successor_total, total_weight}
use Rattle.problem.specs.Parts.{successors_at}
use Rattle.problem.specs.Validated.{Validated, is_validated, graph_of}
use Rattle.plan_draw.proofs.Draws.{root_counted}
use Rattle.theory.specs.Problem.{Realization, Successor, node_at, successor_weights}
use Rattle.theory.specs.View.{successors_of, problem_of}
use Rattle.theory.proofs.Views.{root-problem_of}
use Rattle.policy_evaluate.specs.Multiples.{lcm_all}
use Rattle.policy_evaluate.specs.Tables.{IsNodeTable, StandsForNode}
use Rattle.policy_evaluate.specs.TooBig.{branch_count, branches, denominator, root_denominator}
use Rattle.policy_evaluate.proofs.Ordered.{falls, led_there, root_low, root_there}
use Rattle.policy_evaluate.proofs.Positive.{denominator_some}
use Rattle.policy_evaluate.proofs.Rooted.{roots_total}
use Rattle.policy_evaluate.proofs.Seen.{Seen, length-realizations_of, successors_there, realization_total, seen, successor_sum}
use Rattle.policy_evaluate.proofs.Stopping.{multiples_stop, product_stops, sum_stops, summand_stops}

-- over the numbers of arcs
pub map_successors : (f : ℕ → ℕ) (ms ws : List ℕ) → length ws ≡ length ms → map (λ (l : Successor). f l.node) (successors_of ms ws) ≡ map f ms
map_successors f [] ws e = refl
map_successors f (m ∷ ms) [] e = absurd (omega (arith, e))
map_successors f (m ∷ ms) (w ∷ ws) e = ap (λ (ks : List ℕ). f m ∷ ks) (map_successors f ms ws (omega (arith, e)))

branches_stop : (r x y cap v : ℕ) → min y cap ≡ min x cap → v ≡ min (r * min (1 + min y cap) cap) cap → v ≡ min (r * (1 + x)) cap
branches_stop r x y cap v e is = is ∙ ap (λ (k : ℕ). min (r * k) cap) (ap (λ (k : ℕ). min (1 + k) cap) e ∙ summand_stops 1 x cap) ∙ product_stops r (1 + x) cap

weights_stop : (w q x y cap v : ℕ) → min y cap ≡ min x cap → v ≡ min (w * min (q * min y cap) cap) cap → v ≡ min (w * (q * x)) cap
weights_stop w q x y cap v e is = is ∙ ap (λ (k : ℕ). min (w * k) cap) (ap (λ (k : ℕ). min (q * k) cap) e ∙ product_stops q x cap) ∙ product_stops w (q * x) cap

module _ (p : Validated) (e : is_validated p ≡ true) (cap : ℕ) (table : List ℕ) where
  abbrev at : ℕ → ℕ
  at m = get_or table m 0

  module _ (m : ℕ) (h : m < length p.parts.nodes) (n : nodes.Node) (is : slice_get p.parts.nodes m ≡ Some n) where
    own : Seen p m n
    own = seen p m n e h is

    linked : (k : ℕ) → Contains n.successors k → Contains (successors_at p.parts m) k
    linked k c = subst (λ (ks : List ℕ). Contains ks k) (sym (successors_there p m n is)) c

    successors_are : (f : ℕ → ℕ) → map (λ (l : Successor). f l.node) (node_at (problem_of p) m).successors ≡ map f n.successors
    successors_are f = ap (λ (ls : List Successor). map (λ (l : Successor). f l.node) ls) own.successors ∙ map_successors f n.successors n.successor_weights own.counted

    realizations_are : length (node_at (problem_of p) m).realizations ≡ length n.weights
    realizations_are = ap (λ (rs : List Realization). length rs) own.realizations ∙ length-realizations_of n.weights n.values own.valued

    pub branches_stand : ((k : ℕ) → Contains (successors_at p.parts m) k → StandsForNode p (branches (problem_of p)) cap k (at k)) → (v : ℕ)
        → v ≡ min (length n.weights * min (1 + min (sum (map at n.successors)) cap) cap) cap → StandsForNode p (branches (problem_of p)) cap m v
    branches_stand behind v value = by
      where
        by : (d : ℕ) → rank (graph_of p.parts) m < d → v ≡ min (branches (problem_of p) d m) cap
        by zero l = absurd (omega (arith, l))
        by (suc d) l =
            let f : ℕ → ℕ = branches (problem_of p) d in
            let sums : min (sum (map at n.successors)) cap ≡ min (sum (map f n.successors)) cap = sum_stops at f cap n.successors (λ k c. behind k (linked k c) d (omega (arith, l, falls p e m k (linked k c)))) in
            branches_stop (length n.weights) (sum (map f n.successors)) (sum (map at n.successors)) cap v sums value
            ∙ ap₂ (λ (r : ℕ) (ks : List ℕ). min (r * (1 + sum ks)) cap) (sym realizations_are) (sym (successors_are f))

    pub denominators_stand : 0 < cap → ((k : ℕ) → Contains (successors_at p.parts m) k → StandsForNode p (denominator (problem_of p)) cap k (at k)) → (v : ℕ)
        → v ≡ min (total_weight n.weights * min (successor_total n.stop n.successor_weights * min (lcm_all 1 (map at n.successors)) cap) cap) cap → StandsForNode p (denominator (problem_of p)) cap m v
    denominators_stand some behind v value = by
      where
        by : (d : ℕ) → rank (graph_of p.parts) m < d → v ≡ min (denominator (problem_of p) d m) cap
        by zero l = absurd (omega (arith, l))
        by (suc d) l =
            let f : ℕ → ℕ = denominator (problem_of p) d in
            let multiples : min (lcm_all 1 (map at n.successors)) cap ≡ min (lcm_all 1 (map f n.successors)) cap =
            multiples_stop at f 1 cap n.successors (omega arith) some (λ k c. (behind k (linked k c) d (omega (arith, l, falls p e m k (linked k c))), denominator_some p e d k (led_there p e m k (linked k c)))) in
            weights_stop (total_weight n.weights) (successor_total n.stop n.successor_weights) (lcm_all 1 (map f n.successors)) (lcm_all 1 (map at n.successors)) cap v multiples value
            ∙ ap₂ (λ (w : ℕ) (k : ℕ). min (w * k) cap) (realization_total p m n own) (ap₂ (λ (q : ℕ) (ks : List ℕ). q * lcm_all 1 ks) (successor_sum p m n own) (sym (successors_are f)))

  -- the number that stands for a denominator is positive
  pub stands_some : (k v : ℕ) → 0 < cap → k < length p.parts.nodes → StandsForNode p (denominator (problem_of p)) cap k v → 0 < v
  stands_some k v some h s =
      let d : ℕ = suc (rank (graph_of p.parts) k) in
      omega (arith, s d (omega arith), denominator_some p e d k h, some)

  -- over the root's successors
  roots_are : (f : ℕ → ℕ) → map (λ (l : Successor). f l.node) (problem_of p).root ≡ map f p.parts.root
  roots_are f = ap (λ (ls : List Successor). map (λ (l : Successor). f l.node) ls) (root-problem_of p) ∙ map_successors f p.parts.root p.parts.root_weights (root_counted p e)

  root_weight : total_weight p.parts.root_weights ≡ sum (successor_weights (problem_of p).root)
  root_weight = roots_total p e ∙ ap (λ (ls : List Successor). sum (successor_weights ls)) (sym (root-problem_of p))

  pub branch_count_is : IsNodeTable p (branches (problem_of p)) cap table → min (sum (map at p.parts.root)) cap ≡ min (branch_count p) cap
  unfolding branch_count
  branch_count_is t =
      sum_stops at (branches (problem_of p) p.longest) cap p.parts.root (λ k c. t.each k (root_there p e k c) p.longest (root_low p e k c))
      ∙ ap (λ (ks : List ℕ). min (sum ks) cap) (sym (roots_are (branches (problem_of p) p.longest)))

  pub root_denominator_is : 0 < cap → IsNodeTable p (denominator (problem_of p)) cap table → min (total_weight p.parts.root_weights * min (lcm_all 1 (map at p.parts.root)) cap) cap ≡ min (root_denominator p) cap
  unfolding root_denominator
  root_denominator_is some t =
      let f : ℕ → ℕ = denominator (problem_of p) p.longest in
      let multiples : min (lcm_all 1 (map at p.parts.root)) cap ≡ min (lcm_all 1 (map f p.parts.root)) cap =
      multiples_stop at f 1 cap p.parts.root (omega arith) some (λ k c. (t.each k (root_there p e k c) p.longest (root_low p e k c), denominator_some p e p.longest k (root_there p e k c))) in
      ap (λ (k : ℕ). min (total_weight p.parts.root_weights * k) cap) multiples
      ∙ product_stops (total_weight p.parts.root_weights) (lcm_all 1 (map f p.parts.root)) cap
      ∙ ap₂ (λ (w : ℕ) (ks : List ℕ). min (w * lcm_all 1 ks) cap) root_weight (sym (roots_are f))
