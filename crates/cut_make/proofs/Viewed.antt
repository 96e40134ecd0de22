-- The definitions over a node are those over the program's parts of it.
use Rattle.std.proofs.Common.{◌≡◌, ℕ, ℤ, pos, ◌+ℤ◌, ◌-ℤ◌, ◌*ℤ◌, List, [], ◌∷◌, length, map, zip, arith, refl, ap, ap₂, ◌∙◌}
use Rattle.std.proofs.lemmas.List.{length-map}
use Rattle.std.specs.Int.{int_min}
use Rattle.base_num.specs.Sums.{sum_to, total, entry, dot, at_terms, coefficient, placed}
use Rattle.base_num.proofs.Sums.{sum_ext}
use Rattle.problem.specs.declared.parts.Node as nodes
use Rattle.problem.specs.declared.parts.Decision.{Decision}
use Rattle.problem.specs.declared.parts.Row.{Row}
use Rattle.problem.specs.declared.parts.Subproblem.{Subproblem}
use Rattle.theory.specs.declared.cut.Cut.{Cut}
use Rattle.theory.specs.declared.cut.Certificate.{Certificate}
use Rattle.theory.specs.Problem.{S, Successor}
use Rattle.theory.specs.View.{successors_of, node_of}
use Rattle.theory.specs.CutOf.{scale, side, reduced_cost, alpha_at}
use Rattle.theory.specs.Pools.{pool}
use Rattle.cut_make.specs.Parts.{lows, highs, over_pool, reduced_at, least_at, constant_at_scale}

total-successors_of : {B : Type 0} (f : ℕ × B → ℤ) (ms ws : List ℕ) (cs : List B) → length ws ≡ length ms → total (λ (q : Successor × B). f (q.0.node, q.1)) (zip (successors_of ms ws) cs) ≡ total f (zip ms cs)
total-successors_of f [] ws cs e = refl
total-successors_of f (m ∷ ms) [] cs e = absurd (omega arith)
total-successors_of f (m ∷ ms) (w ∷ ws) [] e = refl
total-successors_of f (m ∷ ms) (w ∷ ws) (c ∷ cs) e = ap (λ (k : ℤ). f (m, c) +ℤ k) (total-successors_of f ms ws cs (omega arith))

module _ (n : nodes.Node) (s : Subproblem) (low high : List ℤ) (pools : List (List Cut)) (c : Certificate) (e : length n.successor_weights ≡ length n.successors) where
  pub reduced-node_of : (j : ℕ) → reduced_cost pools (node_of n s low high) c j ≡ reduced_at (scale (node_of n s low high)) pools n s c j
  unfolding node_of
  reduced-node_of j =
      ap (λ (z : ℤ). scale (node_of n s low high) *ℤ entry (map (λ (d : Decision). d.cost) s.decisions) j -ℤ pos S *ℤ total (λ (q : Row × ℤ). q.1 *ℤ coefficient q.0.decisions j) (zip s.rows c.rows) +ℤ z)
      (total-successors_of (λ (q : ℕ × List (ℕ × ℕ)). over_pool (pool pools q.0) (λ (cut : Cut). coefficient (placed s.outs cut.beta) j) q.1) n.successors n.successor_weights c.cuts e)

  least-node_of : sum_to (length (node_of n s low high).costs) (λ j. int_min (reduced_cost pools (node_of n s low high) c j *ℤ entry (lows s) j) (reduced_cost pools (node_of n s low high) c j *ℤ entry (highs s) j)) ≡ least_at (scale (node_of n s low high)) pools n s c
  unfolding node_of
  least-node_of =
      let k : ℤ = scale (node_of n s low high) in
      sum_ext (length (map (λ (d : Decision). d.cost) s.decisions)) _ (λ j. int_min (reduced_at k pools n s c j *ℤ entry (lows s) j) (reduced_at k pools n s c j *ℤ entry (highs s) j)) (λ j h. ap (λ (d : ℤ). int_min (d *ℤ entry (lows s) j) (d *ℤ entry (highs s) j)) (reduced-node_of j))
      ∙ ap (λ (m : ℕ). sum_to m (λ j. int_min (reduced_at k pools n s c j *ℤ entry (lows s) j) (reduced_at k pools n s c j *ℤ entry (highs s) j))) (length-map s.decisions (λ (d : Decision). d.cost))

  pub alpha-node_of : (values : List ℤ) → alpha_at pools (node_of n s low high) values c ≡ constant_at_scale (scale (node_of n s low high)) pools n s values c
  unfolding node_of
  alpha-node_of values =
      let k : ℤ = scale (node_of n s low high) in
      let start : ℤ = k *ℤ (s.constant +ℤ dot s.random_costs values) +ℤ pos S *ℤ total (λ (q : Row × ℤ). q.1 *ℤ (side q.0 q.1 -ℤ at_terms q.0.randoms (entry values))) (zip s.rows c.rows) in
      ap₂ (λ (a b : ℤ). start +ℤ a +ℤ b) (total-successors_of (λ (q : ℕ × List (ℕ × ℕ)). over_pool (pool pools q.0) (λ (cut : Cut). cut.alpha) q.1) n.successors n.successor_weights c.cuts e) least-node_of
