-- Greatest numbers and stage sizes that stop at a cap.
use Rattle.std.proofs.Common.{◌≡◌, ◌∙◌, ℕ, ◌+◌, ◌<◌, ◌≤◌, max, min, ℤ, nat_abs, true, List, [], ◌∷◌, length, get_or, drop, map, refl, sym, ap, arith}
use Rattle.std.specs.List.{list_all}
use Rattle.std.proofs.lemmas.Bool.Decides.{nat_tests}
use Rattle.std.proofs.lemmas.List.{drop_all}
use Rattle.base_num.proofs.Tests.{all_at}
use Rattle.base_graph.specs.Ranks.{greatest}
use Rattle.problem.specs.declared.parts.Node as nodes
use Rattle.problem.specs.declared.parts.Subproblem.{Subproblem}
use Rattle.problem.specs.Limits.{are_numbers, costs_fit, realizations_fit}
use Rattle.problem.specs.Validated.{Validated}
use Rattle.problem.proofs.SubproblemFacts.{costs-subproblem_fits}
use Rattle.theory.specs.Problem.{Realization, node_at}
use Rattle.theory.specs.View.{node_of, realizations_of, problem_of}
use Rattle.theory.proofs.ValidatedParts.{PartsFit, counted, numbers_counted}
use Rattle.policy_evaluate.specs.TooBig.{node_size, reaches, sizes, stage_cost_size}
use Rattle.policy_evaluate.proofs.Seen.{Seen}

-- the greatest of numbers, of which those from i on are still to come
abbrev pub MostGoes : {A : Type 0} → (A → ℕ) → List A → ℕ → ℕ → ℕ → Type 0
MostGoes g xs cap i most = max most (min (greatest (map g (drop i xs))) cap) ≡ min (greatest (map g xs)) cap

pub most_goes : {A : Type 0} (g : A → ℕ) (xs : List A) (x : A) (cap i most next : ℕ) → drop i xs ≡ x ∷ drop (i + 1) xs → MostGoes g xs cap i most → next ≡ max most (min (g x) cap) → MostGoes g xs cap (i + 1) next
most_goes {A} g xs x cap i most next e goes is =
    let front : greatest (map g (drop i xs)) ≡ max (g x) (greatest (map g (drop (i + 1) xs))) = ap (λ (ys : List A). greatest (map g ys)) e in
    omega (arith, front, goes, is)

pub most_done : {A : Type 0} (g : A → ℕ) (xs : List A) (cap i most : ℕ) → length xs ≤ i → MostGoes g xs cap i most → most ≡ min (greatest (map g xs)) cap
most_done {A} g xs cap i most h goes =
    let none : greatest (map g (drop i xs)) ≡ 0 = ap (λ (ys : List A). greatest (map g ys)) (drop_all i xs h) in
    omega (arith, none, goes)

-- a sum of four, each stopped
pub four_stop : (k a b d cap : ℕ) → min (min (min (k + min a cap) cap + min b cap) cap + min d cap) cap ≡ min (k + a + b + d) cap
four_stop k a b d cap = omega arith

pub stage_cost_size-node_of : (n : nodes.Node) (s : Subproblem) (low high values : List ℤ) (cap v : ℕ)
    → v ≡ min (min (min (nat_abs s.constant + min (sizes s.random_costs values) cap) cap + min (reaches (node_of n s low high).costs (node_of n s low high).decision_low (node_of n s low high).decision_high) cap) cap + min (reaches s.state_costs low high) cap) cap
    → v ≡ min (stage_cost_size (node_of n s low high) values) cap
unfolding node_of
stage_cost_size-node_of n s low high values cap v e = e ∙ four_stop (nat_abs s.constant) (sizes s.random_costs values) _ (reaches s.state_costs low high) cap

-- the lists of a node's parts are as long as its costs
module _ (p : Validated) (m : ℕ) (n : nodes.Node) (s : Subproblem) (low high : List ℤ) (q : PartsFit p m n s low high) where
  random_costs : length s.random_costs ≡ length s.randoms
  random_costs = let costs : costs_fit (length p.parts.states) s ≡ true = costs-subproblem_fits (length p.parts.states) s q.subproblem in grind (arith, nat_tests, costs)

  pub values_counted : (i : ℕ) → i < length n.values → length (get_or n.values i []) ≡ length s.random_costs
  values_counted i h =
      let fits : realizations_fit (length s.randoms) n ≡ true = q.realizations in
      let all : list_all (are_numbers (length s.randoms)) n.values ≡ true = grind (arith, nat_tests, fits) in
      numbers_counted (get_or n.values i []) (length s.randoms) (all_at (are_numbers (length s.randoms)) n.values i [] all h) ∙ sym random_costs

  pub lows_counted : length low ≡ length s.state_costs
  lows_counted = numbers_counted low (length p.parts.states) q.lows ∙ sym (counted s (length p.parts.states) q.subproblem).0

  pub highs_counted : length high ≡ length s.state_costs
  highs_counted = numbers_counted high (length p.parts.states) q.highs ∙ sym (counted s (length p.parts.states) q.subproblem).0

-- over the values of realizations
map_values : (g : List ℤ → ℕ) (ws : List ℕ) (vs : List (List ℤ)) → length vs ≡ length ws → map (λ (r : Realization). g r.values) (realizations_of ws vs) ≡ map g vs
map_values g [] [] e = refl
map_values g [] (v ∷ vs) e = absurd (omega (arith, e))
map_values g (w ∷ ws) [] e = absurd (omega (arith, e))
map_values g (w ∷ ws) (v ∷ vs) e = ap (λ (ks : List ℕ). g v ∷ ks) (map_values g ws vs (omega (arith, e)))

pub node_size-values : (p : Validated) (m : ℕ) (n : nodes.Node) → Seen p m n → greatest (map (stage_cost_size (node_at (problem_of p) m)) n.values) ≡ node_size (problem_of p) m
node_size-values p m n s =
    let g : List ℤ → ℕ = stage_cost_size (node_at (problem_of p) m) in
    ap (λ (ks : List ℕ). greatest ks) (sym (ap (λ (rs : List Realization). map (λ (r : Realization). g r.values) rs) s.realizations ∙ map_values g n.weights n.values s.valued))
