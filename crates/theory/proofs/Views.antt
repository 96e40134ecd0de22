-- The definitions' view of a validated problem, field by field.
use Rattle.std.proofs.Common.{◌≡◌, ℕ, zero, suc, ◌+◌, ◌<◌, ℤ, All, subst, List, [], ◌∷◌, length, map, get_or, sum, Some, None, refl, ap, sym, ◌∙◌, arith}
use Rattle.std.proofs.lemmas.List.Sums.{sum_by-cons}
use Rattle.std.specs.Prelude.{slice_get}
use Rattle.problem.specs.Validated.{Validated}
use Rattle.theory.specs.Problem.{Successor, no_node, node_at, weight_of_realizations, successor_weights}
use Rattle.theory.specs.View.{realizations_of, successors_of, node_of, problem_of}
use Rattle.problem.specs.declared.parts.Decision.{Decision}
use Rattle.problem.specs.declared.parts.Subproblem.{Subproblem}
use Rattle.problem.specs.declared.parts.State.{State}
use Rattle.problem.specs.declared.parts.Node as nodes

-- the node m, where it and its subproblem are there
pub node_at-problem_of : (s : Validated) (m : ℕ) (n : nodes.Node) (sub : Subproblem) → slice_get s.parts.nodes m ≡ Some n → slice_get s.parts.subs n.sub ≡ Some sub → node_at (problem_of s) m ≡ node_of n sub (get_or s.lo m []) (get_or s.hi m [])
unfolding problem_of
node_at-problem_of s m n sub e f = rw (e, f) refl

-- a node that is not there
pub node_at-past : (s : Validated) (m : ℕ) → slice_get s.parts.nodes m ≡ None → node_at (problem_of s) m ≡ no_node
unfolding problem_of
node_at-past s m e = rw e refl

pub root-problem_of : (s : Validated) → (problem_of s).root ≡ successors_of s.parts.root s.parts.root_weights
unfolding problem_of
root-problem_of s = refl

pub initial-problem_of : (s : Validated) → (problem_of s).initial ≡ map (λ (state : State). state.initial) s.parts.states
unfolding problem_of
initial-problem_of s = refl

-- their weights
pub weight-realizations_of : (ws : List ℕ) (vs : List (List ℤ)) → length ws ≡ length vs → weight_of_realizations (realizations_of ws vs) ≡ sum ws
weight-realizations_of [] vs e = refl
weight-realizations_of (w ∷ ws) [] e = absurd (omega arith)
weight-realizations_of (w ∷ ws) (v ∷ vs) e = ap (λ k. w + k) (weight-realizations_of ws vs (omega arith)) ∙ sym (sum_by-cons (λ k. k) w ws)

pub successor_weights-successors_of : (ms ws : List ℕ) → length ms ≡ length ws → successor_weights (successors_of ms ws) ≡ ws
successor_weights-successors_of [] [] e = refl
successor_weights-successors_of [] (w ∷ ws) e = absurd (omega arith)
successor_weights-successors_of (m ∷ ms) [] e = absurd (omega arith)
successor_weights-successors_of (m ∷ ms) (w ∷ ws) e = ap (λ (k : List ℕ). w ∷ k) (successor_weights-successors_of ms ws (omega arith))

-- the arcs of two lists, one by one
pub successor_at : (ms ws : List ℕ) (i : ℕ) (d : Successor) → length ws ≡ length ms → i < length ms → get_or (successors_of ms ws) i d ≡ record { node = get_or ms i 0; weight = get_or ws i 0 }
successor_at [] ws i d e h = absurd (omega arith)
successor_at (m ∷ ms) [] i d e h = absurd (omega arith)
successor_at (m ∷ ms) (w ∷ ws) zero d e h = refl
successor_at (m ∷ ms) (w ∷ ws) (suc i) d e h = successor_at ms ws i d (omega arith) (omega arith)

pub length-successors_of : (ms ws : List ℕ) → length ws ≡ length ms → length (successors_of ms ws) ≡ length ms
length-successors_of [] ws e = refl
length-successors_of (m ∷ ms) [] e = absurd (omega arith)
length-successors_of (m ∷ ms) (w ∷ ws) e = ap suc (length-successors_of ms ws (omega arith))

pub All-successors_of : (P : Successor → Type 0) (ms ws : List ℕ) → length ws ≡ length ms → ((i : ℕ) → i < length ms → P (record { node = get_or ms i 0; weight = get_or ws i 0 })) → All P (successors_of ms ws)
All-successors_of P ms ws e h = λ i d l.
    let inside : i < length ms = omega (arith, l, length-successors_of ms ws e) in
    subst P (sym (successor_at ms ws i d e inside)) (h i inside)

module _ (n : nodes.Node) (s : Subproblem) (low high : List ℤ) where
  pub decision_low-node_of : (node_of n s low high).decision_low ≡ map (λ (d : Decision). d.low) s.decisions
  unfolding node_of
  decision_low-node_of = refl

  pub decision_high-node_of : (node_of n s low high).decision_high ≡ map (λ (d : Decision). d.high) s.decisions
  unfolding node_of
  decision_high-node_of = refl

  pub costs-node_of : (node_of n s low high).costs ≡ map (λ (d : Decision). d.cost) s.decisions
  unfolding node_of
  costs-node_of = refl

  pub outs-node_of : (node_of n s low high).outs ≡ s.outs
  unfolding node_of
  outs-node_of = refl

  pub rows-node_of : (node_of n s low high).rows ≡ s.rows
  unfolding node_of
  rows-node_of = refl

  pub constant-node_of : (node_of n s low high).constant ≡ s.constant
  unfolding node_of
  constant-node_of = refl

  pub state_costs-node_of : (node_of n s low high).state_costs ≡ s.state_costs
  unfolding node_of
  state_costs-node_of = refl

  pub random_costs-node_of : (node_of n s low high).random_costs ≡ s.random_costs
  unfolding node_of
  random_costs-node_of = refl

  pub low-node_of : (node_of n s low high).low ≡ low
  unfolding node_of
  low-node_of = refl

  pub high-node_of : (node_of n s low high).high ≡ high
  unfolding node_of
  high-node_of = refl

  pub realizations-node_of : (node_of n s low high).realizations ≡ realizations_of n.weights n.values
  unfolding node_of
  realizations-node_of = refl

  pub successors-node_of : (node_of n s low high).successors ≡ successors_of n.successors n.successor_weights
  unfolding node_of
  successors-node_of = refl

  pub stop-node_of : (node_of n s low high).stop ≡ n.stop
  unfolding node_of
  stop-node_of = refl
