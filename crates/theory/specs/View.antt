-- The definitions' view of a validated problem.
use Rattle.std.specs.Prelude.{ℕ, ℤ, List, [], map, zip, get_or, slice_get, Option, option_and_then, unwrap_or}
use Rattle.std.specs.Option.{option_map}
use Rattle.problem.specs.declared.parts.State.{State}
use Rattle.problem.specs.declared.parts.Decision.{Decision}
use Rattle.problem.specs.declared.parts.Subproblem.{Subproblem}
use Rattle.problem.specs.declared.parts.Node as nodes
use Rattle.problem.specs.Validated.{Validated}
use Rattle.theory.specs.Problem.{Realization, Successor, Node, Problem, no_node}

-- the realizations with these weights and values, and the successors with these numbers and weights
abbrev pub realizations_of : List ℕ → List (List ℤ) → List Realization
realizations_of weights values = map (λ (q : ℕ × List ℤ). record { weight = q.0; values = q.1 }) (zip weights values)

abbrev pub successors_of : List ℕ → List ℕ → List Successor
successors_of ms weights = map (λ (q : ℕ × ℕ). record { node = q.0; weight = q.1 }) (zip ms weights)

-- a node with its subproblem, and the box of its incoming state
unfoldable pub node_of : nodes.Node → Subproblem → List ℤ → List ℤ → Node
node_of n s low high = record {
  decision_low = map (λ (d : Decision). d.low) s.decisions;
  decision_high = map (λ (d : Decision). d.high) s.decisions;
  costs = map (λ (d : Decision). d.cost) s.decisions;
  outs = s.outs;
  rows = s.rows;
  constant = s.constant;
  state_costs = s.state_costs;
  random_costs = s.random_costs;
  low = low;
  high = high;
  realizations = realizations_of n.weights n.values;
  successors = successors_of n.successors n.successor_weights;
  stop = n.stop;
}

-- the node m of a validated problem, where it is there
abbrev pub node_in : Validated → ℕ → Option Node
node_in s m = option_and_then (λ (n : nodes.Node). option_map (λ (sub : Subproblem). node_of n sub (get_or s.lo m []) (get_or s.hi m [])) (slice_get s.parts.subs n.sub)) (slice_get s.parts.nodes m)

unfoldable pub problem_of : Validated → Problem
problem_of s = record {
  nodes = λ m. unwrap_or (node_in s m) no_node;
  root = successors_of s.parts.root s.parts.root_weights;
  initial = map (λ (state : State). state.initial) s.parts.states;
}
