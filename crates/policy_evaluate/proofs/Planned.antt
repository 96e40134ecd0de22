-- Facts about a planner's own problem, from the one that it lends.
use Rattle.std.proofs.Common.{◌≡◌, ℕ, ℤ, List, true, Some, IfSome, slice_get, ap, subst, ◌∙◌}
use Rattle.problem.specs.declared.parts.Node as nodes
use Rattle.problem.specs.declared.parts.ProblemParts.{ProblemParts}
use Rattle.problem.specs.Formulas.{successor_total}
use Rattle.problem.specs.Validated.{Validated, is_validated}
use Rattle.theory.specs.Problem.{S, node_at}
use Rattle.theory.specs.Tree.{times_all}
use Rattle.theory.specs.View.{problem_of}
use Rattle.plan_forward.specs.Costing.{stage_cost_of}

pub validated_there : {p q : Validated} → q ≡ p → is_validated q ≡ true → is_validated p ≡ true
validated_there e h = subst (λ (r : Validated). is_validated r ≡ true) e h

pub parts_there : {p q : Validated} {parts : ProblemParts} → q ≡ p → parts ≡ q.parts → parts ≡ p.parts
parts_there e h = h ∙ ap (λ (r : Validated). r.parts) e

pub longest_there : {p q : Validated} {k : ℕ} → q ≡ p → k ≡ q.longest → k ≡ p.longest
longest_there e h = h ∙ ap (λ (r : Validated). r.longest) e

pub node_there : {p q : Validated} (m : ℕ) (own : nodes.Node) → q ≡ p → slice_get q.parts.nodes m ≡ Some own → slice_get p.parts.nodes m ≡ Some own
node_there m own e h = subst (λ (r : Validated). slice_get r.parts.nodes m ≡ Some own) e h

pub weight_there : {p q : Validated} (m a : ℕ) → q ≡ p → IfSome (slice_get q.parts.nodes m) (λ (n : nodes.Node). a ≡ successor_total n.stop n.successor_weights) → IfSome (slice_get p.parts.nodes m) (λ (n : nodes.Node). a ≡ successor_total n.stop n.successor_weights)
weight_there m a e h = subst (λ (r : Validated). IfSome (slice_get r.parts.nodes m) (λ (n : nodes.Node). a ≡ successor_total n.stop n.successor_weights)) e h

pub stage_there : {p q : Validated} (m : ℕ) (z : ℤ) (u x values : List ℤ) → q ≡ p → z ≡ stage_cost_of (node_at (problem_of q) m) u x values → z ≡ stage_cost_of (node_at (problem_of p) m) u x values
stage_there m z u x values e h = subst (λ (r : Validated). z ≡ stage_cost_of (node_at (problem_of r) m) u x values) e h

pub start_there : {p q : Validated} {x : List ℤ} → q ≡ p → x ≡ times_all S (problem_of q).initial → x ≡ times_all S (problem_of p).initial
start_there e h = h ∙ ap (λ (r : Validated). times_all S (problem_of r).initial) e
