-- The denominators of the costs of trees and of policies are positive.
use Rattle.std.proofs.Common.{◌≡◌, ℕ, ◌<◌, ℤ, true, List, [], ◌∷◌, length, sum, All, arith, mul-pos}
use Rattle.base_num.proofs.Sums.{All_head, All_tail}
use Rattle.problem.specs.Validated.{Validated, is_validated}
use Rattle.theory.specs.Cost.{cost, cost_sum, costs_of, policy_cost}
use Rattle.theory.specs.Fraction.{weighted}
use Rattle.theory.specs.Premises.{Known}
use Rattle.theory.specs.Problem.{Realization, Successor, Node, Problem, node_at, successor_weights, successor_weight}
use Rattle.theory.specs.Tree.{next_state, times_all, Tree, Forest, no_branch, branch, no_tree, tree}
use Rattle.theory.specs.View.{problem_of}
use Rattle.theory.proofs.ValidatedPremises.{known-validated, root_shaped-validated, root-validated}

mutual
  tree_under : (p : Problem) (count units : ℕ) (n : Node) (rs : List Realization) (xi : List ℤ) (t : Tree) → 0 < units → Known p count → 0 < successor_weight n → All (λ (l : Successor). l.node < count) n.successors → 0 < (cost_sum p units n rs xi t).under
  tree_under p count units n rs xi no_branch z k q h = omega arith
  tree_under p count units n [] xi (branch u f t) z k q h = omega arith
  tree_under p count units n (r ∷ rs) xi (branch u f t) z k q h =
      mul-pos (mul-pos z (mul-pos (forest_under p count units (successor_weights n.successors) n.successors (next_state n u) f z k h) q)) (tree_under p count units n rs xi t z k q h)

  forest_under : (p : Problem) (count units : ℕ) (ws : List ℕ) (ls : List Successor) (x : List ℤ) (f : Forest) → 0 < units → Known p count → All (λ (l : Successor). l.node < count) ls → 0 < (weighted ws (costs_of p units ls x f)).under
  forest_under p count units [] ls x f z k h = omega arith
  forest_under p count units (w ∷ ws) ls x no_tree z k h = omega arith
  forest_under p count units (w ∷ ws) [] x (tree t f) z k h = omega arith
  forest_under p count units (w ∷ ws) (l ∷ ls) x (tree t f) z k h =
      let b : l.node < count = All_head (λ (l : Successor). l.node < count) l ls h in
      mul-pos (mul-pos (tree_under p count units (node_at p l.node) (node_at p l.node).realizations x t z k (k.weighted l.node b) (k.successors l.node b)) (k.realizations l.node b))
      (forest_under p count units ws ls x f z k (All_tail (λ (l : Successor). l.node < count) l ls h))

pub positive_under : (p : Problem) (count m units : ℕ) (xi : List ℤ) (t : Tree) → Known p count → m < count → 0 < units → 0 < (cost p units m xi t).under
positive_under p count m units xi t k b z = mul-pos (tree_under p count units (node_at p m) (node_at p m).realizations xi t z k (k.weighted m b) (k.successors m b)) (k.realizations m b)

policy_under : (p : Problem) (count units : ℕ) (f : Forest) → Known p count → 0 < sum (successor_weights p.root) → All (λ (l : Successor). l.node < count) p.root → 0 < units → 0 < (policy_cost p units f).under
policy_under p count units f k some there z = mul-pos (forest_under p count units (successor_weights p.root) p.root (times_all units p.initial) f z k there) some

pub positive_policy : (p : Validated) (units : ℕ) (f : Forest) → is_validated p ≡ true → 0 < units → 0 < (policy_cost (problem_of p) units f).under
positive_policy p units f e z = policy_under (problem_of p) (length p.parts.nodes) units f (known-validated p e) (root_shaped-validated p e).some (root-validated p e) z
