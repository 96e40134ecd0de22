-- How many rows a node has, and how much a stage may cost.
use Rattle.std.proofs.Common.{◌≡◌, ℕ, ◌*◌, ◌<◌, ◌≤◌, ◌^◌, ℤ, pos, ◌+ℤ◌, ◌*ℤ◌, nat_abs, true, List, [], ◌∷◌, length, map, slice_get, Option, Some, All, option_and_then, sym, ap, subst, arith}
use Rattle.std.proofs.Math.Nat.{mul-le-mul}
use Rattle.std.proofs.lemmas.Bool.Decides.{nat_tests}
use Rattle.std.proofs.lemmas.Grind.{common_steps}
use Rattle.std.proofs.lemmas.Int.{ints, unsigned_abs-mul}
use Rattle.base_num.specs.Sums.{dot}
use Rattle.base_num.proofs.Sums.{All_head, All_tail}
use Rattle.problem.specs.declared.parts.Decision.{Decision}
use Rattle.problem.specs.declared.parts.Node as nodes
use Rattle.problem.specs.declared.parts.Row.{Row}
use Rattle.problem.specs.declared.parts.Subproblem.{Subproblem}
use Rattle.problem.specs.Limits.{are_values, costs_fit}
use Rattle.problem.specs.Validated.{Validated, is_validated, subproblem_of}
use Rattle.problem.proofs.SubproblemFacts.{costs-subproblem_fits, counts-subproblem_fits, few-counts_fit}
use Rattle.theory.specs.Problem.{S, Node, node_at}
use Rattle.theory.specs.Tree.{InBox, times_all}
use Rattle.theory.specs.View.{node_of, problem_of}
use Rattle.theory.proofs.ValidatedParts.{Parts, parts_of_node}
use Rattle.plan_answer.proofs.ClassifiedInfeasible.{rows_at}
use Rattle.plan_forward.specs.Amounts.{AreAmounts, AreCosts, AreFactors, AreStageAmounts}
use Rattle.plan_forward.specs.Costing.{stage_cost_of}
use Rattle.cut_pool.specs.AtNodes.{IsStateAt}
use Rattle.plan_forward.proofs.ByAnswers.{viewed}
use Rattle.plan_forward.proofs.GivenNumbers.{costs_over, numbers_given}
use Rattle.plan_forward.proofs.Products.{dot-times_all}

same_sub : (s t : Subproblem) (o : Option Subproblem) → o ≡ Some s → o ≡ Some t → s ≡ t
same_sub s t o e f = cc

-- the subproblem of a node keeps its limits
module _ (p : Validated) (e : is_validated p ≡ true) (m : ℕ) (h : m < length p.parts.nodes) (s : Subproblem) (is : subproblem_of p m ≡ Some s) where
  own_is : s ≡ (parts_of_node p m e h).subproblem
  own_is =
      let q : Parts p m = parts_of_node p m e h in
      same_sub s q.subproblem (subproblem_of p m) is (subst (λ (o : Option nodes.Node). option_and_then (λ (k : nodes.Node). slice_get p.parts.subs k.sub) o ≡ Some q.subproblem) (sym q.fit.the_node) q.fit.the_subproblem)

  pub few_rows : length s.rows ≤ 200
  few_rows =
      let q : Parts p m = parts_of_node p m e h in
      subst (λ (t : Subproblem). length t.rows ≤ 200) (sym own_is) (few-counts_fit (length p.parts.states) q.subproblem (counts-subproblem_fits (length p.parts.states) q.subproblem q.fit.subproblem)).0

  pub rows_counted : length s.rows ≡ length (node_at (problem_of p) m).rows
  rows_counted = ap (λ (rows : List Row). length rows) (rows_at p m s h is)

  constant_of : (t : Subproblem) → costs_fit (length p.parts.states) t ≡ true → nat_abs t.constant ≤ 2 ^ 40
  constant_of t f = grind (arith, nat_tests, common_steps, f)

  pub constant_small : nat_abs s.constant ≤ 2 ^ 40
  constant_small =
      let q : Parts p m = parts_of_node p m e h in
      subst (λ (t : Subproblem). nat_abs t.constant ≤ 2 ^ 40) (sym own_is) (constant_of q.subproblem (costs-subproblem_fits (length p.parts.states) q.subproblem q.fit.subproblem))

product_small : (c x : ℤ) → nat_abs c ≤ 2 ^ 40 → nat_abs x ≤ 2 ^ 64 → nat_abs (c *ℤ x) ≤ 2 ^ 104
product_small c x f g = rw (unsigned_abs-mul c x) (mul-le-mul f g)

dot_small : (cs xs : List ℤ) → All (λ z. nat_abs z ≤ 2 ^ 40) cs → All (λ z. nat_abs z ≤ 2 ^ 64) xs → nat_abs (dot cs xs) ≤ length cs * 2 ^ 104
dot_small [] xs f g = omega (arith, ints)
dot_small (c ∷ cs) [] f g = omega (arith, ints)
dot_small (c ∷ cs) (x ∷ xs) f g =
    let one = product_small c x (All_head (λ z. nat_abs z ≤ 2 ^ 40) c cs f) (All_head (λ z. nat_abs z ≤ 2 ^ 64) x xs g) in
    let tail = dot_small cs xs (All_tail (λ z. nat_abs z ≤ 2 ^ 40) c cs f) (All_tail (λ z. nat_abs z ≤ 2 ^ 64) x xs g) in
    omega (arith, ints, one, tail)

-- costs of amounts
costs_small : (cs xs : List ℤ) → AreAmounts xs → AreFactors cs xs → nat_abs (dot cs xs) ≤ 2 ^ 112
costs_small cs xs a f = let d = dot_small cs xs f.small a.small in omega (arith, d, f.count, a.few)

sum_small : (a b c d : ℤ) → nat_abs a ≤ 2 ^ 40 → nat_abs b ≤ 2 ^ 112 → nat_abs c ≤ 2 ^ 112 → nat_abs d ≤ 2 ^ 112 → nat_abs (pos S *ℤ a +ℤ b +ℤ c +ℤ d) ≤ 2 ^ 115
unfolding S
sum_small a b c d f g h i = omega (arith, ints, f, g, h, i)

stage_small : (n : nodes.Node) (s : Subproblem) (low high u x values : List ℤ) → nat_abs s.constant ≤ 2 ^ 40 → AreStageAmounts u x values → AreCosts u x values s → nat_abs (stage_cost_of (node_of n s low high) u x values) ≤ 2 ^ 115
unfolding node_of stage_cost_of
stage_small n s low high u x values constant given costs =
    sum_small s.constant (pos S *ℤ dot s.random_costs values) (dot (map (λ (d : Decision). d.cost) s.decisions) u) (dot s.state_costs x) constant
    (subst (λ (z : ℤ). nat_abs z ≤ 2 ^ 112) (dot-times_all s.random_costs values) (costs_small s.random_costs (times_all S values) given.of_values costs.randoms))
    (costs_small (map (λ (d : Decision). d.cost) s.decisions) u given.of_decisions costs.decisions) (costs_small s.state_costs x given.of_state costs.states)

-- the cost of a stage at decisions in their boxes, a state in its box and small values
pub stage_cost_small : (p : Validated) → is_validated p ≡ true → (m : ℕ) → m < length p.parts.nodes → (s : Subproblem) → subproblem_of p m ≡ Some s → (u x values : List ℤ)
    → InBox S (node_at (problem_of p) m).decision_low (node_at (problem_of p) m).decision_high u → IsStateAt p m x → are_values (subproblem_of p m) values ≡ true
    → nat_abs (stage_cost_of (node_at (problem_of p) m) u x values) ≤ 2 ^ 115
stage_cost_small p e m h s is u x values decisions state given =
    let view = viewed p m s h is in
    subst (λ (n : Node). nat_abs (stage_cost_of n u x values) ≤ 2 ^ 115) (sym view.is)
    (stage_small view.node s view.low view.high u x values (constant_small p e m h s is)
    (numbers_given p e m h s is u x values decisions state given) (costs_over p e m h s is u x values decisions state given))
