-- The cost of a stage is at most its size.
use Rattle.std.proofs.Common.{◌≡◌, ◌∙◌, ℕ, zero, suc, ◌+◌, ◌*◌, ◌<◌, ◌≤◌, ℤ, pos, ◌+ℤ◌, ◌*ℤ◌, ◌≤ℤ◌, nat_abs, true, List, [], ◌∷◌, length, get_or, map, sym, subst, arith, mul-le-mul_left}
use Rattle.std.proofs.lemmas.Int.{ints, unsigned_abs-mul}
use Rattle.std.proofs.lemmas.List.{length-map}
use Rattle.base_num.specs.Sums.{entry, dot}
use Rattle.base_graph.specs.Paths.{numbers}
use Rattle.base_graph.specs.Ranks.{greatest}
use Rattle.base_graph.proofs.AllRanked.{greatest_over}
use Rattle.base_graph.proofs.Falling.{numbered}
use Rattle.problem.specs.declared.parts.Decision.{Decision}
use Rattle.problem.specs.declared.parts.Node as nodes
use Rattle.problem.specs.declared.parts.Subproblem.{Subproblem}
use Rattle.problem.specs.Validated.{Validated, is_validated}
use Rattle.theory.specs.Problem.{S, Realization, Node, node_at}
use Rattle.theory.specs.Tree.{InBox}
use Rattle.theory.specs.View.{node_of, problem_of}
use Rattle.theory.proofs.ValidatedParts.{Parts, parts_of_node, numbers_counted}
use Rattle.plan_forward.specs.Costing.{stage_cost_of}
use Rattle.cut_pool.specs.AtNodes.{IsStateAt}
use Rattle.policy_evaluate.specs.Small.{most_cost}
use Rattle.policy_evaluate.specs.TooBig.{sizes, box_reach, reaches, stage_cost_size, node_size, most_size}

-- a number in a box, at scale S
in_reach : (u l h : ℤ) → (pos S *ℤ l) ≤ℤ u → u ≤ℤ (pos S *ℤ h) → nat_abs u ≤ S * box_reach l h
in_reach u l h p q =
    let one : nat_abs (pos S *ℤ l) ≡ S * nat_abs l = unsigned_abs-mul (pos S) l in
    let two : nat_abs (pos S *ℤ h) ≡ S * nat_abs h = unsigned_abs-mul (pos S) h in
    let low : nat_abs l ≤ box_reach l h = omega arith in
    let high : nat_abs h ≤ box_reach l h = omega arith in
    let low' : S * nat_abs l ≤ S * box_reach l h = mul-le-mul_left S low in
    let high' : S * nat_abs h ≤ S * box_reach l h = mul-le-mul_left S high in
    omega (arith, ints, one, two, low', high', p, q)

sum_abs : (a b : ℤ) (x y : ℕ) → nat_abs a ≤ x → nat_abs b ≤ y → nat_abs (a +ℤ b) ≤ x + y
sum_abs a b x y h k = omega (arith, ints, h, k)

product_abs : (a b : ℤ) (y : ℕ) → nat_abs b ≤ y → nat_abs (a *ℤ b) ≤ nat_abs a * y
product_abs a b y h = let is : nat_abs (a *ℤ b) ≡ nat_abs a * nat_abs b = unsigned_abs-mul a b in omega (arith, is, mul-le-mul_left (nat_abs a) h)

-- costs of numbers in a box
dot_size : (cs us ls hs : List ℤ) → length us ≡ length ls → length hs ≡ length ls → ((k : ℕ) → k < length ls → (pos S *ℤ entry ls k) ≤ℤ entry us k) → ((k : ℕ) → k < length ls → entry us k ≤ℤ (pos S *ℤ entry hs k)) → nat_abs (dot cs us) ≤ S * reaches cs ls hs
dot_size [] us ls hs e f p q = omega (arith, ints)
dot_size (c ∷ cs) [] ls hs e f p q = omega (arith, ints)
dot_size (c ∷ cs) (u ∷ us) [] hs e f p q = absurd (omega (arith, e))
dot_size (c ∷ cs) (u ∷ us) (l ∷ ls) [] e f p q = absurd (omega (arith, f))
dot_size (c ∷ cs) (u ∷ us) (l ∷ ls) (h ∷ hs) e f p q =
    let tail : nat_abs (dot cs us) ≤ S * reaches cs ls hs = dot_size cs us ls hs (omega (arith, e)) (omega (arith, f)) (λ k i. p (suc k) (omega (arith, i))) (λ k i. q (suc k) (omega (arith, i))) in
    let own : nat_abs u ≤ S * box_reach l h = in_reach u l h (p 0 (omega arith)) (q 0 (omega arith)) in
    let one : nat_abs (c *ℤ u) ≤ nat_abs c * (S * box_reach l h) = product_abs c u (S * box_reach l h) own in
    omega (arith, sum_abs (c *ℤ u) (dot cs us) (nat_abs c * (S * box_reach l h)) (S * reaches cs ls hs) one tail)

-- costs of values
values_size : (cs zs : List ℤ) → nat_abs (dot cs zs) ≤ sizes cs zs
values_size [] zs = omega (arith, ints)
values_size (c ∷ cs) [] = omega (arith, ints)
values_size (c ∷ cs) (z ∷ zs) = sum_abs (c *ℤ z) (dot cs zs) (nat_abs c * nat_abs z) (sizes cs zs) (product_abs c z (nat_abs z) (omega arith)) (values_size cs zs)

-- the ends of the boxes are as many
record Counted (n : Node) : Type 0 where
  pub decisions : length n.decision_high ≡ length n.decision_low
  pub states : length n.high ≡ length n.low

counted-node_of : (n : nodes.Node) (s : Subproblem) (low high : List ℤ) → length high ≡ length low → Counted (node_of n s low high)
unfolding node_of
counted-node_of n s low high e = record { decisions = length-map s.decisions (λ (d : Decision). d.high) ∙ sym (length-map s.decisions (λ (d : Decision). d.low)); states = e }

counted-validated : (p : Validated) (m : ℕ) → is_validated p ≡ true → m < length p.parts.nodes → Counted (node_at (problem_of p) m)
counted-validated p m e h =
    let q : Parts p m = parts_of_node p m e h in
    subst (λ (n : Node). Counted n) (sym q.fit.is)
    (counted-node_of q.node q.subproblem q.low q.high (numbers_counted q.high (length p.parts.states) q.fit.highs ∙ sym (numbers_counted q.low (length p.parts.states) q.fit.lows)))

stage_within : (n : Node) (u x values : List ℤ) → Counted n → InBox S n.decision_low n.decision_high u → InBox S n.low n.high x → nat_abs (stage_cost_of n u x values) ≤ S * stage_cost_size n values
unfolding stage_cost_of
stage_within n u x values c b d =
    let constant : nat_abs (pos S *ℤ n.constant) ≡ S * nat_abs n.constant = unsigned_abs-mul (pos S) n.constant in
    let randoms : nat_abs (pos S *ℤ dot n.random_costs values) ≡ S * nat_abs (dot n.random_costs values) = unsigned_abs-mul (pos S) (dot n.random_costs values) in
    let of_values : S * nat_abs (dot n.random_costs values) ≤ S * sizes n.random_costs values = mul-le-mul_left S (values_size n.random_costs values) in
    let of_decisions : nat_abs (dot n.costs u) ≤ S * reaches n.costs n.decision_low n.decision_high = dot_size n.costs u n.decision_low n.decision_high b.count c.decisions b.above b.below in
    let of_states : nat_abs (dot n.state_costs x) ≤ S * reaches n.state_costs n.low n.high = dot_size n.state_costs x n.low n.high d.count c.states d.above d.below in
    let one = sum_abs (pos S *ℤ n.constant) (pos S *ℤ dot n.random_costs values) (S * nat_abs n.constant) (S * sizes n.random_costs values) (omega (arith, constant)) (omega (arith, randoms, of_values)) in
    let two = sum_abs (pos S *ℤ n.constant +ℤ pos S *ℤ dot n.random_costs values) (dot n.costs u) _ _ one of_decisions in
    let three = sum_abs (pos S *ℤ n.constant +ℤ pos S *ℤ dot n.random_costs values +ℤ dot n.costs u) (dot n.state_costs x) _ _ two of_states in
    omega (arith, three)

-- each size is at most the greatest
in_greatest : (f : Realization → ℕ) (rs : List Realization) (i : ℕ) (d : Realization) → i < length rs → f (get_or rs i d) ≤ greatest (map f rs)
in_greatest f [] i d h = absurd (omega (arith, h))
in_greatest f (r ∷ rs) zero d h = omega arith
in_greatest f (r ∷ rs) (suc i) d h = omega (arith, in_greatest f rs i d (omega (arith, h)))

node_within : (p : Validated) (m : ℕ) → m < length p.parts.nodes → node_size (problem_of p) m ≤ most_size p
unfolding most_size
node_within p m h = greatest_over (node_size (problem_of p)) (numbers (length p.parts.nodes)) m (numbered (length p.parts.nodes) m h)

-- the cost of a branch's stage
pub branch_within : (p : Validated) (m i : ℕ) (d : Realization) (u x : List ℤ) → is_validated p ≡ true → m < length p.parts.nodes → i < length (node_at (problem_of p) m).realizations → IsStateAt p m x
    → InBox S (node_at (problem_of p) m).decision_low (node_at (problem_of p) m).decision_high u
    → nat_abs (stage_cost_of (node_at (problem_of p) m) u x (get_or (node_at (problem_of p) m).realizations i d).values) ≤ most_cost p 1
branch_within p m i d u x e h l state box =
    let n : Node = node_at (problem_of p) m in
    let r : Realization = get_or n.realizations i d in
    let own = stage_within n u x r.values (counted-validated p m e h) box state in
    let here : stage_cost_size n r.values ≤ node_size (problem_of p) m = in_greatest (λ (r : Realization). stage_cost_size n r.values) n.realizations i d l in
    let all : stage_cost_size n r.values ≤ 1 * most_size p = omega (arith, here, node_within p m h) in
    let scaled : S * stage_cost_size n r.values ≤ S * (1 * most_size p) = mul-le-mul_left S all in
    omega (arith, own, scaled)
