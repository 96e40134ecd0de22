-- The successors of the root, as code reads them.
use Rattle.std.proofs.Common.{◌≡◌, ◌∙◌, ℕ, ◌+◌, ◌*◌, ◌<◌, ◌≤◌, ◌^◌, ℤ, nat_abs, true, nat_lt, List, length, sum, Contains, None, Result, Ok, Err, refl, sym, ap, ap₂, subst, arith, mul-pos}
use Rattle.std.specs.List.{list_all}
use Rattle.std.proofs.Math.Nat.{mul-le-mul}
use Rattle.base_num.specs.Steps.{◌>>=◌}
use Rattle.problem.specs.declared.parts.ProblemParts.{ProblemParts}
use Rattle.problem.specs.Formulas.{total_weight}
use Rattle.problem.specs.Validated.{Validated, is_validated}
use Rattle.plan_draw.proofs.Draws.{root_counted, root_known, root_weighty}
use Rattle.theory.specs.Problem.{S, Successor, successor_weights}
use Rattle.theory.specs.Tree.{times_all}
use Rattle.theory.specs.View.{successors_of, problem_of}
use Rattle.theory.proofs.Views.{successor_weights-successors_of, root-problem_of}
use Rattle.cut_pool.specs.AtNodes.{IsStateAt}
use Rattle.plan_forward.proofs.Arcs.{start-validated}
use Rattle.policy_evaluate.specs.declared.costs.Walked.{Walked}
use Rattle.policy_evaluate.specs.PolicyTree.{Deciding, Stop}
use Rattle.policy_evaluate.specs.Costs.{successor_costs, no_cost, root_cost, share, tree_cost}
use Rattle.policy_evaluate.specs.Small.{IsCost, IsSmall, successor_branches, successor_denominator, most_cost}
use Rattle.policy_evaluate.specs.TooBig.{too_big_of}
use Rattle.policy_evaluate.proofs.Adding.{cost_limit}
use Rattle.policy_evaluate.proofs.Faults.{successors_same}
use Rattle.policy_evaluate.proofs.Seen.{total_of}
use Rattle.policy_evaluate.proofs.Whole.{root_lcm_some, root_small, root_some}

far_inside : (L W C x : ℕ) → L * W ≤ 2 ^ 40 → C ≤ 2 ^ 84 → x ≤ L * (W * C) → x ≤ 2 ^ 126
far_inside L W C x h k l = let two : L * W * C ≤ 2 ^ 40 * 2 ^ 84 = mul-le-mul h k in omega (arith, two, l)

module _ (p : Validated) (e : is_validated p ≡ true) where
  -- the root's successors and their weights
  abbrev pub roots : List Successor
  roots = successors_of p.parts.root p.parts.root_weights

  pub roots_small : too_big_of p ≡ None → IsSmall p p.longest (successor_denominator p p.longest roots) (sum (successor_weights roots)) 0 (successor_branches p p.longest roots)
  roots_small none = subst (λ (ls : List Successor). IsSmall p p.longest (successor_denominator p p.longest ls) (sum (successor_weights ls)) 0 (successor_branches p p.longest ls)) (root-problem_of p) (root_small p e none)

  pub roots_start : (m : ℕ) → Contains p.parts.root m → IsStateAt p m (times_all S (problem_of p).initial)
  roots_start m c = start-validated p m e (root_counted p e) c

  pub roots_total : total_weight p.parts.root_weights ≡ sum (successor_weights roots)
  roots_total = total_of p.parts.root_weights (root_weighty p e).some ∙ ap (λ (ws : List ℕ). sum ws) (sym (successor_weights-successors_of p.parts.root p.parts.root_weights (sym (root_counted p e))))

  roots_some : 0 < sum (successor_weights roots)
  roots_some = subst (λ (ls : List Successor). 0 < sum (successor_weights ls)) (root-problem_of p) (root_some p e)

  module _ (none : too_big_of p ≡ None) (w : Walked) (c : IsCost p p.longest (successor_denominator p p.longest roots) (sum (successor_weights roots)) (0 + successor_branches p p.longest roots) w) where
    pub roots_fit : sum (successor_weights roots) * w.under < 2 ^ 64
    roots_fit = let s = roots_small none in subst (λ (k : ℕ). sum (successor_weights roots) * k < 2 ^ 64) (sym c.under) (omega (arith, s.weighted))

    pub roots_under : 0 < sum (successor_weights roots) * w.under
    roots_under = mul-pos roots_some (subst (λ (k : ℕ). 0 < k) (sym c.under) (subst (λ (ls : List Successor). 0 < successor_denominator p p.longest ls) (root-problem_of p) (root_lcm_some p e)))

    pub roots_inside : nat_abs w.up ≤ 2 ^ 126
    roots_inside = let s = roots_small none in far_inside (successor_denominator p p.longest roots) (sum (successor_weights roots)) (most_cost p p.longest) (nat_abs w.up) s.weighted (cost_limit p p.longest s.sizes) c.small

  -- the cost of the whole policy, by that of the root's successors
  module _ (decide : Deciding) where
    abbrev pub found : Result Walked Stop
    found = successor_costs (tree_cost decide (problem_of p) p.longest (times_all S (problem_of p).initial)) (no_cost 0) roots

    pub whole_by : root_cost decide (problem_of p) p.longest ≡ (found >>= λ w. Ok (share (sum (successor_weights roots)) w))
    whole_by = ap (λ (ls : List Successor). successor_costs (tree_cost decide (problem_of p) p.longest (times_all S (problem_of p).initial)) (no_cost 0) ls >>= λ w. Ok (share (sum (successor_weights ls)) w)) (root-problem_of p)

    pub whole_ok : (w : Walked) → found ≡ Ok w → root_cost decide (problem_of p) p.longest ≡ Ok (share (sum (successor_weights roots)) w)
    whole_ok w is = whole_by ∙ ap (λ (r : Result Walked Stop). r >>= λ w. Ok (share (sum (successor_weights roots)) w)) is

    pub whole_err : (s : Stop) → found ≡ Err s → root_cost decide (problem_of p) p.longest ≡ Err s
    whole_err s is = whole_by ∙ ap (λ (r : Result Walked Stop). r >>= λ w. Ok (share (sum (successor_weights roots)) w)) is

-- the root's successors, their weights and the number of stages, as code reads them
module _ (p : Validated) (e : is_validated p ≡ true) (parts : ProblemParts) (is : parts ≡ p.parts) (k : ℕ) (stages : k ≡ p.longest) (ms ws : List ℕ) (em : ms ≡ parts.root) (ew : ws ≡ parts.root_weights) where
  nodes_are : ms ≡ p.parts.root
  nodes_are = em ∙ ap (λ (r : ProblemParts). r.root) is

  weights_are : ws ≡ p.parts.root_weights
  weights_are = ew ∙ ap (λ (r : ProblemParts). r.root_weights) is

  successors_are : successors_of ms ws ≡ roots p e
  successors_are = ap₂ successors_of nodes_are weights_are

  pub read_known : list_all (λ m. nat_lt m (length p.parts.nodes)) ms ≡ true
  read_known = subst (λ (ks : List ℕ). list_all (λ m. nat_lt m (length p.parts.nodes)) ks ≡ true) (sym nodes_are) (root_known p e)

  pub read_counted : length ws ≡ length ms
  read_counted = ap (λ (ks : List ℕ). length ks) weights_are ∙ root_counted p e ∙ sym (ap (λ (ks : List ℕ). length ks) nodes_are)

  pub read_state : (y : List ℤ) → y ≡ times_all S (problem_of p).initial → (m : ℕ) → Contains ms m → IsStateAt p m y
  read_state y start m there = subst (λ (a : List ℤ). IsStateAt p m a) (sym start) (roots_start p e m (subst (λ (ks : List ℕ). Contains ks m) nodes_are there))

  pub read_small : too_big_of p ≡ None → IsSmall p k (successor_denominator p k (successors_of ms ws)) (sum (successor_weights (successors_of ms ws))) 0 (successor_branches p k (successors_of ms ws))
  read_small none =
      subst (λ (n : ℕ). IsSmall p n (successor_denominator p n (successors_of ms ws)) (sum (successor_weights (successors_of ms ws))) 0 (successor_branches p n (successors_of ms ws))) (sym stages)
      (subst (λ (ls : List Successor). IsSmall p p.longest (successor_denominator p p.longest ls) (sum (successor_weights ls)) 0 (successor_branches p p.longest ls)) (sym successors_are) (roots_small p e none))

  pub read_cost : (w : Walked) → IsCost p k (successor_denominator p k (successors_of ms ws)) (sum (successor_weights (successors_of ms ws))) (0 + successor_branches p k (successors_of ms ws)) w
      → IsCost p p.longest (successor_denominator p p.longest (roots p e)) (sum (successor_weights (roots p e))) (0 + successor_branches p p.longest (roots p e)) w
  read_cost w c =
      subst (λ (ls : List Successor). IsCost p p.longest (successor_denominator p p.longest ls) (sum (successor_weights ls)) (0 + successor_branches p p.longest ls) w) successors_are
      (subst (λ (n : ℕ). IsCost p n (successor_denominator p n (successors_of ms ws)) (sum (successor_weights (successors_of ms ws))) (0 + successor_branches p n (successors_of ms ws)) w) stages c)

  pub read_found : (decide : Deciding) (y : List ℤ) → y ≡ times_all S (problem_of p).initial → successor_costs (tree_cost decide (problem_of p) k y) (no_cost 0) (successors_of ms ws) ≡ found p e decide
  read_found decide y start =
      ap (λ (n : ℕ). successor_costs (tree_cost decide (problem_of p) n y) (no_cost 0) (successors_of ms ws)) stages
      ∙ successors_same (tree_cost decide (problem_of p) p.longest) y (times_all S (problem_of p).initial) 0 0 (successors_of ms ws) (roots p e) start refl successors_are

  pub read_total : (vs : List ℕ) (t : ℕ) → vs ≡ parts.root_weights → t ≡ total_weight vs → t ≡ sum (successor_weights (roots p e))
  read_total vs t ev et = et ∙ ap (λ (ks : List ℕ). total_weight ks) (ev ∙ ap (λ (r : ProblemParts). r.root_weights) is) ∙ roots_total p e
