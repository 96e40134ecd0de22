-- The bound over risk cuts that hold is at most the risk cost of each policy.
use Rattle.std.proofs.Common.{◌≡◌, ℕ, ◌*◌, ◌<◌, ℤ, pos, ◌*ℤ◌, List, [], ◌∷◌, length, get_or, All, sum, arith, subst}
use Rattle.base_num.proofs.Order.{floor_at_most}
use Rattle.base_num.proofs.Sums.{All_head, All_tail}
use Rattle.theory.specs.Bound.{greatest_cut_value, weighted_value, bound}
use Rattle.theory.specs.Fraction.{◌≤ᶠ◌, times, weighted}
use Rattle.theory.specs.Pools.{pool}
use Rattle.theory.specs.Premises.{StartsIn, RootShaped, HaveCuts}
use Rattle.theory.specs.Problem.{S, Successor, Problem, node_at, successor_weights}
use Rattle.theory.specs.Tree.{times_all, Forest, no_tree, tree, FeasibleForest}
use Rattle.theory.proofs.Fractions.{ratio, below_none, below_plus, below_times, below_over, below_less, below_cancel}
use Rattle.theory.proofs.BoundBelow.{start_in, one_cut, all_cuts}
use Rattle.theory.specs.declared.cut.Cut.{Cut}
use Rattle.policy_robust.specs.RiskCost.{risk_cost, risk_costs, risk_policy_cost, RiskSound, RiskUnder}

roots : (p : Problem) (w : List (List (List ℕ))) (pools : List (List Cut)) (units : ℕ) (ls : List Successor) (f : Forest) → 0 < units → RiskSound p w pools → All (λ (l : Successor). StartsIn p (node_at p l.node)) ls → HaveCuts pools ls
    → FeasibleForest p units ls (times_all units p.initial) f → ratio (weighted_value pools p.initial ls) S ≤ᶠ weighted (successor_weights ls) (risk_costs p w units ls (times_all units p.initial) f)
roots p w pools units [] f z s b c h = below_none S
roots p w pools units (l ∷ ls) no_tree z s b c h = absurd h
roots p w pools units (l ∷ ls) (tree t f) z s b c h =
    below_plus (pos l.weight *ℤ greatest_cut_value (pool pools l.node) p.initial) (weighted_value pools p.initial ls) S (times l.weight (risk_cost p w units l.node (times_all units p.initial) t)) (weighted (successor_weights ls) (risk_costs p w units ls (times_all units p.initial) f))
    (below_times (greatest_cut_value (pool pools l.node) p.initial) S l.weight (risk_cost p w units l.node (times_all units p.initial) t)
    (all_cuts p.initial (risk_cost p w units l.node (times_all units p.initial) t) (pool pools l.node) (All_head (λ (l : Successor). 0 < length (pool pools l.node)) l ls c)
    (λ k d q. one_cut units p.initial (get_or (pool pools l.node) k d) (risk_cost p w units l.node (times_all units p.initial) t) z
    (s l.node k d q units (times_all units p.initial) t z (start_in p units (node_at p l.node) (All_head (λ (l : Successor). StartsIn p (node_at p l.node)) l ls b)) h.0))))
    (roots p w pools units ls f z s (All_tail (λ (l : Successor). StartsIn p (node_at p l.node)) l ls b) (All_tail (λ (l : Successor). 0 < length (pool pools l.node)) l ls c) h.1)

pub risk_bound : (p : Problem) (w : List (List (List ℕ))) (pools : List (List Cut)) → RootShaped p → HaveCuts pools p.root → RiskSound p w pools → RiskUnder p w (bound p pools)
risk_bound p w pools sh cuts s units f z h =
    let q : ℕ = sum (successor_weights p.root) in
    let a : ℤ = weighted_value pools p.initial p.root in
    below_cancel (bound p pools) S q (risk_policy_cost p w units f) sh.some
    (below_less (pos q *ℤ bound p pools) a (q * S) (risk_policy_cost p w units f) (floor_at_most a q sh.some)
    (subst (λ (k : ℕ). ratio a k ≤ᶠ risk_policy_cost p w units f) (turn S q)
    (below_over a S q (weighted (successor_weights p.root) (risk_costs p w units p.root (times_all units p.initial) f)) (roots p w pools units p.root f z s sh.boxes cuts h))))
  where
    turn : (s n : ℕ) → s * n ≡ n * s
    turn s n = omega arith
