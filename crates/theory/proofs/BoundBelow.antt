-- The bound of sound pools is at most the cost of each policy.
use Rattle.std.proofs.Common.{◌≡◌, ℕ, zero, suc, ◌*◌, ◌<◌, ℤ, pos, ◌+ℤ◌, ◌*ℤ◌, ◌≤ℤ◌, Bool, true, false, cond, List, [], ◌∷◌, length, get_or, All, sum, int_lt, arith, refl, ap, sym, ◌∙◌, subst}
use Rattle.std.specs.Int.{int_max}
use lib.IntN.{*ℤ-zero}
use Rattle.base_num.specs.Sums.{entry, dot}
use Rattle.base_num.proofs.Order.{le_scale, floor_at_most}
use Rattle.base_num.proofs.Ring.{ring, var, ◌⊕◌, ◌⊗◌}
use Rattle.base_num.proofs.Sums.{All_head, All_tail}
use Rattle.theory.specs.Bound.{greatest_cut_value, weighted_value, bound, Under}
use Rattle.theory.specs.Cost.{cost, policy_cost, costs_of}
use Rattle.theory.specs.Fraction.{Fraction, ◌≤ᶠ◌, times, weighted}
use Rattle.theory.specs.Pools.{cut_value, pool, Sound}
use Rattle.theory.specs.Premises.{StartsIn, RootShaped, HaveCuts}
use Rattle.theory.specs.Problem.{S, Successor, Node, Problem, node_at, successor_weights}
use Rattle.theory.specs.Tree.{InBox, times_all, Forest, no_tree, tree, FeasibleForest}
use Rattle.theory.proofs.Fractions.{ratio, below_none, below_plus, below_times, below_over, below_less, below_cancel}
use Rattle.theory.specs.declared.cut.Cut.{Cut}

entry_times : (units : ℕ) (xs : List ℤ) (k : ℕ) → entry (times_all units xs) k ≡ pos units *ℤ entry xs k
entry_times units [] k = sym (*ℤ-zero (pos units))
entry_times units (x ∷ xs) zero = refl
entry_times units (x ∷ xs) (suc k) = entry_times units xs k

length_times : (units : ℕ) (xs : List ℤ) → length (times_all units xs) ≡ length xs
length_times units [] = refl
length_times units (x ∷ xs) = ap suc (length_times units xs)

dot_times : (units : ℕ) (bs xs : List ℤ) → dot bs (times_all units xs) ≡ pos units *ℤ dot bs xs
dot_times units [] xs = sym (*ℤ-zero (pos units))
dot_times units (b ∷ bs) [] = sym (*ℤ-zero (pos units))
dot_times units (b ∷ bs) (x ∷ xs) = ap (λ (k : ℤ). b *ℤ (pos units *ℤ x) +ℤ k) (dot_times units bs xs) ∙ ring (b ∷ pos units ∷ x ∷ dot bs xs ∷ []) (var 0 ⊗ (var 1 ⊗ var 2) ⊕ var 1 ⊗ var 3) (var 1 ⊗ (var 0 ⊗ var 2 ⊕ var 3)) tt

pub start_in : (p : Problem) (units : ℕ) (n : Node) → StartsIn p n → InBox units n.low n.high (times_all units p.initial)
start_in p units n s = record {
  count = length_times units p.initial ∙ s.count;
  above = λ k q. subst (λ (z : ℤ). (pos units *ℤ entry n.low k) ≤ℤ z) (sym (entry_times units p.initial k)) (le_scale units (entry n.low k) (entry p.initial k) (s.lows k q));
  below = λ k q. subst (λ (z : ℤ). z ≤ℤ (pos units *ℤ entry n.high k)) (sym (entry_times units p.initial k)) (le_scale units (entry p.initial k) (entry n.high k) (s.highs k q));
}

-- one cut's value at the start, without the units
pub one_cut : (units : ℕ) (x : List ℤ) (c : Cut) (f : Fraction) → 0 < units → cut_value units (times_all units x) c ≤ᶠ f → ratio (c.alpha +ℤ dot c.beta x) S ≤ᶠ f
one_cut units x c f z h =
    below_cancel (c.alpha +ℤ dot c.beta x) S units f z
    (subst (λ (k : ℕ). ratio (pos units *ℤ (c.alpha +ℤ dot c.beta x)) k ≤ᶠ f) (turn S units)
    (subst (λ (a : ℤ). ratio a (S * units) ≤ᶠ f) (ap (λ (k : ℤ). c.alpha *ℤ pos units +ℤ k) (dot_times units c.beta x) ∙ ring (c.alpha ∷ pos units ∷ dot c.beta x ∷ []) (var 0 ⊗ var 1 ⊕ var 1 ⊗ var 2) (var 1 ⊗ (var 0 ⊕ var 2)) tt) h))
  where
    turn : (s n : ℕ) → s * n ≡ n * s
    turn s n = omega arith

-- the greater of two is one of them
greater_by : (P : ℤ → Type 0) (x y : ℤ) → P x → P y → P (int_max x y)
greater_by P x y a b = pick (int_lt y x)
  where
    pick : (t : Bool) → P (cond t x y)
    pick true = a
    pick false = b

pub all_cuts : (x : List ℤ) (f : Fraction) (cs : List Cut) → 0 < length cs → All (λ (c : Cut). ratio (c.alpha +ℤ dot c.beta x) S ≤ᶠ f) cs → ratio (greatest_cut_value cs x) S ≤ᶠ f
all_cuts x f [] z h = absurd (omega arith)
all_cuts x f (c ∷ []) z h = All_head (λ (c : Cut). ratio (c.alpha +ℤ dot c.beta x) S ≤ᶠ f) c [] h
all_cuts x f (c ∷ (d ∷ cs)) z h =
    greater_by (λ a. ratio a S ≤ᶠ f) (c.alpha +ℤ dot c.beta x) (greatest_cut_value (d ∷ cs) x) (All_head (λ (c : Cut). ratio (c.alpha +ℤ dot c.beta x) S ≤ᶠ f) c (d ∷ cs) h)
    (all_cuts x f (d ∷ cs) (omega arith) (All_tail (λ (c : Cut). ratio (c.alpha +ℤ dot c.beta x) S ≤ᶠ f) c (d ∷ cs) h))

roots : (p : Problem) (pools : List (List Cut)) (units : ℕ) (ls : List Successor) (f : Forest) → 0 < units → Sound p pools → All (λ (l : Successor). StartsIn p (node_at p l.node)) ls → HaveCuts pools ls
    → FeasibleForest p units ls (times_all units p.initial) f → ratio (weighted_value pools p.initial ls) S ≤ᶠ weighted (successor_weights ls) (costs_of p units ls (times_all units p.initial) f)
roots p pools units [] f z s b c h = below_none S
roots p pools units (l ∷ ls) no_tree z s b c h = absurd h
roots p pools units (l ∷ ls) (tree t f) z s b c h =
    below_plus (pos l.weight *ℤ greatest_cut_value (pool pools l.node) p.initial) (weighted_value pools p.initial ls) S (times l.weight (cost p units l.node (times_all units p.initial) t)) (weighted (successor_weights ls) (costs_of p units ls (times_all units p.initial) f))
    (below_times (greatest_cut_value (pool pools l.node) p.initial) S l.weight (cost p units l.node (times_all units p.initial) t)
    (all_cuts p.initial (cost p units l.node (times_all units p.initial) t) (pool pools l.node) (All_head (λ (l : Successor). 0 < length (pool pools l.node)) l ls c)
    (λ k d q. one_cut units p.initial (get_or (pool pools l.node) k d) (cost p units l.node (times_all units p.initial) t) z
    (s l.node k d q units (times_all units p.initial) t z (start_in p units (node_at p l.node) (All_head (λ (l : Successor). StartsIn p (node_at p l.node)) l ls b)) h.0))))
    (roots p pools units ls f z s (All_tail (λ (l : Successor). StartsIn p (node_at p l.node)) l ls b) (All_tail (λ (l : Successor). 0 < length (pool pools l.node)) l ls c) h.1)

pub sound_bound : (p : Problem) (pools : List (List Cut)) → RootShaped p → HaveCuts pools p.root → Sound p pools → Under p (bound p pools)
sound_bound p pools sh cuts s units f z h =
    let q : ℕ = sum (successor_weights p.root) in
    let a : ℤ = weighted_value pools p.initial p.root in
    below_cancel (bound p pools) S q (policy_cost p units f) sh.some
    (below_less (pos q *ℤ bound p pools) a (q * S) (policy_cost p units f) (floor_at_most a q sh.some)
    (subst (λ (k : ℕ). ratio a k ≤ᶠ policy_cost p units f) (turn S q)
    (below_over a S q (weighted (successor_weights p.root) (costs_of p units p.root (times_all units p.initial) f)) (roots p pools units p.root f z s sh.boxes cuts h))))
  where
    turn : (s n : ℕ) → s * n ≡ n * s
    turn s n = omega arith
