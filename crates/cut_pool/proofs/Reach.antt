-- Cuts that fit stay small at each state of the box.
use Rattle.std.proofs.Common.{◌≡◌, ℕ, suc, ◌<◌, ◌^◌, ℤ, pos, ◌+ℤ◌, ◌*ℤ◌, ◌≤ℤ◌, List, [], ◌∷◌, length, get_or, sum, All, max, nat_abs, sym, ap, ◌∙◌, subst, arith}
use Rattle.std.proofs.lemmas.Int.{ints}
use Rattle.std.proofs.lemmas.List.Sums.{sum_by-cons}
use Rattle.base_num.specs.Sums.{sum_to, total, entry, dot}
use Rattle.base_num.proofs.Ring.{ring, var, num, ◌⊕◌, ◌⊗◌}
use Rattle.base_num.proofs.Order.{le_refl, le_trans, le_add, le_scale}
use Rattle.theory.specs.declared.cut.Cut.{Cut}
use Rattle.theory.specs.Problem.{Successor, Node, Problem, successor_weights}
use Rattle.theory.specs.Tree.{InBox}
use Rattle.theory.specs.Size.{magnitude, magnitudes, reach}
use Rattle.theory.specs.Fit.{CutFits, cut_size}
use Rattle.theory.specs.Premises.{StartsIn}
use Rattle.cut_pool.specs.Reaches.{CutReaches, value_size}

dot_below : (bs xs : List ℤ) (r : ℕ → ℤ) → length bs ≡ length xs → ((k : ℕ) → k < length xs → magnitude (entry xs k) ≤ℤ r k) → dot (magnitudes bs) (magnitudes xs) ≤ℤ sum_to (length bs) (λ k. magnitude (entry bs k) *ℤ r k)
dot_below [] xs r e h = le_refl (pos 0)
dot_below (b ∷ bs) [] r e h = absurd (omega arith)
dot_below (b ∷ bs) (x ∷ xs) r e h =
    le_add (magnitude b *ℤ magnitude x) (magnitude b *ℤ r 0) (dot (magnitudes bs) (magnitudes xs)) (sum_to (length bs) (λ k. magnitude (entry bs k) *ℤ r (suc k)))
    (le_scale (nat_abs b) (magnitude x) (r 0) (h 0 (omega arith))) (dot_below bs xs (λ k. r (suc k)) (omega arith) (λ k p. h (suc k) (omega arith)))

inside_reach : (l x h : ℤ) → (pos 1 *ℤ l) ≤ℤ x → x ≤ℤ (pos 1 *ℤ h) → magnitude x ≤ℤ pos (max 1 (max (nat_abs l) (nat_abs h)))
inside_reach l x h p q = omega (arith, ints)

pub reaches : (n : Node) (x : List ℤ) (c : Cut) → InBox 1 n.low n.high x → CutFits n c → CutReaches x c
reaches n x c b f =
    let count : length c.beta ≡ length x = f.slopes ∙ sym b.count in
    let below : dot (magnitudes c.beta) (magnitudes x) ≤ℤ sum_to (length c.beta) (λ k. magnitude (entry c.beta k) *ℤ reach n.low n.high k) =
    dot_below c.beta x (reach n.low n.high) count (λ k h. let i : k < length n.low = omega (arith, b.count) in inside_reach (entry n.low k) (entry x k) (entry n.high k) (b.above k i) (b.below k i)) in
    let same : sum_to (length c.beta) (λ k. magnitude (entry c.beta k) *ℤ reach n.low n.high k) ≡ sum_to (length n.low) (λ k. magnitude (entry c.beta k) *ℤ reach n.low n.high k) = ap (λ (k : ℕ). sum_to k (λ k. magnitude (entry c.beta k) *ℤ reach n.low n.high k)) f.slopes in
    record {
      slopes = count;
      small = le_trans (value_size c x) (cut_size n c) (pos (2 ^ 104))
          (le_add (magnitude c.alpha) (magnitude c.alpha) (dot (magnitudes c.beta) (magnitudes x)) (sum_to (length n.low) (λ k. magnitude (entry c.beta k) *ℤ reach n.low n.high k)) (le_refl (magnitude c.alpha))
          (subst (λ (z : ℤ). dot (magnitudes c.beta) (magnitudes x) ≤ℤ z) same below)) f.small;
    }

pub all_reach : (n : Node) (x : List ℤ) (cs : List Cut) → InBox 1 n.low n.high x → All (CutFits n) cs → All (CutReaches x) cs
all_reach n x cs b f = λ k d h. reaches n x (get_or cs k d) b (f k d h)

one_mul_le : (a b : ℤ) → a ≤ℤ b → (pos 1 *ℤ a) ≤ℤ b
one_mul_le a b h = omega (arith, ints)

le_one_mul : (a b : ℤ) → a ≤ℤ b → a ≤ℤ (pos 1 *ℤ b)
le_one_mul a b h = omega (arith, ints)

-- the initial state is in the box, in whole units
pub start_box : (p : Problem) (n : Node) → StartsIn p n → InBox 1 n.low n.high p.initial
start_box p n s = record { count = s.count; above = λ k h. one_mul_le (entry n.low k) (entry p.initial k) (s.lows k h); below = λ k h. le_one_mul (entry p.initial k) (entry n.high k) (s.highs k h) }

-- weights times one number
pub total-weights : (c : ℕ) (ls : List Successor) → total (λ (l : Successor). pos l.weight *ℤ pos c) ls ≡ pos (sum (successor_weights ls)) *ℤ pos c
total-weights c [] = ring (pos c ∷ []) (num (pos 0)) (num (pos 0) ⊗ var 0) tt
total-weights c (l ∷ ls) =
    ap (λ (k : ℤ). pos l.weight *ℤ pos c +ℤ k) (total-weights c ls)
    ∙ ring (pos l.weight ∷ pos c ∷ pos (sum (successor_weights ls)) ∷ []) (var 0 ⊗ var 1 ⊕ var 2 ⊗ var 1) ((var 0 ⊕ var 2) ⊗ var 1) tt
    ∙ ap (λ (k : ℕ). pos k *ℤ pos c) (sym (sum_by-cons (λ k. k) l.weight (successor_weights ls)))
