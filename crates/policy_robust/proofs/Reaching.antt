-- A cut that fits stays small at the lower end of its node's box.
use Rattle.std.proofs.Common.{◌≡◌, ℕ, suc, ◌<◌, ◌^◌, ℤ, pos, ◌*ℤ◌, ◌≤ℤ◌, List, [], ◌∷◌, length, max, nat_abs, ap, subst, arith, Option, Some, None, IfSome}
use Rattle.std.proofs.lemmas.Int.{ints}
use Rattle.base_num.specs.Sums.{sum_to, entry, dot}
use Rattle.base_num.proofs.Order.{le_refl, le_trans, le_add, le_scale}
use Rattle.theory.specs.declared.cut.Cut.{Cut}
use Rattle.theory.specs.Problem.{Node}
use Rattle.theory.specs.Size.{magnitude, magnitudes, reach}
use Rattle.theory.specs.Fit.{CutFits, cut_size}
use Rattle.cut_pool.specs.Reaches.{CutReaches, value_size}

dot_below : (bs xs : List ℤ) (r : ℕ → ℤ) → length bs ≡ length xs → ((k : ℕ) → k < length xs → magnitude (entry xs k) ≤ℤ r k) → dot (magnitudes bs) (magnitudes xs) ≤ℤ sum_to (length bs) (λ k. magnitude (entry bs k) *ℤ r k)
dot_below [] xs r e h = le_refl (pos 0)
dot_below (b ∷ bs) [] r e h = absurd (omega arith)
dot_below (b ∷ bs) (x ∷ xs) r e h =
    le_add (magnitude b *ℤ magnitude x) (magnitude b *ℤ r 0) (dot (magnitudes bs) (magnitudes xs)) (sum_to (length bs) (λ k. magnitude (entry bs k) *ℤ r (suc k)))
    (le_scale (nat_abs b) (magnitude x) (r 0) (h 0 (omega arith))) (dot_below bs xs (λ k. r (suc k)) (omega arith) (λ k p. h (suc k) (omega arith)))

low_reach : (l h : ℤ) → magnitude l ≤ℤ pos (max 1 (max (nat_abs l) (nat_abs h)))
low_reach l h = omega (arith, ints)

pub reaches_low : (n : Node) (c : Cut) → CutFits n c → CutReaches n.low c
reaches_low n c f =
    let below : dot (magnitudes c.beta) (magnitudes n.low) ≤ℤ sum_to (length c.beta) (λ k. magnitude (entry c.beta k) *ℤ reach n.low n.high k) = dot_below c.beta n.low (reach n.low n.high) f.slopes (λ k h. low_reach (entry n.low k) (entry n.high k)) in
    let same : sum_to (length c.beta) (λ k. magnitude (entry c.beta k) *ℤ reach n.low n.high k) ≡ sum_to (length n.low) (λ k. magnitude (entry c.beta k) *ℤ reach n.low n.high k) = ap (λ (k : ℕ). sum_to k (λ k. magnitude (entry c.beta k) *ℤ reach n.low n.high k)) f.slopes in
    record {
      slopes = f.slopes;
      small = le_trans (value_size c n.low) (cut_size n c) (pos (2 ^ 104))
          (le_add (magnitude c.alpha) (magnitude c.alpha) (dot (magnitudes c.beta) (magnitudes n.low)) (sum_to (length n.low) (λ k. magnitude (entry c.beta k) *ℤ reach n.low n.high k)) (le_refl (magnitude c.alpha))
          (subst (λ (z : ℤ). dot (magnitudes c.beta) (magnitudes n.low) ≤ℤ z) same below)) f.small;
    }

pub some_reach : (n : Node) (o : Option Cut) → IfSome o (CutFits n) → IfSome o (CutReaches n.low)
some_reach n None h = tt
some_reach n (Some c) h = reaches_low n c h
