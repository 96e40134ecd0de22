-- The greatest value of cuts over the states that may leave a stage: as pools keep it, and its range.
use Rattle.std.proofs.Common.{◌≡◌, ◌∙◌, ℕ, suc, zero, ◌+◌, ◌*◌, ◌<◌, ◌≤◌, ◌^◌, ℤ, ◌+ℤ◌, ◌*ℤ◌, nat_abs, List, [], ◌∷◌, length, get_or, All, arith, ap, ap₂, refl}
use Rattle.std.specs.Int.{int_min, int_max}
use Rattle.std.proofs.lemmas.Int.{ints, clamps}
use Rattle.base_num.specs.Sums.{sum_to, entry}
use Rattle.base_num.proofs.Sums.{sum_ext}
use Rattle.problem.specs.declared.parts.Subproblem.{Subproblem}
use Rattle.problem.specs.Validated.{out_lows, out_highs}
use Rattle.theory.specs.declared.cut.Cut.{Cut}
use Rattle.theory.specs.Pools.{no_cut}
use Rattle.cut_pool.specs.declared.box_maxima.OutBox.{OutBox}
use Rattle.cut_pool.specs.BoxMaxima.{no_box, greatest_over, most_over, box_maximum_over, product_over}
use Rattle.cut_pool.proofs.Ends.{in_order, lesser, later, greater, former}
use Rattle.plan_stage.specs.OutBoxes.{out_boxes}
use Rattle.plan_stage.specs.Spans.{Spans}
use Rattle.plan_stage.specs.Stage.{at_low, at_high, greatest_value, most_from, box_maximum_of}
use Rattle.plan_stage.proofs.OutBoxes.{as_many, box_at}

swapped : (a b : ℤ) → int_max b a ≡ int_max a b
swapped a b = omega (arith, ints, clamps)

-- the greater product with the lesser or the greater end
either_end : (d l u : ℤ) → int_max (d *ℤ int_min l u) (d *ℤ int_max l u) ≡ int_max (d *ℤ l) (d *ℤ u)
either_end d l u =
    in_order l u
    (λ o. ap₂ (λ (x y : ℤ). int_max (d *ℤ x) (d *ℤ y)) (lesser l u o) (greater l u o))
    (λ o. ap₂ (λ (x y : ℤ). int_max (d *ℤ x) (d *ℤ y)) (later l u o) (former l u o) ∙ swapped (d *ℤ l) (d *ℤ u))

module _ (s : Subproblem) (boxes : List OutBox) (e : boxes ≡ out_boxes s) where
  product_same : (c : Cut) (k : ℕ) → k < length s.outs → product_over boxes c k ≡ int_max (at_low s c k) (at_high s c k)
  product_same c k h =
      ap (λ (d : OutBox). int_max (entry c.beta k *ℤ d.least) (entry c.beta k *ℤ d.greatest)) (box_at s boxes k no_box e h)
      ∙ either_end (entry c.beta k) (entry (out_lows s) k) (entry (out_highs s) k)

  greatest_same : (c : Cut) → greatest_over boxes c ≡ greatest_value s c
  greatest_same c =
      ap (λ (n : ℕ). c.alpha +ℤ sum_to n (product_over boxes c)) (as_many s boxes e)
      ∙ ap (λ (z : ℤ). c.alpha +ℤ z) (sum_ext (length s.outs) (product_over boxes c) (λ k. int_max (at_low s c k) (at_high s c k)) (product_same c))

  most_same : (best : ℤ) (cs : List Cut) → most_over boxes best cs ≡ most_from s best cs
  most_same best [] = refl
  most_same best (c ∷ cs) =
      ap (λ (z : ℤ). most_over boxes (int_max best z) cs) (greatest_same c) ∙ most_same (int_max best (greatest_value s c)) cs

  -- the box maxima that pools keep
  pub box_maximum_same : (cs : List Cut) → box_maximum_over boxes cs ≡ box_maximum_of s cs
  box_maximum_same cs =
      ap (λ (z : ℤ). most_over boxes z cs) (greatest_same (get_or cs 0 no_cut)) ∙ most_same (greatest_value s (get_or cs 0 no_cut)) cs

next_small : (a b : ℤ) (n m : ℕ) → nat_abs a ≤ m → nat_abs b ≤ n → nat_abs (a +ℤ b) ≤ m + n
next_small a b n m h k = omega (arith, ints)

sum_small : (n m : ℕ) (f : ℕ → ℤ) → ((k : ℕ) → k < n → nat_abs (f k) ≤ m) → nat_abs (sum_to n f) ≤ n * m
sum_small zero m f h = omega arith
sum_small (suc n) m f h =
    let one = h 0 (omega arith) in
    let tail = sum_small n m (λ j. f (suc j)) (λ k i. h (suc k) (omega (arith, i))) in
    let both = next_small (f 0) (sum_to n (λ j. f (suc j))) (n * m) m one tail in
    omega (arith, both)

max_small : (a b : ℤ) (m : ℕ) → nat_abs a ≤ m → nat_abs b ≤ m → nat_abs (int_max a b) ≤ m
max_small a b m h k = omega (arith, ints, clamps)

few_small : (a b : ℤ) (n : ℕ) → nat_abs a ≤ 2 ^ 104 → nat_abs b ≤ n * 2 ^ 104 → n ≤ 50 → nat_abs (a +ℤ b) ≤ 2 ^ 110
few_small a b n h k few = omega (arith, ints, next_small a b (n * 2 ^ 104) (2 ^ 104) h k)

greatest_small : (s : Subproblem) (c : Cut) → length s.outs ≤ 50 → Spans s c → nat_abs (greatest_value s c) ≤ 2 ^ 110
greatest_small s c few spans =
    few_small c.alpha (sum_to (length s.outs) (λ k. int_max (at_low s c k) (at_high s c k))) (length s.outs) spans.alpha
    (sum_small (length s.outs) (2 ^ 104) (λ k. int_max (at_low s c k) (at_high s c k)) (λ k h. max_small (at_low s c k) (at_high s c k) (2 ^ 104) (spans.lows k h) (spans.highs k h)))
    few

most_small : (s : Subproblem) (best : ℤ) (cs : List Cut) → length s.outs ≤ 50 → nat_abs best ≤ 2 ^ 110 → All (Spans s) cs → nat_abs (most_from s best cs) ≤ 2 ^ 110
most_small s best [] few h spans = h
most_small s best (c ∷ cs) few h spans =
    most_small s (int_max best (greatest_value s c)) cs few
    (max_small best (greatest_value s c) (2 ^ 110) h (greatest_small s c few (spans 0 c (omega arith))))
    (λ k d i. spans (suc k) d (omega (arith, i)))

pub box_maximum_small : (s : Subproblem) (cs : List Cut) → length s.outs ≤ 50 → 0 < length cs → All (Spans s) cs → nat_abs (box_maximum_of s cs) ≤ 2 ^ 110
box_maximum_small s cs few some spans = most_small s (greatest_value s (get_or cs 0 no_cut)) cs few (greatest_small s (get_or cs 0 no_cut) few (spans 0 no_cut some)) spans
