-- Fractions rounded up, and the least whole number that is not below a cost.
use Rattle.std.proofs.Common.{◌≡◌, ◌∙◌, ℕ, zero, suc, ◌<◌, ℤ, pos, negsuc, ◌+ℤ◌, ◌-ℤ◌, ◌*ℤ◌, ◌≤ℤ◌, ◌<ℤ◌, neg_ℤ, [], ◌∷◌, sym, arith}
use Rattle.std.proofs.lemmas.Int.{ints}
use Rattle.base_num.specs.Sums.{floor_over}
use Rattle.base_num.proofs.Order.{le_of_eq, le_trans, le_scale, le_cancel, floor_at_most, floor_above}
use Rattle.base_num.proofs.Ring.{ring, var, num, ◌⊕◌, ◌⊗◌, ⊖}
use Rattle.theory.specs.Cost.{policy_cost}
use Rattle.theory.specs.Fraction.{Fraction, ◌≤ᶠ◌}
use Rattle.theory.specs.Problem.{S, Problem}
use Rattle.theory.specs.Tree.{Forest}
use Rattle.policy_evaluate.specs.Upper.{ceiling_over, scaled_up, upper_of, IsLeastUpper}

-- a number whose multiple is positive
positive_factor : (k : ℕ) (z : ℤ) → pos 0 <ℤ (pos k *ℤ z) → pos 0 <ℤ z
positive_factor k (pos zero) h = absurd (omega (arith, ints, h))
positive_factor k (pos (suc n)) h = omega (arith, ints)
positive_factor zero (negsuc n) h = absurd (omega (arith, ints, h))
positive_factor (suc k) (negsuc n) h = absurd (omega (arith, ints, h))

-- a whole number below the next one
below_next : (k : ℕ) (x y : ℤ) → (pos k *ℤ x) <ℤ (pos k *ℤ y +ℤ pos k) → x ≤ℤ y
below_next k x y h =
    let turned : pos k *ℤ (y +ℤ pos 1 -ℤ x) ≡ pos k *ℤ y +ℤ pos k -ℤ pos k *ℤ x = ring (pos k ∷ x ∷ y ∷ []) (var 0 ⊗ (var 2 ⊕ num (pos 1) ⊕ ⊖ (var 1))) (var 0 ⊗ var 2 ⊕ var 0 ⊕ ⊖ (var 0 ⊗ var 1)) tt in
    let some : pos 0 <ℤ (y +ℤ pos 1 -ℤ x) = positive_factor k (y +ℤ pos 1 -ℤ x) (omega (arith, ints, turned, h)) in
    omega (arith, ints, some)

-- a / d ≤ ceiling, and no smaller whole number does
pub ceiling_above : (a : ℤ) (d : ℕ) → 0 < d → a ≤ℤ (pos d *ℤ ceiling_over a d)
ceiling_above a d h =
    let low = floor_at_most (neg_ℤ a) d h in
    let turned : pos d *ℤ neg_ℤ (floor_over (neg_ℤ a) d) ≡ neg_ℤ (pos d *ℤ floor_over (neg_ℤ a) d) = ring (pos d ∷ floor_over (neg_ℤ a) d ∷ []) (var 0 ⊗ ⊖ (var 1)) (⊖ (var 0 ⊗ var 1)) tt in
    omega (arith, ints, low, turned)

pub ceiling_least : (a : ℤ) (d : ℕ) (v : ℤ) → 0 < d → a ≤ℤ (pos d *ℤ v) → ceiling_over a d ≤ℤ v
ceiling_least a d v h le =
    let high = floor_above (neg_ℤ a) d h in
    let turned : pos d *ℤ neg_ℤ v ≡ neg_ℤ (pos d *ℤ v) = ring (pos d ∷ v ∷ []) (var 0 ⊗ ⊖ (var 1)) (⊖ (var 0 ⊗ var 1)) tt in
    let less : neg_ℤ v ≤ℤ floor_over (neg_ℤ a) d = below_next d (neg_ℤ v) (floor_over (neg_ℤ a) d) (omega (arith, ints, high, turned, le)) in
    omega (arith, ints, less)

-- equal fractions have the same ceiling
ceiling_at_most : (a b : ℤ) (c d : ℕ) → 0 < c → 0 < d → a *ℤ pos d ≡ b *ℤ pos c → ceiling_over a c ≤ℤ ceiling_over b d
ceiling_at_most a b c d h k e =
    let u : ℤ = ceiling_over b d in
    let up : b ≤ℤ (pos d *ℤ u) = ceiling_above b d k in
    let scaled : (pos c *ℤ b) ≤ℤ (pos c *ℤ (pos d *ℤ u)) = le_scale c b (pos d *ℤ u) up in
    let left : pos d *ℤ a ≡ pos c *ℤ b = ring (a ∷ pos d ∷ []) (var 1 ⊗ var 0) (var 0 ⊗ var 1) tt ∙ e ∙ ring (b ∷ pos c ∷ []) (var 0 ⊗ var 1) (var 1 ⊗ var 0) tt in
    let right : pos c *ℤ (pos d *ℤ u) ≡ pos d *ℤ (pos c *ℤ u) = ring (pos c ∷ pos d ∷ u ∷ []) (var 0 ⊗ (var 1 ⊗ var 2)) (var 1 ⊗ (var 0 ⊗ var 2)) tt in
    ceiling_least a c u h (le_cancel d a (pos c *ℤ u) k (omega (arith, ints, left, right, scaled)))

pub ceiling_same : (a b : ℤ) (c d : ℕ) → 0 < c → 0 < d → a *ℤ pos d ≡ b *ℤ pos c → ceiling_over a c ≡ ceiling_over b d
ceiling_same a b c d h k e =
    let one = ceiling_at_most a b c d h k e in
    let two = ceiling_at_most b a d c k h (sym e) in
    omega (arith, ints, one, two)

-- Upper of a policy
pub upper_is : (p : Problem) (f : Forest) → 0 < (policy_cost p S f).under → IsLeastUpper p f (upper_of p f)
unfolding upper_of
upper_is p f h =
    let c : Fraction = policy_cost p S f in
    let u : ℤ = scaled_up c in
    let up : (c.up *ℤ pos S) ≤ℤ (pos c.under *ℤ u) = ceiling_above (c.up *ℤ pos S) c.under h in
    let turned : pos c.under *ℤ u ≡ u *ℤ pos c.under = ring (pos c.under ∷ u ∷ []) (var 0 ⊗ var 1) (var 1 ⊗ var 0) tt in
    record {
      above = record { crossed = le_trans (c.up *ℤ pos S) (pos c.under *ℤ u) (u *ℤ pos c.under) up (le_of_eq (pos c.under *ℤ u) (u *ℤ pos c.under) turned) };
      least = λ v le. ceiling_least (c.up *ℤ pos S) c.under v h (le_trans (c.up *ℤ pos S) (v *ℤ pos c.under) (pos c.under *ℤ v) le.crossed (le_of_eq (v *ℤ pos c.under) (pos c.under *ℤ v) (ring (pos c.under ∷ v ∷ []) (var 1 ⊗ var 0) (var 0 ⊗ var 1) tt)));
    }

-- a number under the cost of each policy is at most the cost from above
pub under_upper : (p : Problem) (f : Forest) (b u : ℤ) → 0 < (policy_cost p S f).under → record { up = b; under = S } ≤ᶠ policy_cost p S f → IsLeastUpper p f u → b ≤ℤ u
under_upper p f b u h low up =
    let c : Fraction = policy_cost p S f in
    let all : (b *ℤ pos c.under) ≤ℤ (u *ℤ pos c.under) = le_trans (b *ℤ pos c.under) (c.up *ℤ pos S) (u *ℤ pos c.under) low.crossed up.above.crossed in
    le_cancel c.under b u h
    (le_trans (pos c.under *ℤ b) (b *ℤ pos c.under) (pos c.under *ℤ u) (le_of_eq (pos c.under *ℤ b) (b *ℤ pos c.under) (ring (pos c.under ∷ b ∷ []) (var 0 ⊗ var 1) (var 1 ⊗ var 0) tt))
    (le_trans (b *ℤ pos c.under) (u *ℤ pos c.under) (pos c.under *ℤ u) all (le_of_eq (u *ℤ pos c.under) (pos c.under *ℤ u) (ring (pos c.under ∷ u ∷ []) (var 1 ⊗ var 0) (var 0 ⊗ var 1) tt))))
