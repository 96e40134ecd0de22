-- Quotients rounded down: the one that they are, at multiples, and their order.
use Rattle.std.proofs.Common.{◌≡◌, ℕ, ◌+◌, ◌*◌, ◌<◌, ◌≤◌, ◌/◌, ℤ, pos, negsuc, ◌+ℤ◌, ◌*ℤ◌, ◌≤ℤ◌, ◌<ℤ◌, [], ◌∷◌, arith, ⊎_elim, mul-pos}
use Rattle.std.proofs.Math.Nat.{div-mul-le_self}
use Rattle.std.proofs.lemmas.Nat.{le-div}
use Rattle.std.proofs.lemmas.Bool.{cases_lt}
use Rattle.std.proofs.lemmas.Int.{ints}
use borrow.Author.Differences.{up, down}
use Rattle.base_num.specs.Sums.{floor_over}
use Rattle.base_num.proofs.Ring.{ring, var, num, ◌⊕◌, ◌⊗◌}
use Rattle.base_num.proofs.Order.{le_refl, le_trans, le_scale, le_of_eq, floor_at_most, floor_above}

-- a factor of both sides goes
pub lt_cancel : (k : ℕ) (a b : ℤ) → (pos k *ℤ a) <ℤ (pos k *ℤ b) → a <ℤ b
lt_cancel k a b h = ⊎_elim (λ (l : up a + down b < up b + down a). less l) (λ (l : up b + down a ≤ up a + down b). absurd (not (le_scale k b a (more l)))) (cases_lt (up a + down b) (up b + down a))
  where
    less : up a + down b < up b + down a → a <ℤ b
    less l = omega (arith, ints)

    more : up b + down a ≤ up a + down b → b ≤ℤ a
    more l = omega (arith, ints)

    not : (pos k *ℤ b) ≤ℤ (pos k *ℤ a) → ⊥
    not l = absurd (omega (arith, ints, h, l))

pub floor_unique : (a : ℤ) (d : ℕ) (q : ℤ) → 0 < d → (pos d *ℤ q) ≤ℤ a → a <ℤ (pos d *ℤ q +ℤ pos d) → floor_over a d ≡ q
floor_unique a d q z h i =
    let f : ℤ = floor_over a d in
    let low : f <ℤ (q +ℤ pos 1) = lt_cancel d f (q +ℤ pos 1) (one_more (pos d *ℤ f) a (pos d *ℤ q +ℤ pos d) (pos d *ℤ (q +ℤ pos 1)) (floor_at_most a d z) i (ring (pos d ∷ q ∷ []) (var 0 ⊗ var 1 ⊕ var 0) (var 0 ⊗ (var 1 ⊕ num (pos 1))) tt)) in
    let high : q <ℤ (f +ℤ pos 1) = lt_cancel d q (f +ℤ pos 1) (one_more (pos d *ℤ q) a (pos d *ℤ f +ℤ pos d) (pos d *ℤ (f +ℤ pos 1)) h (floor_above a d z) (ring (pos d ∷ f ∷ []) (var 0 ⊗ var 1 ⊕ var 0) (var 0 ⊗ (var 1 ⊕ num (pos 1))) tt)) in
    same f q low high
  where
    one_more : (x a y w : ℤ) → x ≤ℤ a → a <ℤ y → y ≡ w → x <ℤ w
    one_more x a y w p q e = omega (arith, ints)

    same : (f q : ℤ) → f <ℤ (q +ℤ pos 1) → q <ℤ (f +ℤ pos 1) → f ≡ q
    same f q l h = omega (arith, ints)

-- a multiple of the divisor
pub floor_exact : (d : ℕ) (q : ℤ) → 0 < d → floor_over (pos d *ℤ q) d ≡ q
floor_exact d q z = floor_unique (pos d *ℤ q) d q z (le_refl (pos d *ℤ q)) (above (pos d *ℤ q))
  where
    above : (x : ℤ) → x <ℤ (x +ℤ pos d)
    above x = omega (arith, ints)

-- both sides times a factor
pub floor_scaled : (s d : ℕ) (a : ℤ) → 0 < s → 0 < d → floor_over (pos s *ℤ a) (s * d) ≡ floor_over a d
floor_scaled s d a some z =
    let q : ℤ = floor_over a d in
    floor_unique (pos s *ℤ a) (s * d) q (mul-pos some z)
    (le_trans (pos (s * d) *ℤ q) (pos s *ℤ (pos d *ℤ q)) (pos s *ℤ a) (le_of_eq (pos (s * d) *ℤ q) (pos s *ℤ (pos d *ℤ q)) (ring (pos s ∷ pos d ∷ q ∷ []) (var 0 ⊗ var 1 ⊗ var 2) (var 0 ⊗ (var 1 ⊗ var 2)) tt)) (le_scale s (pos d *ℤ q) a (floor_at_most a d z)))
    (strict (pos s *ℤ a) (pos s *ℤ (a +ℤ pos 1)) (pos s *ℤ (pos d *ℤ q +ℤ pos d)) (pos (s * d) *ℤ q +ℤ pos (s * d))
    (ring (pos s ∷ a ∷ []) (var 0 ⊗ (var 1 ⊕ num (pos 1))) (var 0 ⊗ var 1 ⊕ var 0) tt)
    (le_scale s (a +ℤ pos 1) (pos d *ℤ q +ℤ pos d) (next a (pos d *ℤ q +ℤ pos d) (floor_above a d z)))
    (ring (pos s ∷ pos d ∷ q ∷ []) (var 0 ⊗ (var 1 ⊗ var 2 ⊕ var 1)) (var 0 ⊗ var 1 ⊗ var 2 ⊕ var 0 ⊗ var 1) tt))
  where
    next : (a b : ℤ) → a <ℤ b → (a +ℤ pos 1) ≤ℤ b
    next a b h = omega (arith, ints)

    strict : (x y w v : ℤ) → y ≡ x +ℤ pos s → y ≤ℤ w → w ≡ v → x <ℤ v
    strict x y w v e h f = omega (arith, ints)

-- the order
quotient_more : (a b d : ℕ) → 0 < d → a ≤ b → a / d ≤ b / d
quotient_more a b d z h = le-div (a / d) b d z (omega (arith, div-mul-le_self a d))

pub floor_more : (a b : ℤ) (d : ℕ) → 0 < d → a ≤ℤ b → floor_over a d ≤ℤ floor_over b d
floor_more (pos a) (pos b) d z h = omega (arith, ints, quotient_more a b d z (omega (arith, ints)))
floor_more (pos a) (negsuc b) d z h = absurd (omega (arith, ints))
floor_more (negsuc a) (pos b) d z h = omega (arith, ints)
floor_more (negsuc a) (negsuc b) d z h = omega (arith, ints, quotient_more b a d z (omega (arith, ints)))
