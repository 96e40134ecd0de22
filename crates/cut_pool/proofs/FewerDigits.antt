-- Cuts in fewer binary digits, kept for the first cuts of a list.
use Rattle.std.proofs.Common.{◌≡◌, ℕ, ◌<◌, ℤ, pos, ◌+ℤ◌, ◌*ℤ◌, ◌≤ℤ◌, neg_ℤ, [], ◌∷◌, arith}
use Rattle.std.proofs.lemmas.Int.{ints}
use Rattle.base_num.specs.Sums.{floor_over}
use Rattle.base_num.proofs.Order.{le_scale, floor_at_most}
use Rattle.base_num.proofs.Ring.{ring, var, ◌⊗◌, ⊖}

-- a quotient, rounded up
above_ceiling : (v low d : ℤ) → (d *ℤ low) ≤ℤ neg_ℤ v → v ≤ℤ (neg_ℤ low *ℤ d)
above_ceiling v low d h =
    let turned : neg_ℤ low *ℤ d ≡ neg_ℤ (d *ℤ low) = ring (d ∷ low ∷ []) (⊖ (var 1) ⊗ var 0) (⊖ (var 0 ⊗ var 1)) tt in
    omega (arith, ints, h, turned)

pub ceiling_above : (v : ℤ) (d : ℕ) → 0 < d → v ≤ℤ (neg_ℤ (floor_over (neg_ℤ v) d) *ℤ pos d)
ceiling_above v d h = above_ceiling v (floor_over (neg_ℤ v) d) (pos d) (floor_at_most (neg_ℤ v) d h)

-- a number that is no more than one counted from a base is so times a power
pub counted_above : (n b : ℤ) (value found : ℤ) (d : ℕ) → n ≤ℤ (value *ℤ pos d) → value ≤ℤ (b +ℤ found) → n ≤ℤ ((b +ℤ found) *ℤ pos d)
counted_above n b value found d h k =
    let more : (pos d *ℤ value) ≤ℤ (pos d *ℤ (b +ℤ found)) = le_scale d value (b +ℤ found) k in
    let left : value *ℤ pos d ≡ pos d *ℤ value = ring (pos d ∷ value ∷ []) (var 1 ⊗ var 0) (var 0 ⊗ var 1) tt in
    let right : (b +ℤ found) *ℤ pos d ≡ pos d *ℤ (b +ℤ found) = ring (pos d ∷ (b +ℤ found) ∷ []) (var 1 ⊗ var 0) (var 0 ⊗ var 1) tt in
    omega (arith, ints, h, more, left, right)
