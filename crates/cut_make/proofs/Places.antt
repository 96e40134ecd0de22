-- Laws of same_place: it is 1 of a place and itself, and 0 of two different places.
use Rattle.std.proofs.Common.{◌≡◌, ◌≢◌, ℕ, zero, suc, pos, ap, refl}
use Rattle.base_num.specs.Sums.{same_place}

pub place_same : (i : ℕ) → same_place i i ≡ pos 1
place_same zero = refl
place_same (suc i) = place_same i

pub place_apart : (i j : ℕ) → i ≢ j → same_place i j ≡ pos 0
place_apart zero zero h = absurd (h refl)
place_apart zero (suc j) h = refl
place_apart (suc i) zero h = refl
place_apart (suc i) (suc j) h = place_apart i j (λ e. h (ap suc e))
