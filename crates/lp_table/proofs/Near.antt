-- A product over 2^64 where one factor is scaled by 2^21, the other by 8.
use Rattle.std.proofs.Common.{◌≡◌, ◌^◌, ◌<◌, ℤ, pos, nat_abs, ◌+ℤ◌, ◌*ℤ◌, Option, [], ◌∷◌, SFits, w64, to_z, of_z, arith, ap, ap₂, ◌∙◌}
use Rattle.std.proofs.lemmas.Int.{to_z-of_z}
use Rattle.base_num.specs.Sums.{floor_over}
use Rattle.base_num.proofs.Ring.{ring, var, num, ◌⊕◌, ◌⊗◌}
use Rattle.base_num.proofs.Floors.{floor_scaled}
use Rattle.lp_table.proofs.Skips.{moved_at}
use Rattle.lp_table.specs.Numbers.{cell_of, down_of}
use Rattle.lp_table.specs.Updates.{moved_cell}

scaled_down : (q n : ℤ) → floor_over ((pos (2 ^ 21) *ℤ q) *ℤ (pos 8 *ℤ n) +ℤ pos (2 ^ 63)) (2 ^ 64) ≡ down_of (q *ℤ n)
scaled_down q n =
    ap (λ (z : ℤ). floor_over z (2 ^ 64)) (ring (q ∷ n ∷ []) ((num (pos (2 ^ 21)) ⊗ var 0) ⊗ (num (pos 8) ⊗ var 1) ⊕ num (pos (2 ^ 63))) (num (pos (2 ^ 24)) ⊗ (var 0 ⊗ var 1 ⊕ num (pos (2 ^ 39)))) tt)
    ∙ floor_scaled (2 ^ 24) (2 ^ 40) (q *ℤ n +ℤ pos (2 ^ 39)) (omega arith) (omega arith)

pub near : (r : Option ℤ) (q n t scaled : ℤ) → nat_abs t < 2 ^ 60 → scaled ≡ pos (2 ^ 21) *ℤ q → r ≡ cell_of (t +ℤ floor_over (scaled *ℤ (pos 8 *ℤ n) +ℤ pos (2 ^ 63)) (2 ^ 64)) → r ≡ moved_cell q n t
near r q n t scaled g e h =
    moved_at r q n t g (h ∙ ap (λ (s : ℤ). cell_of (t +ℤ floor_over (s *ℤ (pos 8 *ℤ n) +ℤ pos (2 ^ 63)) (2 ^ 64))) e ∙ ap (λ (d : ℤ). cell_of (t +ℤ d)) (scaled_down q n))

-- by the numbers as they are read
pub near_read : (r : Option ℤ) (q n m t scaled step : ℤ) → nat_abs t < 2 ^ 60 → SFits w64 scaled → SFits w64 n → SFits w64 step → n ≡ pos 8 *ℤ m → scaled ≡ pos (2 ^ 21) *ℤ q → step ≡ floor_over (to_z w64 (of_z w64 scaled) *ℤ to_z w64 (of_z w64 n) +ℤ pos (2 ^ 63)) (2 ^ 64) → r ≡ cell_of (t +ℤ to_z w64 (of_z w64 step)) → r ≡ moved_cell q m t
near_read r q n m t scaled step g fs fn fp k e s h =
    near r q m t scaled g e
    (h ∙ ap (λ (d : ℤ). cell_of (t +ℤ d)) (to_z-of_z w64 step fp ∙ s ∙ ap₂ (λ (a b : ℤ). floor_over (a *ℤ b +ℤ pos (2 ^ 63)) (2 ^ 64)) (to_z-of_z w64 scaled fs) (to_z-of_z w64 n fn ∙ k)))
