-- Rounding to the nearest.
use Rattle.std.proofs.Common.{◌≡◌, ℕ, ◌+◌, ◌-◌, ◌*◌, ◌/◌, ◌^◌, ◌<◌, ℤ, pos, negsuc, ◌+ℤ◌, ◌*ℤ◌, ◌≤ℤ◌, ◌<ℤ◌, Bool, true, false, cond, Option, Some, None, [], ◌∷◌, arith, refl, ap, ap₂, sym, ◌∙◌}
use Rattle.std.proofs.lemmas.Bool.Decides.{nat_tests}
use Rattle.std.proofs.lemmas.Int.{ints}
use Rattle.std.proofs.lemmas.Nat.{pow-add}
use Rattle.base_num.specs.Sums.{floor_over}
use Rattle.base_num.proofs.Ring.{ring, var, num, ◌⊕◌, ◌⊗◌}
use Rattle.base_num.proofs.Order.{floor_at_most, floor_above, le_scale}
use Rattle.base_num.proofs.Floors.{floor_unique}
use Rattle.lp_wide_table.specs.WideWhole.{fits_wide, held_wide, nearest_of}
use Rattle.lp_wide_table.proofs.Held.{less_true, held_same}
use Rattle.lp_wide_table.proofs.Shifts.{power_positive}

-- half of the divisor more, by the quotient of that half
half_more : (s : ℤ) (d : ℕ) → 0 < d → floor_over (s +ℤ pos d) (d * 2) ≡ floor_over (floor_over s d +ℤ pos 1) 2
half_more s d z =
    let f : ℤ = floor_over s d in
    let g : ℤ = floor_over (f +ℤ pos 1) 2 in
    floor_unique (s +ℤ pos d) (d * 2) g (omega (arith, z))
    (low (pos d *ℤ f) (pos (d * 2) *ℤ g) (floor_at_most s d z) (ring (pos d ∷ g ∷ []) (var 0 ⊗ num (pos 2) ⊗ var 1) (var 0 ⊗ (num (pos 2) ⊗ var 1)) tt) (le_scale d (pos 2 *ℤ g) (f +ℤ pos 1) (floor_at_most (f +ℤ pos 1) 2 (omega arith))) (ring (pos d ∷ f ∷ []) (var 0 ⊗ (var 1 ⊕ num (pos 1))) (var 0 ⊗ var 1 ⊕ var 0) tt))
    (high (pos d *ℤ f) (pos (d * 2) *ℤ g) (floor_above s d z) (ring (pos d ∷ f ∷ []) (var 0 ⊗ (var 1 ⊕ num (pos 2))) (var 0 ⊗ var 1 ⊕ (var 0 ⊕ var 0)) tt) (le_scale d (f +ℤ pos 2) (pos 2 *ℤ g +ℤ pos 2) (next f (pos 2 *ℤ g) (floor_above (f +ℤ pos 1) 2 (omega arith)))) (ring (pos d ∷ g ∷ []) (var 0 ⊗ (num (pos 2) ⊗ var 1 ⊕ num (pos 2))) (var 0 ⊗ num (pos 2) ⊗ var 1 ⊕ (var 0 ⊕ var 0)) tt))
  where
    low : (x y : ℤ) {w v : ℤ} → x ≤ℤ s → y ≡ w → w ≤ℤ v → v ≡ x +ℤ pos d → y ≤ℤ (s +ℤ pos d)
    low x y {w} {v} h e k i = omega (arith, ints, h, e, k, i)

    next : (a b : ℤ) → (a +ℤ pos 1) <ℤ (b +ℤ pos 2) → (a +ℤ pos 2) ≤ℤ (b +ℤ pos 2)
    next a b h = omega (arith, ints, h)

    high : (x y : ℤ) {w v : ℤ} → s <ℤ (x +ℤ pos d) → w ≡ x +ℤ (pos d +ℤ pos d) → w ≤ℤ v → v ≡ y +ℤ (pos d +ℤ pos d) → (s +ℤ pos d) <ℤ (y +ℤ pos (d * 2))
    high x y {w} {v} h e k i = omega (arith, ints, h, e, k, i)

nearest_is : (s : ℤ) (k : ℕ) → 0 < k → nearest_of s k ≡ floor_over (floor_over s (2 ^ (k - 1)) +ℤ pos 1) 2
nearest_is s k z =
    let whole : (k - 1) + 1 ≡ k = omega (arith, z) in
    ap (λ (d : ℕ). floor_over (s +ℤ pos (2 ^ (k - 1))) d) (ap (λ (n : ℕ). 2 ^ n) (sym whole) ∙ pow-add 2 (k - 1) 1) ∙ half_more s (2 ^ (k - 1)) (power_positive (k - 1))

-- a number is held by 256 bits where its half is held by 128
held_before : (z : ℤ) → fits_wide 127 (floor_over z 2) ≡ true → fits_wide 255 z ≡ true
held_before (pos n) e = less_true n (2 ^ 255) (by (grind (arith, nat_tests)))
  where
    by : n / 2 < 2 ^ 127 → n < 2 ^ 255
    by h = omega (arith, h)
held_before (negsuc n) e = less_true n (2 ^ 255) (by (grind (arith, nat_tests)))
  where
    by : n / 2 < 2 ^ 127 → n < 2 ^ 255
    by h = omega (arith, h)

absent_after : (z : ℤ) → None ≡ held_wide 255 z → None ≡ held_wide 127 (floor_over z 2)
absent_after z e = by (fits_wide 127 (floor_over z 2)) refl
  where
    by : (t : Bool) → fits_wide 127 (floor_over z 2) ≡ t → None ≡ cond t (Some (floor_over z 2)) None
    by true h = absurd (let there = held_before z h in let f = rw there at e in cc)
    by false h = refl

pub nearest_some : (s t one more v : ℤ) (r : Option ℤ) (k : ℕ) → 0 < k → t ≡ floor_over s (2 ^ (k - 1)) → one ≡ pos 1 → Some more ≡ held_wide 255 (t +ℤ one) → v ≡ floor_over more 2 → r ≡ held_wide 127 v → r ≡ held_wide 127 (nearest_of s k)
nearest_some s t one more v r k z et eo em ev er =
    let whole : more ≡ floor_over s (2 ^ (k - 1)) +ℤ pos 1 = held_same 255 (t +ℤ one) more em ∙ ap₂ (λ (x y : ℤ). x +ℤ y) et eo in
    er ∙ ap (held_wide 127) (ev ∙ ap (λ (x : ℤ). floor_over x 2) whole ∙ sym (nearest_is s k z))

pub nearest_none : (s t one : ℤ) (k : ℕ) → 0 < k → t ≡ floor_over s (2 ^ (k - 1)) → one ≡ pos 1 → None ≡ held_wide 255 (t +ℤ one) → None ≡ held_wide 127 (nearest_of s k)
nearest_none s t one k z et eo en =
    let whole : t +ℤ one ≡ floor_over s (2 ^ (k - 1)) +ℤ pos 1 = ap₂ (λ (x y : ℤ). x +ℤ y) et eo in
    absent_after (t +ℤ one) en ∙ ap (λ (x : ℤ). held_wide 127 (floor_over x 2)) whole ∙ ap (held_wide 127) (sym (nearest_is s k z))
