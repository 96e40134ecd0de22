-- Shifts by halves.
use Rattle.std.proofs.Common.{◌≡◌, ℕ, zero, suc, neg_ℤ, ◌⊎◌, Bool, true, false, cond, Some, None, refl, ◌+◌, ◌-◌, ◌*◌, ◌/◌, ◌%◌, ◌^◌, ◌<◌, ◌≤◌, ℤ, pos, negsuc, ◌+ℤ◌, ◌-ℤ◌, ◌*ℤ◌, ◌≤ℤ◌, ◌<ℤ◌, nat_abs, of_z, to_z, FitsSigned, ⊎_elim, [], ◌∷◌, arith, ap, ap₂, sym, subst, ◌∙◌, mul-pos, mul-le-mul_left}
use Rattle.std.proofs.Math.Nat.{div-eq_of_lt, mod-eq_of_lt, pow-le-pow_right}
use mir.Syntax.{w128}
use Rattle.std.proofs.lemmas.Bool.{cases_lt}
use Rattle.std.proofs.lemmas.Int.{ints, to_z-of_z}
use Rattle.std.proofs.lemmas.Nat.{pow-add, mod-mul-add, mul-add-lt}
use Rattle.base_num.specs.Sums.{floor_over}
use Rattle.base_num.proofs.Ring.{ring, var, num, ◌⊕◌, ◌⊗◌}
use Rattle.base_num.proofs.Order.{floor_at_most, floor_above, le_scale}
use Rattle.base_num.proofs.Floors.{floor_unique}
use Rattle.lp_wide_table.specs.WideWhole.{fits_wide, held_wide, rest_over}
use Rattle.lp_wide_table.proofs.ByHalves.{split}
use Rattle.lp_wide_table.proofs.Held.{fits_read}

-- a multiple of the divisor, and a rest, over the divisor
pub floor_joined : (d e : ℕ) (f : ℤ) (r l : ℕ) → 0 < d → floor_over (pos (d * e) *ℤ (pos d *ℤ f +ℤ pos r) +ℤ pos l) d ≡ pos (d * e) *ℤ f +ℤ pos (r * e + l / d)
floor_joined d e f r l z =
    floor_unique (pos (d * e) *ℤ (pos d *ℤ f +ℤ pos r) +ℤ pos l) d (pos (d * e) *ℤ f +ℤ pos (r * e + l / d)) z
    (low (pos d *ℤ (pos (d * e) *ℤ f +ℤ pos (r * e + l / d))) (pos (d * e) *ℤ (pos d *ℤ f +ℤ pos r)) (d * (l / d)) whole (omega (arith, z)))
    (high (pos d *ℤ (pos (d * e) *ℤ f +ℤ pos (r * e + l / d))) (pos (d * e) *ℤ (pos d *ℤ f +ℤ pos r)) (d * (l / d)) whole (omega (arith, z)))
  where
    whole : pos d *ℤ (pos (d * e) *ℤ f +ℤ pos (r * e + l / d)) ≡ pos (d * e) *ℤ (pos d *ℤ f +ℤ pos r) +ℤ pos (d * (l / d))
    whole = ring (pos d ∷ pos e ∷ f ∷ pos r ∷ pos (l / d) ∷ []) (var 0 ⊗ (var 0 ⊗ var 1 ⊗ var 2 ⊕ (var 3 ⊗ var 1 ⊕ var 4))) (var 0 ⊗ var 1 ⊗ (var 0 ⊗ var 2 ⊕ var 3) ⊕ var 0 ⊗ var 4) tt

    low : (x y : ℤ) (m : ℕ) → x ≡ y +ℤ pos m → m ≤ l → x ≤ℤ (y +ℤ pos l)
    low x y m e h = omega (arith, ints, e, h)

    high : (x y : ℤ) (m : ℕ) → x ≡ y +ℤ pos m → l < m + d → (y +ℤ pos l) <ℤ (x +ℤ pos d)
    high x y m e h = omega (arith, ints, e, h)

-- the lower half goes
pub floor_above_half : (w d : ℕ) (h : ℤ) (l : ℕ) → 0 < d → l < w → floor_over (pos w *ℤ h +ℤ pos l) (w * d) ≡ floor_over h d
floor_above_half w d h l z p =
    let f : ℤ = floor_over h d in
    floor_unique (pos w *ℤ h +ℤ pos l) (w * d) f (mul-pos (omega (arith, p)) z)
    (low (pos (w * d) *ℤ f) (pos w *ℤ (pos d *ℤ f)) (pos w *ℤ h) (ring (pos w ∷ pos d ∷ f ∷ []) (var 0 ⊗ var 1 ⊗ var 2) (var 0 ⊗ (var 1 ⊗ var 2)) tt) (le_scale w (pos d *ℤ f) h (floor_at_most h d z)))
    (high (pos w *ℤ h) (pos w *ℤ (h +ℤ pos 1)) (pos w *ℤ (pos d *ℤ f +ℤ pos d)) (pos (w * d) *ℤ f +ℤ pos (w * d))
    (ring (pos w ∷ h ∷ []) (var 0 ⊗ (var 1 ⊕ num (pos 1))) (var 0 ⊗ var 1 ⊕ var 0) tt)
    (le_scale w (h +ℤ pos 1) (pos d *ℤ f +ℤ pos d) (next h (pos d *ℤ f +ℤ pos d) (floor_above h d z)))
    (ring (pos w ∷ pos d ∷ f ∷ []) (var 0 ⊗ (var 1 ⊗ var 2 ⊕ var 1)) (var 0 ⊗ var 1 ⊗ var 2 ⊕ var 0 ⊗ var 1) tt))
  where
    low : (x y v : ℤ) → x ≡ y → y ≤ℤ v → x ≤ℤ (v +ℤ pos l)
    low x y v e g = omega (arith, ints, e, g)

    next : (a b : ℤ) → a <ℤ b → (a +ℤ pos 1) ≤ℤ b
    next a b g = omega (arith, ints, g)

    high : (x y v u : ℤ) → y ≡ x +ℤ pos w → y ≤ℤ v → v ≡ u → (x +ℤ pos l) <ℤ u
    high x y v u e g i = omega (arith, ints, e, g, i, p)

pub power_more : (k m : ℕ) → m ≤ k → 2 ^ m ≤ 2 ^ k
power_more k m h = pow-le-pow_right (omega arith) h

pub shifted_away : (a : ℤ) (k : ℕ) → FitsSigned w128 a → 127 < k → pos 0 ≤ℤ a → pos 0 ≡ floor_over a (2 ^ k)
shifted_away (pos n) k f h p = let g : n < 2 ^ 127 = f.sfits in ap pos (sym (div-eq_of_lt (omega (arith, g, power_more k 127 (omega (arith, h))))))
shifted_away (negsuc n) k f h p = absurd (omega (arith, ints))

pub shifted_to_one : (a : ℤ) (k : ℕ) → FitsSigned w128 a → 127 < k → a <ℤ pos 0 → negsuc 0 ≡ floor_over a (2 ^ k)
shifted_to_one (pos n) k f h p = absurd (omega (arith, ints))
shifted_to_one (negsuc n) k f h p = let g : n < 2 ^ 127 = f.sfits in ap negsuc (sym (div-eq_of_lt (omega (arith, g, power_more k 127 (omega (arith, h))))))

pub rest_below : (a : ℤ) (d : ℕ) → 0 < d → rest_over a d < d
rest_below a d z = by (pos d *ℤ floor_over a d) (floor_at_most a d z) (floor_above a d z)
  where
    by : (m : ℤ) → m ≤ℤ a → a <ℤ (m +ℤ pos d) → nat_abs (a -ℤ m) < d
    by m g h = omega (arith, ints, g, h)

quotient_below : (n d e : ℕ) → 0 < d → n < d * e → n / d < e
quotient_below n d e z h = ⊎_elim (λ (l : n / d < e). l) (λ (l : e ≤ n / d). absurd (omega (arith, h, z, mul-le-mul_left d l))) (cases_lt (n / d) e)

-- the rest of x e, where d e is the least number that does not fit
rest_up : (d e x q r : ℕ) → x ≡ q * d + r → r < d → 0 < e → (x * e) % (d * e) ≡ r * e
rest_up d e x q r i h z =
    let spread : x * e ≡ q * (d * e) + r * e = ap (λ (n : ℕ). n * e) i ∙ omega arith in
    ap (λ (n : ℕ). n % (d * e)) spread ∙ mod-mul-add q (d * e) (r * e) (omega (arith, z, mul-le-mul_left e (suc_le h)))
  where
    suc_le : r < d → r + 1 ≤ d
    suc_le h = omega (arith, h)

turned : (n d e s : ℕ) → d * e ≡ s → 0 < d → n < s → s - suc n ≡ (e - 1 - n / d) * d + (d - 1 - n % d)
turned n d e s i z h =
    let below : n / d < e = quotient_below n d e z (omega (arith, h, i)) in
    by (e - 1 - n / d) (n / d) (n % d) (omega (arith, below)) (omega (arith, z)) (omega (arith, z))
  where
    by : (m q r : ℕ) → e ≡ m + 1 + q → n ≡ q * d + r → r < d → s - suc n ≡ m * d + (d - 1 - r)
    by m q r f g k =
        let spread : s ≡ m * d + d + q * d = sym i ∙ ap (λ (x : ℕ). d * x) f ∙ omega arith in
        omega (arith, spread, g, k)

pub rest_of_bits : (a : ℤ) (d e : ℕ) → FitsSigned w128 a → d * e ≡ 2 ^ 128 → 0 < d → 0 < e → (of_z w128 a * e) % (d * e) ≡ rest_over a d * e
rest_of_bits (pos n) d e f i z y = rest_up d e n (n / d) (n % d) (omega (arith, z)) (omega (arith, z)) y ∙ ap (λ (r : ℕ). r * e) (omega (arith, ints, z))
rest_of_bits (negsuc n) d e f i z y =
    let g : n < 2 ^ 127 = f.sfits in
    rest_up d e (2 ^ 128 - suc n) (e - 1 - n / d) (d - 1 - n % d) (turned n d e (2 ^ 128) i z (omega (arith, g))) (omega (arith, z)) y ∙ ap (λ (r : ℕ). r * e) (omega (arith, ints, z))

pub powers_join : (k : ℕ) → k < 128 → 2 ^ k * 2 ^ (128 - k) ≡ 2 ^ 128
powers_join k h =
    let whole : k + (128 - k) ≡ 128 = omega (arith, h) in
    sym (pow-add 2 k (128 - k)) ∙ ap (λ (n : ℕ). 2 ^ n) whole

pub power_positive : (k : ℕ) → 0 < 2 ^ k
power_positive k = omega (arith, power_more k 0 (omega arith))

pub shifted_out_is : (a : ℤ) (k n : ℕ) → FitsSigned w128 a → k < 128 → n ≡ of_z w128 (to_z w128 (of_z w128 a)) → (n * 2 ^ (128 - k)) % 2 ^ 128 ≡ rest_over a (2 ^ k) * 2 ^ (128 - k)
shifted_out_is a k n f h e =
    ap₂ (λ (x m : ℕ). (x * 2 ^ (128 - k)) % m) (e ∙ ap (of_z w128) (to_z-of_z w128 a f)) (sym (powers_join k h)) ∙ rest_of_bits a (2 ^ k) (2 ^ (128 - k)) f (powers_join k h) (power_positive k) (power_positive (128 - k))

pub shift_in_fits : (a : ℤ) (k l r : ℕ) → k < 128 → l < 2 ^ 128 → r ≡ rest_over a (2 ^ k) * 2 ^ (128 - k) → r + l / 2 ^ k < 2 ^ 128
shift_in_fits a k l r h p e =
    let below : l < 2 ^ k * 2 ^ (128 - k) = subst (λ (n : ℕ). l < n) (sym (powers_join k h)) p in
    let q : l / 2 ^ k < 2 ^ (128 - k) = quotient_below l (2 ^ k) (2 ^ (128 - k)) (power_positive k) below in
    let both = mul-add-lt (rest_over a (2 ^ k)) (2 ^ (128 - k)) (l / 2 ^ k) (2 ^ k) (rest_below a (2 ^ k) (power_positive k)) q in
    by (rest_over a (2 ^ k) * 2 ^ (128 - k)) (l / 2 ^ k) (2 ^ (128 - k) * 2 ^ k) e both (product_swap (2 ^ (128 - k)) (2 ^ k) ∙ powers_join k h)
  where
    by : (x y z : ℕ) → r ≡ x → x + y < z → z ≡ 2 ^ 128 → r + y < 2 ^ 128
    by x y z f g i = omega (arith, f, g, i)

    product_swap : (x y : ℕ) → x * y ≡ y * x
    product_swap x y = omega arith

pub shift_small : (v h f : ℤ) (l k r n : ℕ) → k < 128 → FitsSigned w128 h → FitsSigned w128 f → pos (2 ^ 128) *ℤ h +ℤ pos l ≡ v → f ≡ floor_over (to_z w128 (of_z w128 h)) (2 ^ k) → r ≡ rest_over (to_z w128 (of_z w128 h)) (2 ^ k) * 2 ^ (128 - k) → n ≡ r + l / 2 ^ k
    → pos (2 ^ 128) *ℤ to_z w128 (of_z w128 f) +ℤ pos n ≡ floor_over v (2 ^ k)
shift_small v h f l k r n less hf ff view ef er en =
    let read = to_z-of_z w128 h hf in
    let d : ℕ = 2 ^ k in
    let e : ℕ = 2 ^ (128 - k) in
    let whole : d * e ≡ 2 ^ 128 = powers_join k less in
    let floor : to_z w128 (of_z w128 f) ≡ floor_over h d = to_z-of_z w128 f ff ∙ ef ∙ ap (λ (z : ℤ). floor_over z d) read in
    let tail : n ≡ rest_over h d * e + l / d = en ∙ ap (λ (x : ℕ). x + l / d) (er ∙ ap (λ (z : ℤ). rest_over z d * e) read) in
    ap₂ (λ (z : ℤ) (x : ℕ). pos (2 ^ 128) *ℤ z +ℤ pos x) floor tail
    ∙ ap (λ (w : ℕ). pos w *ℤ floor_over h d +ℤ pos (rest_over h d * e + l / d)) (sym whole)
    ∙ sym (floor_joined d e (floor_over h d) (rest_over h d) l (power_positive k))
    ∙ ap₂ (λ (w : ℕ) (z : ℤ). floor_over (pos w *ℤ z +ℤ pos l) d) whole (sym (split h d (power_positive k)))
    ∙ ap (λ (z : ℤ). floor_over z d) view

pub shift_great : (v h f g : ℤ) (l k : ℕ) → 128 ≤ k → FitsSigned w128 h → FitsSigned w128 f → l < 2 ^ 128 → pos (2 ^ 128) *ℤ h +ℤ pos l ≡ v → f ≡ floor_over (to_z w128 (of_z w128 h)) (2 ^ (k - 128)) → g ≡ to_z w128 (of_z w128 f) → g ≡ floor_over v (2 ^ k)
shift_great v h f g l k more hf ff below view ef eg =
    let apart : 128 + (k - 128) ≡ k = omega (arith, more) in
    let whole : 2 ^ 128 * 2 ^ (k - 128) ≡ 2 ^ k = sym (pow-add 2 128 (k - 128)) ∙ ap (λ (n : ℕ). 2 ^ n) apart in
    eg ∙ to_z-of_z w128 f ff ∙ ef ∙ ap (λ (z : ℤ). floor_over z (2 ^ (k - 128))) (to_z-of_z w128 h hf)
    ∙ sym (floor_above_half (2 ^ 128) (2 ^ (k - 128)) h l (power_positive (k - 128)) below)
    ∙ ap₂ (λ (z : ℤ) (d : ℕ). floor_over z d) view whole

pub power_read : (k : ℕ) → k ≤ 126 → to_z w128 (1 * 2 ^ k % 2 ^ 128) ≡ pos (2 ^ k)
power_read k h =
    let small : 2 ^ k < 2 ^ 127 = omega (arith, power_more 126 k h) in
    let fits : FitsSigned w128 (pos (2 ^ k)) = record { sfits = small } in
    let one : 1 * 2 ^ k ≡ 2 ^ k = omega arith in
    ap (λ (n : ℕ). to_z w128 (n % 2 ^ 128)) one ∙ ap (to_z w128) (mod-eq_of_lt (omega (arith, small))) ∙ to_z-of_z w128 (pos (2 ^ k)) fits

pos_times : (a b : ℕ) → pos a *ℤ pos b ≡ pos (a * b)
pos_times a b = refl

neg_times : (a b : ℕ) → negsuc a *ℤ pos b ≡ neg_ℤ (pos (suc a * b))
neg_times a b = refl

absent_from : (z : ℤ) → (FitsSigned w128 z → ⊥) → None ≡ held_wide 127 z
absent_from z h = by (fits_wide 127 z) refl
  where
    by : (t : Bool) → fits_wide 127 z ≡ t → None ≡ cond t (Some z) None
    by true e = absurd (h (fits_read z e))
    by false e = refl

too_great : (n : ℕ) → 2 ^ 127 ≤ n → FitsSigned w128 (pos n) → ⊥
too_great n h f = let g : n < 2 ^ 127 = f.sfits in absurd (omega (arith, g))

too_small : (n : ℕ) → 2 ^ 127 < n → FitsSigned w128 (neg_ℤ (pos n)) → ⊥
too_small zero h f = absurd (omega arith)
too_small (suc n) h f = let g : n < 2 ^ 127 = f.sfits in absurd (omega (arith, g))

pub up_absent : (v : ℤ) (k : ℕ) → 126 < k → (of_z w128 v ≡ 0 → ⊥) → ((k ≡ 127) × (of_z w128 v ≡ 2 ^ 128 - 1 → ⊥)) ⊎ (k ≡ 127 → ⊥) → None ≡ held_wide 127 (v *ℤ pos (2 ^ k))
up_absent (pos zero) k h a b = absurd (a refl)
up_absent (pos (suc n)) k h a b = rw (pos_times (suc n) (2 ^ k)) (absent_from (pos (suc n * 2 ^ k)) (too_great (suc n * 2 ^ k) (omega (arith, power_more k 127 h))))
up_absent (negsuc zero) k h a b = ⊎_elim (λ (p : (k ≡ 127) × (of_z w128 (negsuc zero) ≡ 2 ^ 128 - 1 → ⊥)). absurd (p.1 refl)) (λ (p : k ≡ 127 → ⊥). rw (neg_times 0 (2 ^ k)) (absent_from (neg_ℤ (pos (suc 0 * 2 ^ k))) (too_small (suc 0 * 2 ^ k) (omega (arith, power_more k 128 (omega (arith, p))))))) b
up_absent (negsuc (suc n)) k h a b = rw (neg_times (suc n) (2 ^ k)) (absent_from (neg_ℤ (pos (suc (suc n) * 2 ^ k))) (too_small (suc (suc n) * 2 ^ k) (omega (arith, power_more k 127 h))))

-- all of it in the upper half
pub shifted_high : (v : ℤ) (k : ℕ) → 126 < k → (k ≡ 127 → ⊥) → v *ℤ pos (2 ^ k) ≡ pos (2 ^ 128) *ℤ (v *ℤ pos (2 ^ (k - 128))) +ℤ pos 0
shifted_high v k h other =
    let apart : 128 + (k - 128) ≡ k = omega (arith, h, other) in
    let whole : 2 ^ k ≡ 2 ^ 128 * 2 ^ (k - 128) = ap (λ (n : ℕ). 2 ^ n) (sym apart) ∙ pow-add 2 128 (k - 128) in
    ap (λ (n : ℕ). v *ℤ pos n) whole ∙ ring (v ∷ pos (2 ^ 128) ∷ pos (2 ^ (k - 128)) ∷ []) (var 0 ⊗ (var 1 ⊗ var 2)) (var 1 ⊗ (var 0 ⊗ var 2) ⊕ num (pos 0)) tt
