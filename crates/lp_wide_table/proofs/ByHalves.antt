-- Numbers by their halves.
use Rattle.std.proofs.Common.{◌≡◌, ℕ, ◌+◌, ◌-◌, ◌*◌, ◌/◌, ◌%◌, ◌^◌, ◌<◌, ◌≤◌, ℤ, pos, negsuc, ◌+ℤ◌, ◌-ℤ◌, ◌*ℤ◌, ◌≤ℤ◌, ◌<ℤ◌, nat_abs, nat_lt, int_lt, SFits, to_z, of_z, ⊎_elim, eqb, Bool, true, false, cond, Some, None, [], ◌∷◌, arith, refl, ap, ap₂, sym, ◌∙◌}
use Rattle.std.specs.Int.{from_bool}
use mir.Syntax.{w64, w128}
use Rattle.std.proofs.lemmas.Bool.{cases_lt}
use Rattle.std.proofs.lemmas.Int.{ints, to_z-of_z, by_lt_z}
use Rattle.std.proofs.lemmas.Bool.Decides.{nat_tests}
use Rattle.base_num.specs.Sums.{floor_over}
use Rattle.base_num.proofs.Ring.{ring, var, num, ◌⊕◌, ◌⊗◌}
use Rattle.base_num.proofs.Order.{floor_at_most}
use Rattle.lp_wide_table.specs.WideWhole.{fits_wide, held_wide, rest_over}
use Rattle.lp_wide_table.proofs.Held.{less_true, less_false, fits_read, some_same}

-- a number is its multiple and its rest
pub split : (a : ℤ) (d : ℕ) → 0 < d → a ≡ pos d *ℤ floor_over a d +ℤ pos (rest_over a d)
split a d p = by (pos d *ℤ floor_over a d) (floor_at_most a d p)
  where
    by : (m : ℤ) → m ≤ℤ a → a ≡ m +ℤ pos (nat_abs (a -ℤ m))
    by m h = omega (arith, ints)

-- products by halves
expand : (x y z w : ℤ) → (pos (2 ^ 64) *ℤ x +ℤ y) *ℤ (pos (2 ^ 64) *ℤ z +ℤ w) ≡ pos (2 ^ 128) *ℤ (x *ℤ z) +ℤ pos (2 ^ 64) *ℤ (x *ℤ w) +ℤ pos (2 ^ 64) *ℤ (z *ℤ y) +ℤ y *ℤ w
expand x y z w = ring (x ∷ y ∷ z ∷ w ∷ []) ((num (pos (2 ^ 64)) ⊗ var 0 ⊕ var 1) ⊗ (num (pos (2 ^ 64)) ⊗ var 2 ⊕ var 3)) (num (pos (2 ^ 128)) ⊗ (var 0 ⊗ var 2) ⊕ num (pos (2 ^ 64)) ⊗ (var 0 ⊗ var 3) ⊕ num (pos (2 ^ 64)) ⊗ (var 2 ⊗ var 1) ⊕ var 1 ⊗ var 3) tt

gather : (p q r first second f s high : ℤ) (t g u low : ℕ) → first ≡ q +ℤ pos (t / 2 ^ 64) → second ≡ r +ℤ pos g → first ≡ pos (2 ^ 64) *ℤ f +ℤ pos g → second ≡ pos (2 ^ 64) *ℤ s +ℤ pos u → high ≡ p +ℤ f +ℤ s → low ≡ u * 2 ^ 64 + t % 2 ^ 64
    → pos (2 ^ 128) *ℤ high +ℤ pos low ≡ pos (2 ^ 128) *ℤ p +ℤ pos (2 ^ 64) *ℤ q +ℤ pos (2 ^ 64) *ℤ r +ℤ pos t
gather p q r first second f s high t g u low e₁ e₂ e₃ e₄ e₅ e₆ = omega (arith, ints, e₁, e₂, e₃, e₄, e₅, e₆)

pub product_is : (a b x z first second f s high : ℤ) (y w t g u low : ℕ) → a ≡ pos (2 ^ 64) *ℤ x +ℤ pos y → b ≡ pos (2 ^ 64) *ℤ z +ℤ pos w → t ≡ y * w → first ≡ x *ℤ pos w +ℤ pos (t / 2 ^ 64) → second ≡ z *ℤ pos y +ℤ pos g → first ≡ pos (2 ^ 64) *ℤ f +ℤ pos g → second ≡ pos (2 ^ 64) *ℤ s +ℤ pos u → high ≡ x *ℤ z +ℤ f +ℤ s → low ≡ u * 2 ^ 64 + t % 2 ^ 64
    → pos (2 ^ 128) *ℤ high +ℤ pos low ≡ a *ℤ b
product_is a b x z first second f s high y w t g u low ea eb et e₁ e₂ e₃ e₄ e₅ e₆ =
    gather (x *ℤ z) (x *ℤ pos w) (z *ℤ pos y) first second f s high t g u low e₁ e₂ e₃ e₄ e₅ e₆
    ∙ ap (λ (n : ℕ). pos (2 ^ 128) *ℤ (x *ℤ z) +ℤ pos (2 ^ 64) *ℤ (x *ℤ pos w) +ℤ pos (2 ^ 64) *ℤ (z *ℤ pos y) +ℤ pos n) et
    ∙ sym (expand x (pos y) z (pos w)) ∙ ap (λ (k : ℤ). k *ℤ (pos (2 ^ 64) *ℤ z +ℤ pos w)) (sym ea) ∙ ap (λ (k : ℤ). a *ℤ k) (sym eb)

-- by the halves as they are read
pub halved : (a x : ℤ) (y : ℕ) → SFits w128 a → x ≡ floor_over (to_z w128 (of_z w128 a)) (2 ^ 64) → y ≡ rest_over (to_z w128 (of_z w128 a)) (2 ^ 64) → a ≡ pos (2 ^ 64) *ℤ x +ℤ pos y
halved a x y f e g =
    let r = to_z-of_z w128 a f in
    split a (2 ^ 64) (omega arith) ∙ ap₂ (λ (m : ℤ) (n : ℕ). pos (2 ^ 64) *ℤ m +ℤ pos n) (sym (e ∙ ap (λ (k : ℤ). floor_over k (2 ^ 64)) r)) (sym (g ∙ ap (λ (k : ℤ). rest_over k (2 ^ 64)) r))

pub crossed : (p x : ℤ) (w m n : ℕ) → SFits w64 x → p ≡ to_z w64 (of_z w64 x) *ℤ pos w +ℤ pos m → m ≡ n → p ≡ x *ℤ pos w +ℤ pos n
crossed p x w m n f e g = e ∙ ap₂ (λ (k : ℤ) (l : ℕ). k *ℤ pos w +ℤ pos l) (to_z-of_z w64 x f) g

pub topped : (high top x z f s : ℤ) → SFits w128 top → SFits w64 x → SFits w64 z → SFits w64 f → SFits w64 s → top ≡ to_z w64 (of_z w64 x) *ℤ to_z w64 (of_z w64 z) → high ≡ to_z w128 (of_z w128 top) +ℤ to_z w64 (of_z w64 f) +ℤ to_z w64 (of_z w64 s) → high ≡ x *ℤ z +ℤ f +ℤ s
topped high top x z f s ft fx fz ff fs e g =
    g ∙ ap₂ (λ (m n : ℤ). m +ℤ n) (ap₂ (λ (m n : ℤ). m +ℤ n) (to_z-of_z w128 top ft ∙ e ∙ ap₂ (λ (m n : ℤ). m *ℤ n) (to_z-of_z w64 x fx) (to_z-of_z w64 z fz)) (to_z-of_z w64 f ff)) (to_z-of_z w64 s fs)

-- the upper half alone decides whether a number is held
lt_same : (m n p q : ℕ) → (m < n → p < q) → (p < q → m < n) → nat_lt m n ≡ nat_lt p q
lt_same m n p q f g = ⊎_elim (λ (h : p < q). less_true m n (g h) ∙ sym (less_true p q h)) (λ (h : q ≤ p). less_false m n (⊎_elim (λ (k : m < n). absurd (omega (arith, h, f k))) (λ (k : n ≤ m). k) (cases_lt m n)) ∙ sym (less_false p q h)) (cases_lt p q)

below_zero : (n l : ℕ) → l < 2 ^ 128 → pos (2 ^ 128) *ℤ negsuc n +ℤ pos l ≡ negsuc (2 ^ 128 * n + (2 ^ 128 - 1 - l))
below_zero n l h = omega (arith, ints, h)

pub fits_up : (h : ℤ) (l : ℕ) → l < 2 ^ 128 → fits_wide 255 (pos (2 ^ 128) *ℤ h +ℤ pos l) ≡ fits_wide 127 h
fits_up (pos n) l h = lt_same (2 ^ 128 * n + l) (2 ^ 255) n (2 ^ 127) (λ p. omega (arith, p, h)) (λ p. omega (arith, p, h))
fits_up (negsuc n) l h = ap (fits_wide 255) (below_zero n l h) ∙ lt_same (2 ^ 128 * n + (2 ^ 128 - 1 - l)) (2 ^ 255) n (2 ^ 127) (λ p. omega (arith, p, h)) (λ p. omega (arith, p, h))

-- a result of two halves
pub some_up : (h s z : ℤ) (l : ℕ) → l < 2 ^ 128 → z ≡ pos (2 ^ 128) *ℤ s +ℤ pos l → Some h ≡ held_wide 127 s → Some (pos (2 ^ 128) *ℤ to_z w128 (of_z w128 h) +ℤ pos l) ≡ held_wide 255 z
some_up h s z l p e i = by (fits_wide 127 s) refl i
  where
    by : (t : Bool) → fits_wide 127 s ≡ t → Some h ≡ cond t (Some s) None → Some (pos (2 ^ 128) *ℤ to_z w128 (of_z w128 h) +ℤ pos l) ≡ held_wide 255 z
    by true k j =
        let same : h ≡ s = some_same j in
        let read : to_z w128 (of_z w128 h) ≡ s = to_z-of_z w128 h (fits_read h (ap (fits_wide 127) same ∙ k)) ∙ same in
        rw (ap (fits_wide 255) e ∙ fits_up s l p ∙ k) (ap Some (ap (λ (n : ℤ). pos (2 ^ 128) *ℤ n +ℤ pos l) read ∙ sym e))
    by false k j = absurd (cc)

pub none_up : (s z : ℤ) (l : ℕ) → l < 2 ^ 128 → z ≡ pos (2 ^ 128) *ℤ s +ℤ pos l → None ≡ held_wide 127 s → None ≡ held_wide 255 z
none_up s z l p e i = by (fits_wide 127 s) refl i
  where
    by : (t : Bool) → fits_wide 127 s ≡ t → None ≡ cond t (Some s) None → None ≡ held_wide 255 z
    by true k j = absurd (cc)
    by false k j = rw (ap (fits_wide 255) e ∙ fits_up s l p ∙ k) refl

pub sum_by_halves : (x y h k : ℤ) (l m n : ℕ) (carry : Bool) → pos (2 ^ 128) *ℤ h +ℤ pos l ≡ x → pos (2 ^ 128) *ℤ k +ℤ pos m ≡ y → n + from_bool carry * 2 ^ 128 ≡ l + m → x +ℤ y ≡ pos (2 ^ 128) *ℤ (h +ℤ k +ℤ pos (from_bool carry)) +ℤ pos n
sum_by_halves x y h k l m n carry d e f = omega (arith, ints, d, e, f)

pub difference_by_halves : (x y h k : ℤ) (l m n : ℕ) (lent : Bool) → pos (2 ^ 128) *ℤ h +ℤ pos l ≡ x → pos (2 ^ 128) *ℤ k +ℤ pos m ≡ y → n + m ≡ l + from_bool lent * 2 ^ 128 → x -ℤ y ≡ pos (2 ^ 128) *ℤ (h -ℤ k -ℤ pos (from_bool lent)) +ℤ pos n
difference_by_halves x y h k l m n lent d e f = omega (arith, ints, d, e, f)

-- the order by halves
less_in_ints : (x y : ℤ) → x <ℤ y → int_lt x y ≡ true
less_in_ints x y h = grind (arith, ints)

not_less_in_ints : (x y : ℤ) → y ≤ℤ x → int_lt x y ≡ false
not_less_in_ints x y h = grind (arith, ints)

is_less : (x y : ℤ) → int_lt x y ≡ true → x <ℤ y
is_less x y h = grind (arith, ints)

is_not_less : (x y : ℤ) → int_lt x y ≡ false → y ≤ℤ x
is_not_less x y h = grind (arith, ints)

pub less_by_high : (x y h k : ℤ) (l m : ℕ) → SFits w128 h → SFits w128 k → l < 2 ^ 128 → m < 2 ^ 128 → pos (2 ^ 128) *ℤ h +ℤ pos l ≡ x → pos (2 ^ 128) *ℤ k +ℤ pos m ≡ y → int_lt (to_z w128 (of_z w128 h)) (to_z w128 (of_z w128 k)) ≡ true → int_lt (to_z w128 (of_z w128 h)) (to_z w128 (of_z w128 k)) ≡ int_lt x y
less_by_high x y h k l m fh fk p q d e t =
    let less : h <ℤ k = is_less h k (rw (to_z-of_z w128 h fh, to_z-of_z w128 k fk) at t) in
    t ∙ sym (less_in_ints x y (omega (arith, ints, d, e, p, q, less)))

pub greater_by_high : (x y h k : ℤ) (l m : ℕ) → SFits w128 h → SFits w128 k → l < 2 ^ 128 → m < 2 ^ 128 → pos (2 ^ 128) *ℤ h +ℤ pos l ≡ x → pos (2 ^ 128) *ℤ k +ℤ pos m ≡ y → int_lt (to_z w128 (of_z w128 h)) (to_z w128 (of_z w128 k)) ≡ false → (of_z w128 h ≡ of_z w128 k → ⊥) → eqb (of_z w128 h) (of_z w128 k) ≡ int_lt x y
greater_by_high x y h k l m fh fk p q d e t other =
    let from : k ≤ℤ h = is_not_less h k (rw (to_z-of_z w128 h fh, to_z-of_z w128 k fk) at t) in
    let above : k <ℤ h = by_lt_z k h (λ r. r) (λ r. absurd (other (ap (of_z w128) (same h k r from)))) in
    not_equal ∙ sym (not_less_in_ints x y (omega (arith, ints, d, e, p, q, above)))
  where
    same : (h k : ℤ) → h ≤ℤ k → k ≤ℤ h → h ≡ k
    same h k r s = omega (arith, ints)

    not_equal : eqb (of_z w128 h) (of_z w128 k) ≡ false
    not_equal = grind (arith, nat_tests)
