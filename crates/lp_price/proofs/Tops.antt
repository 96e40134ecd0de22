-- The greatest digits of a factor, by which no shift of a ray's duals leaves 128 bits.
use Rattle.std.proofs.Common.{◌≡◌, ℕ, zero, suc, ◌+◌, ◌*◌, ◌^◌, ◌<◌, ◌≤◌, ◌==◌, ℤ, pos, negsuc, ◌+ℤ◌, ◌-ℤ◌, ◌*ℤ◌, ◌≤ℤ◌, nat_abs, int_lt, Bool, true, false, cond, List, [], ◌∷◌, length, take, Option, Some, None, arith, refl, ap, ap₂, subst, sym, ◌∙◌}
use Rattle.std.specs.Option.{IsSome}
use Rattle.std.proofs.Math.Nat.{mul-le-mul}
use Rattle.std.proofs.lemmas.Nat.{pow-add, leading_length}
use Rattle.std.proofs.lemmas.List.{length-take-le, get_or-take}
use Rattle.std.proofs.lemmas.Int.{ints, unsigned_abs-mul, fits_signed_from_abs}
use Rattle.std.proofs.lemmas.Bool.Decides.{nat_tests}
use Rattle.std.proofs.Math.IntN.{zero-*ℤ}
use mir.Syntax.{w128}
use Rattle.base_num.specs.Sums.{entry}
use Rattle.lp_table.specs.declared.table.WarmTable.{WarmTable}
use Rattle.lp_program.specs.Numbers.{held}
use Rattle.lp_table.specs.Numbers.{bits_of, shift_up, shift_of}
use Rattle.lp_program.proofs.Numbers.{fits-true}
use Rattle.lp_table.proofs.Powers.{power_more}
use Rattle.lp_price.specs.Ray.{greater, with_digits, greatest_from, ray_factor_at, top_of_factors}

not_below : (b x : ℤ) → b ≤ℤ greater (Some b) x
not_below b x = by (int_lt b x) refl
  where
    by : (t : Bool) → int_lt b x ≡ t → b ≤ℤ cond t x b
    by true e = omega (arith, ints)
    by false e = omega (arith, ints)

taken_at_least : (b x : ℤ) → x ≤ℤ greater (Some b) x
taken_at_least b x = by (int_lt b x) refl
  where
    by : (t : Bool) → int_lt b x ≡ t → x ≤ℤ cond t x b
    by true e = omega (arith, ints)
    by false e = omega (arith, ints)

is_not_zero : (d : ℕ) → (d ≡ 0 → ⊥) → (d == 0) ≡ false
is_not_zero d h = grind (arith, nat_tests)

-- the greatest so far does not fall
kept : (b : ℤ) (d : ℕ) (e : ℤ) → (c : ℤ) × (with_digits (Some b) d e ≡ Some c) × (b ≤ℤ c)
kept b d e = by (d == 0)
  where
    by : (t : Bool) → (c : ℤ) × (cond t (Some b) (Some (greater (Some b) (pos d +ℤ e))) ≡ Some c) × (b ≤ℤ c)
    by true = (b, refl, omega (arith, ints))
    by false = (greater (Some b) (pos d +ℤ e), refl, not_below b (pos d +ℤ e))

taken : (best : Option ℤ) (d : ℕ) (e : ℤ) → (d ≡ 0 → ⊥) → (c : ℤ) × (with_digits best d e ≡ Some c) × ((pos d +ℤ e) ≤ℤ c)
taken None d e h = (pos d +ℤ e, ap (λ (t : Bool). cond t None (Some (pos d +ℤ e))) (is_not_zero d h), omega (arith, ints))
taken (Some b) d e h = (greater (Some b) (pos d +ℤ e), ap (λ (t : Bool). cond t (Some b) (Some (greater (Some b) (pos d +ℤ e)))) (is_not_zero d h), taken_at_least b (pos d +ℤ e))

-- the greatest is at least x
abbrev Reached : ℤ → Option ℤ → Type 0
Reached x None = ⊥
Reached x (Some c) = x ≤ℤ c

module _ (t : WarmTable) (line : List ℤ) (v : ℕ) (above : Bool) where
  abbrev digits : ℕ → ℕ
  digits i = bits_of (ray_factor_at t line v above i)

  keeps : (es : List ℤ) (k : ℕ) (x b : ℤ) → x ≤ℤ b → Reached x (greatest_from t line v above k (Some b) es)
  keeps [] k x b h = h
  keeps (e ∷ es) k x b h =
      let p = kept b (digits k) e in
      subst (λ (o : Option ℤ). Reached x (greatest_from t line v above (suc k) o es)) (sym p.1) (keeps es (suc k) x p.0 (omega (arith, ints, p.2, h)))

  most : (es : List ℤ) (k i : ℕ) (best : Option ℤ) → i < length es → (digits (k + i) ≡ 0 → ⊥) → Reached (pos (digits (k + i)) +ℤ entry es i) (greatest_from t line v above k best es)
  most [] k i best h n = absurd (omega arith)
  most (e ∷ es) k zero best h n =
      let here : k + 0 ≡ k = omega arith in
      let p = taken best (digits (k + 0)) e n in
      let q : with_digits best (digits k) e ≡ Some p.0 = ap (λ (j : ℕ). with_digits best (digits j) e) (sym here) ∙ p.1 in
      subst (λ (o : Option ℤ). Reached (pos (digits (k + 0)) +ℤ e) (greatest_from t line v above (suc k) o es)) (sym q) (keeps es (suc k) (pos (digits (k + 0)) +ℤ e) p.0 p.2)
  most (e ∷ es) k (suc i) best h n =
      let next : suc k + i ≡ k + suc i = omega arith in
      subst (λ (j : ℕ). Reached (pos (digits j) +ℤ entry es i) (greatest_from t line v above (suc k) (with_digits best (digits k) e) es)) next
      (most es (suc k) i (with_digits best (digits k) e) (omega arith) (λ z. n (ap digits (sym next) ∙ z)))

  -- no factor of the first rows has more digits
  pub top_most : (own i : ℕ) (top : ℤ) → i < length (take own t.scales.rows) → Some top ≡ top_of_factors t line v above own → (digits i ≡ 0 → ⊥) → (pos (digits i) +ℤ entry (take own t.scales.rows) i) ≤ℤ top
  unfolding top_of_factors
  top_most own i top h e n =
      let first : 0 + i ≡ i = omega arith in
      subst (λ (j : ℕ). (pos (digits j) +ℤ entry (take own t.scales.rows) i) ≤ℤ top) first
      (subst (Reached (pos (digits (0 + i)) +ℤ entry (take own t.scales.rows) i)) (sym e) (most (take own t.scales.rows) 0 i None h (λ z. n (ap digits (sym first) ∙ z))))

-- |v| < 2^d, d its digits
digits_hold : (v : ℤ) → nat_abs v < 2 ^ 128 → nat_abs v < 2 ^ bits_of v
digits_hold v h =
    let l = leading_length 128 (nat_abs v) h in
    let e : bits_of v ≡ l.0 = omega (arith, l.1) in
    subst (λ (m : ℕ). nat_abs v < 2 ^ m) (sym e) l.2

is_there : (z : ℤ) → nat_abs z < 2 ^ 127 → IsSome (held z)
is_there z h = rw (fits-true z (fits_signed_from_abs w128 z h)) refl

-- a factor of d digits, times a power of two that leaves it no more than 60, is held
up_there : (v : ℤ) (m : ℕ) → nat_abs v < 2 ^ 128 → (bits_of v ≡ 0 → ⊥) → bits_of v + m ≤ 60 → IsSome (shift_up v m)
unfolding shift_up
up_there v m h n s =
    let p : nat_abs (v *ℤ pos (2 ^ m)) ≤ 2 ^ bits_of v * 2 ^ m = subst (λ (x : ℕ). x ≤ 2 ^ bits_of v * 2 ^ m) (sym (unsigned_abs-mul v (pos (2 ^ m)))) (mul-le-mul (omega (arith, digits_hold v h)) (omega arith)) in
    let q : 2 ^ bits_of v * 2 ^ m ≤ 2 ^ 60 = subst (λ (x : ℕ). x ≤ 2 ^ 60) (pow-add 2 (bits_of v) m) (power_more 60 (bits_of v + m) s) in
    is_there (v *ℤ pos (2 ^ m)) (omega (arith, p, q))

shift_there : (x k : ℤ) → nat_abs x < 2 ^ 128 → (bits_of x ≡ 0 → ⊥) → (pos (bits_of x) +ℤ k) ≤ℤ pos 60 → IsSome (shift_of x k)
shift_there x (pos m) h n s = up_there x m h n (omega (arith, ints, s))
shift_there x (negsuc m) h n s = refl

zero_there : (k : ℤ) → IsSome (shift_of (pos 0) k)
unfolding shift_up
zero_there (pos m) = subst (λ (z : ℤ). IsSome (held z)) (sym (zero-*ℤ (pos (2 ^ m)))) refl
zero_there (negsuc m) = refl

only_zero : (x : ℤ) → nat_abs x < 1 → x ≡ pos 0
only_zero (pos n) h = ap pos (omega arith)
only_zero (negsuc n) h = absurd (omega arith)

-- no shift of a factor stops
pub never_stops : (t : WarmTable) (line : List ℤ) (v : ℕ) (above : Bool) (own i : ℕ) (top : ℤ) → i < own → own ≤ length t.scales.rows → Some top ≡ top_of_factors t line v above own → nat_abs (ray_factor_at t line v above i) < 2 ^ 60 → IsSome (shift_of (ray_factor_at t line v above i) ((entry t.scales.rows i +ℤ pos 60) -ℤ top))
never_stops t line v above own i top h l w s = by (bits_of (ray_factor_at t line v above i)) refl
  where
    x : ℤ
    x = ray_factor_at t line v above i

    by : (d : ℕ) → bits_of x ≡ d → IsSome (shift_of x ((entry t.scales.rows i +ℤ pos 60) -ℤ top))
    by zero e = subst (λ (z : ℤ). IsSome (shift_of z ((entry t.scales.rows i +ℤ pos 60) -ℤ top))) (sym (only_zero x (subst (λ (m : ℕ). nat_abs x < 2 ^ m) e (digits_hold x (omega (arith, s)))))) (zero_there ((entry t.scales.rows i +ℤ pos 60) -ℤ top))
    by (suc d) e =
        let n : bits_of x ≡ 0 → ⊥ = λ z. absurd (omega (arith, e, z)) in
        let inside : i < length (take own t.scales.rows) = omega (arith, h, l, length-take-le own t.scales.rows l) in
        let m : (pos (bits_of x) +ℤ entry t.scales.rows i) ≤ℤ top = subst (λ (z : ℤ). (pos (bits_of x) +ℤ z) ≤ℤ top) (get_or-take own t.scales.rows i (pos 0) h) (top_most t line v above own i top inside w n) in
        shift_there x ((entry t.scales.rows i +ℤ pos 60) -ℤ top) (omega (arith, s)) n (omega (arith, ints, m))

pub there_by : (t : WarmTable) (line : List ℤ) (v : ℕ) (above : Bool) (own i : ℕ) (r : Option ℤ) (x k top : ℤ) → i < own → own ≤ length t.scales.rows → nat_abs x < 2 ^ 60 → x ≡ ray_factor_at t line v above i → k ≡ ((entry t.scales.rows i +ℤ pos 60) -ℤ top) → Some top ≡ top_of_factors t line v above own → r ≡ shift_of x k → IsSome r
there_by t line v above own i r x k top h l s e f g w =
    let small : nat_abs (ray_factor_at t line v above i) < 2 ^ 60 = subst (λ (z : ℤ). nat_abs z < 2 ^ 60) e s in
    subst IsSome (sym (w ∙ ap₂ shift_of e f)) (never_stops t line v above own i top h l g small)
