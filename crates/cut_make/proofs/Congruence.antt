-- Sums of products modulo 2^128.
use Rattle.std.proofs.Common.{◌≡◌, ℕ, ◌+◌, ◌-◌, ◌^◌, ◌<◌, ◌≤◌, ℤ, pos, ◌+ℤ◌, ◌*ℤ◌, ◌≤ℤ◌, List, length, take, get_or, SFits, w64, to_z, of_z, take_all, arith, ap, sym, ◌∙◌}
use Rattle.std.proofs.lemmas.Int.{ints, to_z-of_z, fits_signed_from_abs, int_wrap_fits, int_wrap-add_left, int_wrap-add_right, int_wrap-mul_left, int_wrap-mul_right}
use Rattle.std.specs.Int.{int_wrap}
use mir.Syntax.{w128}
use Rattle.base_num.specs.Sums.{total}
use Rattle.base_num.proofs.Fronts.{total_more}
use Rattle.theory.specs.Size.{magnitude}
use Rattle.cut_make.specs.Congruent.{Congruent}

pub same_add : (a b x y : ℤ) → Congruent a x → Congruent b y → Congruent (a +ℤ b) (x +ℤ y)
same_add a b x y e f =
    sym (int_wrap-add_left w128 a b) ∙ ap (λ z. int_wrap w128 (z +ℤ b)) e ∙ int_wrap-add_left w128 x b
    ∙ sym (int_wrap-add_right w128 x b) ∙ ap (λ z. int_wrap w128 (x +ℤ z)) f ∙ int_wrap-add_right w128 x y

pub same_times : (a b x y : ℤ) → Congruent a x → Congruent b y → Congruent (a *ℤ b) (x *ℤ y)
same_times a b x y e f =
    sym (int_wrap-mul_left w128 a b) ∙ ap (λ z. int_wrap w128 (z *ℤ b)) e ∙ int_wrap-mul_left w128 x b
    ∙ sym (int_wrap-mul_right w128 x b) ∙ ap (λ z. int_wrap w128 (x *ℤ z)) f ∙ int_wrap-mul_right w128 x y

-- numbers in range that are congruent are the same
pub exact : (a x : ℤ) → SFits w128 a → SFits w128 x → Congruent a x → a ≡ x
exact a x f g e = sym (int_wrap_fits w128 a f) ∙ e ∙ int_wrap_fits w128 x g

pub in_range : (z : ℤ) → magnitude z ≤ℤ pos (2 ^ 127 - 1) → SFits w128 z
in_range z h = fits_signed_from_abs w128 z (omega (arith, ints))

-- a sum with one summand more
pub sum_step : {A : Type 0} (f : A → ℤ) (xs : List A) (i : ℕ) (d : A) (s t z : ℤ) → i < length xs → Congruent s (total f (take i xs)) → Congruent t (s +ℤ z) → Congruent z (f (get_or xs i d)) → Congruent t (total f (take (i + 1) xs))
sum_step f xs i d s t z h e n k = n ∙ same_add s z (total f (take i xs)) (f (get_or xs i d)) e k ∙ ap (int_wrap w128) (sym (total_more f xs i d h))

pub sum_all : {A : Type 0} (f : A → ℤ) (xs : List A) (i : ℕ) (s : ℤ) → length xs ≤ i → Congruent s (total f (take i xs)) → Congruent s (total f xs)
sum_all f xs i s h e = e ∙ ap (λ ys. int_wrap w128 (total f ys)) (take_all i xs h)

-- a number of 128 bits, as it is read
pub same_read : (z : ℤ) → SFits w128 z → Congruent (to_z w128 (of_z w128 z)) z
same_read z f = ap (int_wrap w128) (to_z-of_z w128 z f)

-- a number of 64 bits in 128
pub same_wide : (r z : ℤ) → SFits w128 r → SFits w64 z → r ≡ to_z w64 (of_z w64 z) → Congruent (to_z w128 (of_z w128 r)) z
same_wide r z f g e = ap (int_wrap w128) (to_z-of_z w128 r f ∙ e ∙ to_z-of_z w64 z g)
