-- Products that stop at a greatest number, beside a least number that is no greater.
use Rattle.std.proofs.Common.{◌≡◌, ℕ, zero, suc, ◌+◌, ◌*◌, ◌<◌, ◌≤◌, min, Bool, true, false, leb, refl, ap, sym, ◌∙◌, arith}
use Rattle.std.proofs.Math.Nat.{min-eq_left, min-eq_right, mul-zero}
use Rattle.std.proofs.lemmas.Bool.{le-leb, leb-true, leb-false}

-- a number of at least T
at_least : (T M x : ℕ) → T ≤ M → leb T (min x M) ≡ leb T x
at_least T M x small = by (leb x M) refl
  where
    by : (b : Bool) → leb x M ≡ b → leb T (min x M) ≡ leb T x
    by true is = ap (leb T) (min-eq_left (leb-true x M is))
    by false is =
        let great : M < x = leb-false x M is in
        ap (leb T) (min-eq_right {n = M} {m = x} (omega (arith, great))) ∙ le-leb T M small ∙ sym (le-leb T x (omega (arith, great, small)))

-- times a number that is not 0
times : (T M x b : ℕ) → T ≤ M → leb T (min x M * b) ≡ leb T (x * b)
times T M x zero small = ap (leb T) (mul-zero (min x M) ∙ sym (mul-zero x))
times T M x (suc b) small = by (leb x M) refl
  where
    by : (d : Bool) → leb x M ≡ d → leb T (min x M * suc b) ≡ leb T (x * suc b)
    by true is = ap (λ (y : ℕ). leb T (y * suc b)) (min-eq_left (leb-true x M is))
    by false is =
        let great : M < x = leb-false x M is in
        ap (λ (y : ℕ). leb T (y * suc b)) (min-eq_right {n = M} {m = x} (omega (arith, great)))
        ∙ le-leb T (M * suc b) (grind (arith, small)) ∙ sym (le-leb T (x * suc b) (grind (arith, small, great)))

-- a product of three numbers that stop there
pub stopped_product : (T M a x c : ℕ) → T ≤ M → leb T (min (min (a * min x M) M * c) M) ≡ leb T (a * x * c)
stopped_product T M a x c small =
    at_least T M (min (a * min x M) M * c) small ∙ times T M (a * min x M) c small
    ∙ ap (leb T) (omega (arith)) ∙ times T M x (a * c) small ∙ ap (leb T) (omega (arith))
