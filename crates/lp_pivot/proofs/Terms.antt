-- One summand more in a running sum.
use Rattle.std.proofs.Common.{◌≡◌, ◌∙◌, ℕ, ◌+◌, ◌*◌, ◌<◌, ◌≤◌, ℤ, pos, ◌*ℤ◌, nat_abs, List, length, get_or, All, arith, ap, ap₂}
use Rattle.std.proofs.lemmas.List.{get_or_default}
use Rattle.base_num.specs.Sums.{entry}

pub term_read : (terms : List (ℕ × ℤ)) (x : List ℤ) (k : ℕ) (r s : ℕ × ℤ) (y : ℤ) → k < length terms → All (λ (t : ℕ × ℤ). t.0 < length x) terms → y ≡ get_or x (get_or terms k s).0 y → (get_or terms k r).1 *ℤ y ≡ (get_or terms k (0, pos 0)).1 *ℤ entry x (get_or terms k (0, pos 0)).0
term_read terms x k r s y h inside e =
    ap₂ (λ (t : ℕ × ℤ) (z : ℤ). t.1 *ℤ z) (get_or_default terms k r (0, pos 0) h)
    (e ∙ get_or_default x (get_or terms k s).0 y (pos 0) (inside k s h) ∙ ap (λ (t : ℕ × ℤ). entry x t.0) (get_or_default terms k s (0, pos 0) h))

pub small_step : (p s t : ℤ) (k b : ℕ) → nat_abs p ≤ nat_abs s + nat_abs t → nat_abs s ≤ k * b → nat_abs t ≤ b → nat_abs p ≤ (k + 1) * b
small_step p s t k b h i j = omega (arith, h, i, j)
