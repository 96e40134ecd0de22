-- Lower bounds on fractions: on sums, multiples and parts.
use Rattle.std.proofs.Common.{◌≡◌, ℕ, ◌*◌, ◌<◌, ℤ, pos, ◌+ℤ◌, ◌*ℤ◌, ◌≤ℤ◌, [], ◌∷◌, arith}
use Rattle.std.proofs.lemmas.Int.{ints}
use Rattle.base_num.proofs.Order.{le_of_eq, le_trans, le_add, le_scale, le_cancel}
use Rattle.base_num.proofs.Ring.{ring, var, ◌⊕◌, ◌⊗◌}
use Rattle.theory.specs.Fraction.{Fraction, ◌≤ᶠ◌, nothing, plus, times, over}

abbrev pub ratio : ℤ → ℕ → Fraction
ratio a k = record { up = a; under = k }

-- a ≡ b ≤ c ≡ d
pub between : (a b c d : ℤ) → a ≡ b → b ≤ℤ c → c ≡ d → a ≤ℤ d
between a b c d p h q = le_trans a b d (le_of_eq a b p) (le_trans b c d h (le_of_eq c d q))

pub below_none : (k : ℕ) → ratio (pos 0) k ≤ᶠ nothing
below_none k = record { crossed = omega (arith, ints) }

pub below_plus : (a b : ℤ) (k : ℕ) (f g : Fraction) → ratio a k ≤ᶠ f → ratio b k ≤ᶠ g → ratio (a +ℤ b) k ≤ᶠ plus f g
below_plus a b k f g h i = record {
  crossed = between ((a +ℤ b) *ℤ pos (f.under * g.under)) (pos g.under *ℤ (a *ℤ pos f.under) +ℤ pos f.under *ℤ (b *ℤ pos g.under))
      (pos g.under *ℤ (f.up *ℤ pos k) +ℤ pos f.under *ℤ (g.up *ℤ pos k)) ((f.up *ℤ pos g.under +ℤ g.up *ℤ pos f.under) *ℤ pos k)
      (ring (a ∷ b ∷ pos f.under ∷ pos g.under ∷ []) ((var 0 ⊕ var 1) ⊗ (var 2 ⊗ var 3)) (var 3 ⊗ (var 0 ⊗ var 2) ⊕ var 2 ⊗ (var 1 ⊗ var 3)) tt)
      (le_add (pos g.under *ℤ (a *ℤ pos f.under)) (pos g.under *ℤ (f.up *ℤ pos k)) (pos f.under *ℤ (b *ℤ pos g.under)) (pos f.under *ℤ (g.up *ℤ pos k))
      (le_scale g.under (a *ℤ pos f.under) (f.up *ℤ pos k) h.crossed) (le_scale f.under (b *ℤ pos g.under) (g.up *ℤ pos k) i.crossed))
      (ring (f.up ∷ g.up ∷ pos f.under ∷ pos g.under ∷ pos k ∷ []) (var 3 ⊗ (var 0 ⊗ var 4) ⊕ var 2 ⊗ (var 1 ⊗ var 4)) ((var 0 ⊗ var 3 ⊕ var 1 ⊗ var 2) ⊗ var 4) tt);
}

pub below_times : (a : ℤ) (k w : ℕ) (f : Fraction) → ratio a k ≤ᶠ f → ratio (pos w *ℤ a) k ≤ᶠ times w f
below_times a k w f h = record {
  crossed = between (pos w *ℤ a *ℤ pos f.under) (pos w *ℤ (a *ℤ pos f.under)) (pos w *ℤ (f.up *ℤ pos k)) (pos w *ℤ f.up *ℤ pos k)
      (ring (pos w ∷ a ∷ pos f.under ∷ []) (var 0 ⊗ var 1 ⊗ var 2) (var 0 ⊗ (var 1 ⊗ var 2)) tt)
      (le_scale w (a *ℤ pos f.under) (f.up *ℤ pos k) h.crossed)
      (ring (pos w ∷ f.up ∷ pos k ∷ []) (var 0 ⊗ (var 1 ⊗ var 2)) (var 0 ⊗ var 1 ⊗ var 2) tt);
}

pub below_over : (a : ℤ) (k q : ℕ) (f : Fraction) → ratio a k ≤ᶠ f → ratio a (k * q) ≤ᶠ over f q
below_over a k q f h = record {
  crossed = between (a *ℤ pos (f.under * q)) (pos q *ℤ (a *ℤ pos f.under)) (pos q *ℤ (f.up *ℤ pos k)) (f.up *ℤ pos (k * q))
      (ring (a ∷ pos f.under ∷ pos q ∷ []) (var 0 ⊗ (var 1 ⊗ var 2)) (var 2 ⊗ (var 0 ⊗ var 1)) tt)
      (le_scale q (a *ℤ pos f.under) (f.up *ℤ pos k) h.crossed)
      (ring (f.up ∷ pos k ∷ pos q ∷ []) (var 2 ⊗ (var 0 ⊗ var 1)) (var 0 ⊗ (var 1 ⊗ var 2)) tt);
}

pub below_less : (a b : ℤ) (k : ℕ) (f : Fraction) → a ≤ℤ b → ratio b k ≤ᶠ f → ratio a k ≤ᶠ f
below_less a b k f h i = record {
  crossed = le_trans (a *ℤ pos f.under) (b *ℤ pos f.under) (f.up *ℤ pos k)
      (between (a *ℤ pos f.under) (pos f.under *ℤ a) (pos f.under *ℤ b) (b *ℤ pos f.under)
      (ring (a ∷ pos f.under ∷ []) (var 0 ⊗ var 1) (var 1 ⊗ var 0) tt) (le_scale f.under a b h) (ring (b ∷ pos f.under ∷ []) (var 1 ⊗ var 0) (var 0 ⊗ var 1) tt))
      i.crossed;
}

-- a factor of both sides goes
pub below_cancel : (a : ℤ) (k m : ℕ) (f : Fraction) → 0 < m → ratio (pos m *ℤ a) (m * k) ≤ᶠ f → ratio a k ≤ᶠ f
below_cancel a k m f p h = record {
  crossed = le_cancel m (a *ℤ pos f.under) (f.up *ℤ pos k) p
      (between (pos m *ℤ (a *ℤ pos f.under)) (pos m *ℤ a *ℤ pos f.under) (f.up *ℤ pos (m * k)) (pos m *ℤ (f.up *ℤ pos k))
      (ring (pos m ∷ a ∷ pos f.under ∷ []) (var 0 ⊗ (var 1 ⊗ var 2)) (var 0 ⊗ var 1 ⊗ var 2) tt) h.crossed
      (ring (pos m ∷ f.up ∷ pos k ∷ []) (var 1 ⊗ (var 0 ⊗ var 2)) (var 0 ⊗ (var 1 ⊗ var 2)) tt));
}
