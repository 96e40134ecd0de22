-- The terms of a table's rows are inside.
use Rattle.std.proofs.Common.{◌≡◌, ℕ, zero, suc, ◌<◌, ℤ, List, [], ◌∷◌, length, get_or, All, IfSome, arith, sym, subst, ◌∙◌}
use Rattle.lp_table.specs.Shape.{AreTermsRising}
use Rattle.lp_wide_table.specs.declared.table.WideTable.{WideTable}
use Rattle.lp_wide_table.specs.Shape.{IsWideTable}
use Rattle.lp_wide.specs.Refine.{AreWideBoundsWhole}

rising_inside : (least n : ℕ) (ts : List (ℕ × ℤ)) → AreTermsRising least n ts → All (λ (t : ℕ × ℤ). t.0 < n) ts
rising_inside least n [] h k d p = absurd (omega arith)
rising_inside least n (t ∷ ts) h zero d p = h.1
rising_inside least n (t ∷ ts) h (suc k) d p = rising_inside (suc t.0) n ts h.2 k d (omega arith)

pub row_inside : (t : WideTable) (i : ℕ) → IsWideTable t → i < length t.rows → All (λ (p : ℕ × ℤ). p.0 < length t.values) (get_or t.rows i [])
row_inside t i s h = subst (λ (n : ℕ). All (λ (p : ℕ × ℤ). p.0 < n) (get_or t.rows i [])) (sym s.values) (rising_inside 0 (length t.costs) (get_or t.rows i []) (s.terms i [] h))

pub row_columns : (t : WideTable) (i : ℕ) → IsWideTable t → i < length t.rows → All (λ (p : ℕ × ℤ). p.0 < length t.lines) (get_or t.rows i [])
row_columns t i s h = subst (λ (n : ℕ). All (λ (p : ℕ × ℤ). p.0 < n) (get_or t.rows i [])) (sym s.lines) (rising_inside 0 (length t.costs) (get_or t.rows i []) (s.terms i [] h))

pub places_inside : (t : WideTable) (n : ℕ) → IsWideTable t → n ≡ length t.costs → All (λ p. IfSome p (λ j. j < n)) t.basis.places
places_inside t n s e = subst (λ (m : ℕ). All (λ p. IfSome p (λ j. j < m)) t.basis.places) (sym e) s.inside

pub whole_bounds : (t : WideTable) → IsWideTable t → AreWideBoundsWhole t.bounds
whole_bounds t s = record { ups = s.ups ∙ sym s.lows; has_low = s.has_low ∙ sym s.lows; has_up = s.has_up ∙ sym s.lows }
