-- The terms of a table's rows are of its columns.
use Rattle.std.proofs.Common.{◌≡◌, ℕ, zero, suc, ◌<◌, ℤ, List, [], ◌∷◌, length, get_or, All, arith, sym, subst}
use Rattle.lp_table.specs.Shape.{AreTermsRising}
use Rattle.lp_wide_table.specs.declared.table.WideTable.{WideTable}
use Rattle.lp_wide_table.specs.Shape.{IsWideTable}

rising_inside : (least n : ℕ) (ts : List (ℕ × ℤ)) → AreTermsRising least n ts → All (λ (t : ℕ × ℤ). t.0 < n) ts
rising_inside least n [] h k d p = absurd (omega arith)
rising_inside least n (t ∷ ts) h zero d p = h.1
rising_inside least n (t ∷ ts) h (suc k) d p = rising_inside (suc t.0) n ts h.2 k d (omega arith)

pub row_within : (t : WideTable) (i n : ℕ) → IsWideTable t → i < length t.rows → n ≡ length t.costs → All (λ (p : ℕ × ℤ). p.0 < n) (get_or t.rows i [])
row_within t i n s h e = subst (λ (m : ℕ). All (λ (p : ℕ × ℤ). p.0 < m) (get_or t.rows i [])) (sym e) (rising_inside 0 (length t.costs) (get_or t.rows i []) (s.terms i [] h))
