-- One row more of those that are fixed where a move harmed them.
use Rattle.std.proofs.Common.{◌≡◌, ℕ, suc, ◌+◌, ◌-◌, ◌<◌, Bool, true, false, ℤ, List, if◌then◌else◌, sym, subst, arith}
use Rattle.plan_mend.specs.declared.search.Search.{Search}
use Rattle.plan_mend.specs.Moves.{Frame, is_harmed}
use Rattle.plan_mend.specs.Fixing.{FixOutcome, Fixer, and_then, harmed_rows_fixed}

module _ (f : Frame) (fix : Fixer) (i : ℕ) (before : List ℤ) (q count : ℕ) (s t : Search) (all : FixOutcome) (there : q < count) (w : harmed_rows_fixed f fix i before q (count - q) s ≡ all) where
  left : count - q ≡ suc (count - suc q)
  left = omega (arith, there)

  next : q + 1 ≡ suc q
  next = omega arith

  opened : and_then (if is_harmed f i before s.numbers q then fix q s else (true, s)) (harmed_rows_fixed f fix i before (suc q) (count - suc q)) ≡ all
  opened = subst (λ (k : ℕ). harmed_rows_fixed f fix i before q k s ≡ all) left w

  pub row_passed : false ≡ is_harmed f i before s.numbers q → t ≡ s → harmed_rows_fixed f fix i before (q + 1) (count - (q + 1)) t ≡ all
  row_passed e same =
      let h : and_then (true, s) (harmed_rows_fixed f fix i before (suc q) (count - suc q)) ≡ all = subst (λ (b : Bool). and_then (if b then fix q s else (true, s)) (harmed_rows_fixed f fix i before (suc q) (count - suc q)) ≡ all) (sym e) opened in
      rw (next, same) h

  pub row_fixed : true ≡ is_harmed f i before s.numbers q → (true, t) ≡ fix q s → harmed_rows_fixed f fix i before (q + 1) (count - (q + 1)) t ≡ all
  row_fixed e fixed =
      let h : and_then (fix q s) (harmed_rows_fixed f fix i before (suc q) (count - suc q)) ≡ all = subst (λ (b : Bool). and_then (if b then fix q s else (true, s)) (harmed_rows_fixed f fix i before (suc q) (count - suc q)) ≡ all) (sym e) opened in
      let g : and_then (true, t) (harmed_rows_fixed f fix i before (suc q) (count - suc q)) ≡ all = subst (λ (o : FixOutcome). and_then o (harmed_rows_fixed f fix i before (suc q) (count - suc q)) ≡ all) (sym fixed) h in
      rw next g
