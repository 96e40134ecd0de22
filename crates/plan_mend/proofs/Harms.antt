-- One row more of those that a move may harm.
use Rattle.std.proofs.Common.{◌≡◌, ℕ, suc, ◌+◌, ◌-◌, ◌<◌, Bool, true, false, ℤ, List, if◌then◌else◌, sym, subst, arith}
use Rattle.plan_mend.specs.Moves.{Frame, is_harmed, harm_from}

module _ (f : Frame) (i : ℕ) (before after : List ℤ) (q count total old new : ℕ) (there : q < count) (w : old + harm_from f i before after q (count - q) ≡ total) where
  left : count - q ≡ suc (count - suc q)
  left = omega (arith, there)

  next : q + 1 ≡ suc q
  next = omega arith

  opened : old + ((if is_harmed f i before after q then 1 else 0) + harm_from f i before after (suc q) (count - suc q)) ≡ total
  opened = subst (λ (k : ℕ). old + harm_from f i before after q k ≡ total) left w

  pub one_harmed : true ≡ is_harmed f i before after q → new ≡ old + 1 → new + harm_from f i before after (q + 1) (count - (q + 1)) ≡ total
  one_harmed e n =
      let h : old + (1 + harm_from f i before after (suc q) (count - suc q)) ≡ total = subst (λ (b : Bool). old + ((if b then 1 else 0) + harm_from f i before after (suc q) (count - suc q)) ≡ total) (sym e) opened in
      rw next (omega (arith, h, n))

  pub none_harmed : false ≡ is_harmed f i before after q → new ≡ old → new + harm_from f i before after (q + 1) (count - (q + 1)) ≡ total
  none_harmed e n =
      let h : old + (0 + harm_from f i before after (suc q) (count - suc q)) ≡ total = subst (λ (b : Bool). old + ((if b then 1 else 0) + harm_from f i before after (suc q) (count - suc q)) ≡ total) (sym e) opened in
      rw next (omega (arith, h, n))
