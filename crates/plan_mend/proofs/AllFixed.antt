-- One row more of those that are fixed in turn, and the outcome of the search.
use Rattle.std.proofs.Common.{◌≡◌, ◌∙◌, ℕ, suc, ◌+◌, ◌-◌, ◌<◌, Bool, true, false, ℤ, List, length, if◌then◌else◌, sym, ap, subst, arith}
use Rattle.theory.specs.Problem.{Node}
use Rattle.plan_mend.specs.declared.search.Search.{Search}
use Rattle.plan_mend.specs.Moves.{Frame, frame_of}
use Rattle.plan_mend.specs.Fixing.{FixOutcome, and_then, fixed, all_fixed}
use Rattle.plan_mend.specs.Mending.{fresh_search, searched, all_met, mended_of}

module _ (f : Frame) (q count : ℕ) (s t : Search) (all : FixOutcome) (there : q < count) (w : all_fixed f q (count - q) s ≡ all) where
  left : count - q ≡ suc (count - suc q)
  left = omega (arith, there)

  next : q + 1 ≡ suc q
  next = omega arith

  opened : and_then (fixed f 3 q s) (all_fixed f (suc q) (count - suc q)) ≡ all
  opened = subst (λ (k : ℕ). all_fixed f q k s ≡ all) left w

  pub row_done : (true, t) ≡ fixed f 3 q s → all_fixed f (q + 1) (count - (q + 1)) t ≡ all
  row_done e =
      let h : and_then (true, t) (all_fixed f (suc q) (count - suc q)) ≡ all = subst (λ (o : FixOutcome). and_then o (all_fixed f (suc q) (count - suc q)) ≡ all) (sym e) opened in
      rw next h

  pub row_left : (false, t) ≡ fixed f 3 q s → (false, t) ≡ all
  row_left e = subst (λ (o : FixOutcome). and_then o (all_fixed f (suc q) (count - suc q)) ≡ all) (sym e) opened

-- the decisions that are found where all rows are met
module _ (n : Node) (values x u found : List ℤ) (done : Bool) (s after : Search) (begun : s ≡ fresh_search u) (o : (done, after) ≡ all_fixed (frame_of n values x) 0 (length (frame_of n values x).rows) s) (is : found ≡ after.numbers) where
  pub found_searched : found ≡ searched n values x u
  found_searched = is ∙ ap (λ (k : FixOutcome). k.1.numbers) o ∙ ap (λ (k : Search). (all_fixed (frame_of n values x) 0 (length (frame_of n values x).rows) k).1.numbers) begun

  pub found_mended : true ≡ all_met n values x found → found ≡ mended_of n values x u
  unfolding mended_of
  found_mended e =
      let met : true ≡ all_met n values x (searched n values x u) = e ∙ ap (all_met n values x) found_searched in
      found_searched ∙ ap (λ (b : Bool). if b then searched n values x u else u) met

  pub kept_mended : false ≡ all_met n values x found → u ≡ mended_of n values x u
  unfolding mended_of
  kept_mended e =
      let met : false ≡ all_met n values x (searched n values x u) = e ∙ ap (all_met n values x) found_searched in
      ap (λ (b : Bool). if b then searched n values x u else u) met
