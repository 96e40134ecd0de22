-- Decisions that miss no row meet each row.
use Rattle.std.proofs.Common.{◌≡◌, ◌∙◌, ◌<◌, ◌⊎◌, inl, inr, Bool, true, false, ℤ, pos, ◌≤ℤ◌, neg_ℤ, List, length, get_or, All, if◌then◌else◌, refl, sym, ap, arith}
use Rattle.std.specs.Prelude.{int_lt}
use Rattle.std.specs.Int.{int_max}
use Rattle.std.specs.Ordering.{int_eq}
use Rattle.std.proofs.lemmas.Grind.{common_steps}
use Rattle.std.proofs.lemmas.Int.{ints, clamps}
use Rattle.std.proofs.lemmas.List.{get_or-map, length-map}
use Rattle.base_num.proofs.Tests.{all_at}
use Rattle.problem.specs.declared.parts.Row.{Row}
use Rattle.theory.specs.Problem.{S, Node}
use Rattle.theory.specs.Tree.{RowHolds, left_side}
use Rattle.plan_forward.specs.Costing.{above_high, below_low, miss_of, misses_of, residual_of}
use Rattle.plan_forward.proofs.MetRows.{residual_met}
use Rattle.plan_mend.specs.Mending.{searched, all_met, mended_of}

no_rise : int_lt (pos 0) (pos 0) ≡ true → ⊥
no_rise e = cc

not_above : (a : ℤ) → int_lt (pos 0) a ≡ false → a ≤ℤ pos 0
not_above a e = grind (arith, ints, common_steps, e)

no_miss : (a b : ℤ) (t : Bool) → int_lt (pos 0) a ≡ t → (if t then a else neg_ℤ (int_max b (pos 0))) ≡ pos 0 → int_max (int_max a b) (pos 0) ≡ pos 0
no_miss a b true e h = absurd (no_rise (sym (ap (λ (z : ℤ). int_lt (pos 0) z) h) ∙ e))
no_miss a b false e h = omega (arith, ints, clamps, h, not_above a e)

pub row_met : (row : Row) (u x values : List ℤ) → miss_of row u x values ≡ pos 0 → RowHolds S values x u row
unfolding miss_of residual_of
row_met row u x values h =
    let left : ℤ = left_side S values x u row in
    (residual_met row u x values).0 (no_miss (below_low row.low left) (above_high row.high left) (int_lt (pos 0) (below_low row.low left)) refl h)

is_zero : (d : ℤ) → int_eq d (pos 0) ≡ true → d ≡ pos 0
is_zero d e = grind (arith, ints, common_steps, e)

pub rows_met : (n : Node) (values x u : List ℤ) → all_met n values x u ≡ true → All (RowHolds S values x u) n.rows
rows_met n values x u e = λ i d l.
    let f : Row → ℤ = λ row. miss_of row u x values in
    let there : i < length (misses_of n u x values) = omega (arith, l, length-map n.rows f) in
    let none : int_eq (get_or (misses_of n u x values) i (pos 0)) (pos 0) ≡ true = all_at (λ (z : ℤ). int_eq z (pos 0)) (misses_of n u x values) i (pos 0) e there in
    let same : get_or (misses_of n u x values) i (pos 0) ≡ f (get_or n.rows i d) = get_or-map f n.rows i d (pos 0) l in
    row_met (get_or n.rows i d) u x values (sym same ∙ is_zero (get_or (misses_of n u x values) i (pos 0)) none)

pub met_or_kept : (n : Node) (values x u : List ℤ) → All (RowHolds S values x (mended_of n values x u)) n.rows ⊎ (mended_of n values x u ≡ u)
unfolding mended_of
met_or_kept n values x u = by (all_met n values x (searched n values x u)) refl
  where
    by : (b : Bool) → all_met n values x (searched n values x u) ≡ b → All (RowHolds S values x (if b then searched n values x u else u)) n.rows ⊎ ((if b then searched n values x u else u) ≡ u)
    by true e = inl (rows_met n values x (searched n values x u) e)
    by false e = inr refl
