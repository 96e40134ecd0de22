-- Tables that change keep their shape.
use Rattle.std.proofs.Common.{◌≡◌, ◌∙◌, ◌<◌, ℕ, ℤ, Bool, true, false, not, cond, nat_lt, Option, Some, None, IfSome, List, [], ◌∷◌, length, length-set, get_or, slice_set, refl}
use Rattle.std.proofs.lemmas.List.Elements.{All-set}
use Rattle.lp_wide_table.specs.declared.table.WideTable.{WideTable}
use Rattle.lp_wide_table.specs.Shape.{IsWideTable, wide_variables}
use Rattle.lp_wide_table.proofs.Shapes.{scales_of, bounds_of, basis_of, same_shape}
use Rattle.lp_wide_table.specs.SameParts.{wide_with_values, wide_with_basis}
use Rattle.lp_pivot.specs.Pivot.{flipped, exchanged_basis}
use Rattle.lp_wide.specs.Pivot.{wide_entered, wide_replaced}

pub sized_values : (t : WideTable) (x : List ℤ) → IsWideTable t → length x ≡ length t.values → IsWideTable (wide_with_values t x)
sized_values t x s e = same_shape t (wide_with_values t x) s (scales_of t s) (bounds_of t s) (basis_of t s) s.reduced s.lines (e ∙ s.values)

pub sized_parts : (t : WideTable) (reduced : List ℤ) (lines : List (List ℤ)) → IsWideTable t → length reduced ≡ length t.reduced → length lines ≡ length t.lines → IsWideTable (wide_with_basis t t.basis reduced lines)
sized_parts t reduced lines s e f = same_shape t (wide_with_basis t t.basis reduced lines) s (scales_of t s) (bounds_of t s) (basis_of t s) (e ∙ s.reduced) (f ∙ s.lines) s.values

flipped_length : (high : List Bool) (js : List ℕ) → length (flipped high js) ≡ length high
flipped_length high [] = refl
flipped_length high (j ∷ js) = flipped_length (slice_set high j (not (get_or high j false))) js ∙ length-set high j (not (get_or high j false))

entered_length : (lines : List (List ℤ)) (u : ℕ) (n : List ℤ) → length (wide_entered lines u n) ≡ length lines
unfolding wide_entered
entered_length lines u n = by (nat_lt u (length lines))
  where
    by : (b : Bool) → length (cond b (slice_set lines u n) lines) ≡ length lines
    by true = length-set lines u n
    by false = refl

pub sized_replaced : (t : WideTable) (n : List ℤ) (v : ℕ) (above : Bool) (e : ℕ) (flips : List ℕ) → IsWideTable t → v < wide_variables t → e < length t.costs → IsWideTable (wide_replaced t n v above e flips)
unfolding wide_replaced exchanged_basis
sized_replaced t n v above e flips s there place =
    same_shape t (wide_replaced t n v above e flips) s (scales_of t s) (bounds_of t s)
    (record {
      nonbasic = length-set t.basis.nonbasic e v ∙ s.nonbasic;
      places = length-set (slice_set t.basis.places (get_or t.basis.nonbasic e 0) None) v (Some e) ∙ length-set t.basis.places (get_or t.basis.nonbasic e 0) None ∙ s.places;
      high = length-set (flipped t.basis.high flips) e above ∙ flipped_length t.basis.high flips ∙ s.high;
      numbers = All-set (λ (k : ℕ). k < wide_variables t) t.basis.nonbasic e v there s.numbers;
      inside = All-set inner (slice_set t.basis.places (get_or t.basis.nonbasic e 0) None) v (Some e) place (All-set inner t.basis.places (get_or t.basis.nonbasic e 0) None tt s.inside);
    }) s.reduced (entered_length t.lines (get_or t.basis.nonbasic e 0) n ∙ s.lines) s.values
  where
    inner : Option ℕ → Type 0
    inner p = IfSome p (λ (j : ℕ). j < length t.costs)
