-- Tables that change keep their shape.
use Rattle.std.proofs.Common.{◌≡◌, ◌∙◌, ◌<◌, ℕ, ℤ, Bool, true, false, not, cond, nat_lt, Option, Some, None, IfSome, List, [], ◌∷◌, length, length-set, get_or, slice_set, refl}
use Rattle.std.proofs.lemmas.List.Elements.{All-set}
use Rattle.lp_table.specs.declared.table.WarmTable.{WarmTable}
use Rattle.lp_table.specs.Shape.{IsTable, variables}
use Rattle.lp_table.proofs.Shapes.{scales_of, bounds_of, basis_of, same_shape}
use Rattle.lp_table.specs.SameParts.{with_values, with_basis}
use Rattle.lp_pivot.specs.Pivot.{entered, flipped, exchanged_basis, replaced}

pub sized_values : (t : WarmTable) (x : List ℤ) → IsTable t → length x ≡ length t.values → IsTable (with_values t x)
sized_values t x s e = same_shape t (with_values t x) s (scales_of t s) (bounds_of t s) (basis_of t s) s.reduced s.lines (e ∙ s.values)

pub sized_parts : (t : WarmTable) (reduced : List ℤ) (lines : List (List ℤ)) → IsTable t → length reduced ≡ length t.reduced → length lines ≡ length t.lines → IsTable (with_basis t t.basis reduced lines)
sized_parts t reduced lines s e f = same_shape t (with_basis t t.basis reduced lines) s (scales_of t s) (bounds_of t s) (basis_of t s) (e ∙ s.reduced) (f ∙ s.lines) s.values

flipped_length : (high : List Bool) (js : List ℕ) → length (flipped high js) ≡ length high
flipped_length high [] = refl
flipped_length high (j ∷ js) = flipped_length (slice_set high j (not (get_or high j false))) js ∙ length-set high j (not (get_or high j false))

entered_length : (lines : List (List ℤ)) (u : ℕ) (n : List ℤ) → length (entered lines u n) ≡ length lines
unfolding entered
entered_length lines u n = by (nat_lt u (length lines))
  where
    by : (b : Bool) → length (cond b (slice_set lines u n) lines) ≡ length lines
    by true = length-set lines u n
    by false = refl

pub sized_replaced : (t : WarmTable) (n : List ℤ) (v : ℕ) (above : Bool) (e : ℕ) (flips : List ℕ) → IsTable t → v < variables t → e < length t.costs → IsTable (replaced t n v above e flips)
unfolding replaced exchanged_basis
sized_replaced t n v above e flips s there place =
    same_shape t (replaced t n v above e flips) s (scales_of t s) (bounds_of t s)
    (record {
      nonbasic = length-set t.basis.nonbasic e v ∙ s.nonbasic;
      places = length-set (slice_set t.basis.places (get_or t.basis.nonbasic e 0) None) v (Some e) ∙ length-set t.basis.places (get_or t.basis.nonbasic e 0) None ∙ s.places;
      high = length-set (flipped t.basis.high flips) e above ∙ flipped_length t.basis.high flips ∙ s.high;
      numbers = All-set (λ (k : ℕ). k < variables t) t.basis.nonbasic e v there s.numbers;
      inside = All-set inner (slice_set t.basis.places (get_or t.basis.nonbasic e 0) None) v (Some e) place (All-set inner t.basis.places (get_or t.basis.nonbasic e 0) None tt s.inside);
    }) s.reduced (entered_length t.lines (get_or t.basis.nonbasic e 0) n ∙ s.lines) s.values
  where
    inner : Option ℕ → Type 0
    inner p = IfSome p (λ (j : ℕ). j < length t.costs)
