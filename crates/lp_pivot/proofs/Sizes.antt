-- Shapes of tables that are rebuilt.
use Rattle.std.proofs.Common.{◌≡◌, ◌∙◌, ◌+◌, ◌<◌, ℕ, suc, pos, Bool, true, false, cond, nat_lt, List, [], ◌∷◌, length, map, All, IfSome, Some, None, arith, refl, ap, sym, subst}
use Rattle.std.specs.List.{range_with_len}
use Rattle.std.proofs.lemmas.List.{length-replicate}
use Rattle.std.proofs.lemmas.List.FromFn.{length-map-range_with_len, get_or-map-range_with_len}
use Rattle.std.proofs.lemmas.Bool.Decides.{nat_tests}
use Rattle.lp_table.specs.declared.table.WarmTable.{WarmTable}
use Rattle.lp_table.specs.declared.table.Basis.{Basis}
use Rattle.lp_table.specs.Shape.{IsTable, variables}
use Rattle.lp_table.proofs.Shapes.{scales_of, bounds_of, other_highs, same_shape}
use Rattle.lp_pivot.specs.Clean.{first_place, slack_basis, clean_of}
use Rattle.lp_pivot.specs.Standings.{map_from, standing_at, stood_up}

pub numbers_inside : (t : WarmTable) (n : ℕ) → IsTable t → n ≡ variables t → All (λ v. v < n) t.basis.nonbasic
numbers_inside t n s e = subst (λ (m : ℕ). All (λ v. v < m) t.basis.nonbasic) (sym e) s.numbers

map_length : {A B : Type 0} (f : ℕ → A → B) (j : ℕ) (xs : List A) → length (map_from f j xs) ≡ length xs
map_length f j [] = refl
map_length f j (x ∷ xs) = ap suc (map_length f (suc j) xs)

-- a list of all numbers, seen through a function
each_number : {X : Type 0} (P : X → Type 0) (f : ℕ → X) (n : ℕ) → ((k : ℕ) → k < n → P (f k)) → All P (map f (range_with_len 0 n))
each_number P f n h k d p =
    let q : k < n = subst (λ (m : ℕ). k < m) (length-map-range_with_len f 0 n) p in
    subst P (sym (get_or-map-range_with_len f 0 n k k d q (omega arith))) (h k q)

place_inside : (columns v : ℕ) → IfSome (first_place columns v) (λ j. j < columns)
place_inside columns v = by (nat_lt v columns) refl
  where
    by : (b : Bool) → nat_lt v columns ≡ b → IfSome (cond b (Some v) None) (λ j. j < columns)
    by true e = grind (arith, nat_tests)
    by false e = tt

pub sized_clean : (t : WarmTable) → IsTable t → IsTable (clean_of t)
unfolding clean_of slack_basis
sized_clean t s =
    same_shape t (clean_of t) s (scales_of t s) (bounds_of t s)
    (record {
      nonbasic = length-map-range_with_len (λ j. j) 0 (length t.costs);
      places = length-map-range_with_len (first_place (length t.costs)) 0 (length t.costs + length t.rows);
      high = length-replicate (length t.costs) false;
      numbers = each_number (λ (v : ℕ). v < variables t) (λ j. j) (length t.costs) (λ k h. omega (arith, h));
      inside = each_number (λ p. IfSome p (λ j. j < length t.costs)) (first_place (length t.costs)) (length t.costs + length t.rows) (λ k h. place_inside (length t.costs) k);
    }) refl s.lines (length-replicate (length t.costs) (pos 0))

pub sized_stood : (b : Basis) (t : WarmTable) → IsTable t → IsTable (stood_up b t)
unfolding stood_up
sized_stood b t s =
    same_shape t (stood_up b t) s (scales_of t s) (bounds_of t s) (other_highs t (map_from (standing_at b t.basis.nonbasic t.reduced) 0 t.basis.high) s (map_length (standing_at b t.basis.nonbasic t.reduced) 0 t.basis.high ∙ s.high)) s.reduced s.lines s.values
