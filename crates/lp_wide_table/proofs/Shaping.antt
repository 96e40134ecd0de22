-- Tables of a program's columns, and rows that are put behind them.
use Rattle.std.proofs.Common.{◌≡◌, ◌≤ℤ◌, ℕ, zero, suc, ◌+◌, ◌<◌, ◌≤◌, ℤ, pos, negsuc, true, false, List, [], ◌∷◌, ◌++◌, length, length-set, length-append, map, replicate, Option, Some, None, IfSome, All, arith, refl, ap, sym, subst, ◌∙◌}
use Rattle.std.proofs.lemmas.List.{length-map, length-replicate}
use Rattle.std.proofs.lemmas.List.Elements.{All-weaker, All-push, All-nil, All-cons, All-map}
use Rattle.lp_table.specs.declared.table.Scales.{Scales}
use Rattle.lp_table.specs.Shape.{AreTermsRising}
use Rattle.lp_scale.specs.Walks.{count_from}
use Rattle.lp_scale.specs.Scaling.{column_numbers, is_below_zero, AreSmall}
use Rattle.lp_scale.proofs.Weights.{scales_more}
use Rattle.lp_wide_table.specs.declared.table.WideTable.{WideTable}
use Rattle.lp_wide_table.specs.declared.scaling.WideScaledColumn.{WideScaledColumn}
use Rattle.lp_wide_table.specs.declared.appending.WideSides.{WideSides}
use Rattle.lp_wide_table.specs.Shape.{IsWideTable}
use Rattle.lp_wide_table.specs.Scaling.{wide_blank_of, wide_with_column, wide_standing_table}
use Rattle.lp_wide_table.specs.Appending.{wide_with_appended_row}
use Rattle.lp_wide_table.proofs.Shapes.{scales_of, bounds_of, other_highs, same_shape}

pub column_table : (j : ℕ) (s : WideScaledColumn) (t : WideTable) → IsWideTable t → IsWideTable (wide_with_column j s t)
column_table j s t w =
    let n = length-set t.costs j s.cost in
    let v = ap (λ (k : ℕ). k + length t.rows) n in
    record {
      few = subst (λ (k : ℕ). k ≤ 1199) (sym n) w.few;
      small = w.small;
      row_scales = w.row_scales;
      column_scales = w.column_scales ∙ sym n;
      lows = length-set t.bounds.lows j s.low ∙ w.lows ∙ sym v;
      ups = length-set t.bounds.ups j s.up ∙ w.ups ∙ sym v;
      has_low = w.has_low ∙ sym v;
      has_up = w.has_up ∙ sym v;
      nonbasic = w.nonbasic ∙ sym n;
      places = w.places ∙ sym v;
      high = w.high ∙ sym n;
      reduced = length-set t.reduced j s.cost ∙ w.reduced ∙ sym n;
      lines = w.lines ∙ sym n;
      values = w.values ∙ sym n;
      numbers = subst (λ (k : ℕ). All (λ u. u < k) t.basis.nonbasic) (sym v) w.numbers;
      inside = subst (λ (k : ℕ). All (λ p. IfSome p (λ j. j < k)) t.basis.places) (sym n) w.inside;
      terms = subst (λ (k : ℕ). All (AreTermsRising 0 k) t.rows) (sym n) w.terms;
    }

pub stood_table : (t : WideTable) → IsWideTable t → IsWideTable (wide_standing_table t)
stood_table t w = same_shape t (wide_standing_table t) w (scales_of t w) (bounds_of t w) (other_highs t (map is_below_zero t.reduced) w (length-map t.reduced is_below_zero ∙ w.reduced)) w.reduced w.lines w.values

-- one entry more, in two lists
one_more : {A B : Type 0} (xs : List A) (ys : List B) (x : A) (y : B) (n : ℕ) → length xs ≡ n + length ys → length (xs ++ x ∷ []) ≡ n + length (ys ++ y ∷ [])
one_more xs ys x y n h = omega (arith, h, length-append xs (x ∷ []), length-append ys (y ∷ []))

pub row_table : (e : ℤ) (ts : List (ℕ × ℤ)) (s : WideSides) (t : WideTable) → AreTermsRising 0 (length t.costs) ts → AreSmall 1000 (wide_with_appended_row e ts s t).scales → IsWideTable t → IsWideTable (wide_with_appended_row e ts s t)
row_table e ts s t r small w = record {
  few = w.few;
  small = small;
  row_scales = omega (arith, w.row_scales, length-append t.scales.rows (e ∷ []), length-append t.rows (ts ∷ []));
  column_scales = w.column_scales;
  lows = one_more t.bounds.lows t.rows s.low ts (length t.costs) w.lows;
  ups = one_more t.bounds.ups t.rows s.up ts (length t.costs) w.ups;
  has_low = one_more t.bounds.has_low t.rows s.has_low ts (length t.costs) w.has_low;
  has_up = one_more t.bounds.has_up t.rows s.has_up ts (length t.costs) w.has_up;
  nonbasic = w.nonbasic;
  places = one_more t.basis.places t.rows None ts (length t.costs) w.places;
  high = w.high;
  reduced = w.reduced;
  lines = w.lines;
  values = w.values;
  numbers = All-weaker (λ (v : ℕ). v < length t.costs + length t.rows) (λ (v : ℕ). v < length t.costs + length (t.rows ++ ts ∷ [])) (λ v h. omega (arith, h, length-append t.rows (ts ∷ []))) t.basis.nonbasic w.numbers;
  inside = All-push (λ (p : Option ℕ). IfSome p (λ j. j < length t.costs)) t.basis.places None w.inside tt;
  terms = All-push (AreTermsRising 0 (length t.costs)) t.rows ts w.terms r;
}

count_length : (j n : ℕ) → length (count_from j n) ≡ n
count_length j zero = refl
count_length j (suc n) = ap suc (count_length (suc j) n)

count_below : (j n m : ℕ) → j + n ≤ m → All (λ (v : ℕ). v < m) (count_from j n)
count_below j zero m h = All-nil (λ (v : ℕ). v < m)
count_below j (suc n) m h = All-cons (λ (v : ℕ). v < m) j (count_from (suc j) n) (omega arith) (count_below (suc j) n m (omega arith))

pub blank_table : (n : ℕ) (s : Scales) → n ≤ 1199 → AreSmall 1000 s → length s.columns ≡ n → length s.rows ≡ 0 → IsWideTable (wide_blank_of n s)
blank_table n s few small count rows =
    let z : ℤ = pos 0 in
    let some : ℕ → Option ℕ = λ j. Some j in
    let zs = length-replicate n z in
    record {
      few = subst (λ (k : ℕ). k ≤ 1199) (sym zs) few;
      small = small;
      row_scales = rows;
      column_scales = count ∙ sym zs;
      lows = omega (arith, zs);
      ups = omega (arith, zs);
      has_low = omega (arith, zs, length-replicate n true);
      has_up = omega (arith, zs, length-replicate n true);
      nonbasic = count_length 0 n ∙ sym zs;
      places = omega (arith, zs, length-map (column_numbers n) some, count_length 0 n);
      high = length-replicate n false ∙ sym zs;
      reduced = refl;
      lines = length-replicate n (replicate n z) ∙ sym zs;
      values = refl;
      numbers = count_below 0 n (length (replicate n z) + 0) (omega (arith, zs));
      inside = All-map (λ (p : Option ℕ). IfSome p (λ j. j < length (replicate n z))) Some (column_numbers n) (count_below 0 n (length (replicate n z)) (omega (arith, zs)));
      terms = All-nil (AreTermsRising 0 (length (replicate n z)));
    }

pub row_small : (e : ℤ) (ts : List (ℕ × ℤ)) (s : WideSides) (t : WideTable) → negsuc 1299 ≤ℤ e → e ≤ℤ pos 1300 → AreSmall 1000 t.scales → AreSmall 1000 (wide_with_appended_row e ts s t).scales
row_small e ts s t h k w = record {
  columns = w.columns;
  rows = scales_more t.scales.rows e h k w.rows;
  costs_least = w.costs_least;
  costs_greatest = w.costs_greatest;
  values_least = w.values_least;
  values_greatest = w.values_greatest;
}
