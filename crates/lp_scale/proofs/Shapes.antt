-- Tables stay tables.
use Rattle.std.proofs.Common.{◌≡◌, Result, Ok, Err, IfOk, OnOk, negsuc, ◌≤ℤ◌, ℕ, zero, suc, ◌+◌, ◌<◌, ◌≤◌, ℤ, pos, true, false, Bool, List, [], ◌∷◌, ◌++◌, length, length-set, length-append, map, replicate, Option, Some, None, IfSome, All, arith, refl, ap, sym, subst, ◌∙◌}
use Rattle.std.proofs.lemmas.List.{length-map, length-replicate}
use Rattle.std.proofs.lemmas.List.Elements.{All-weaker, All-push, All-nil, All-cons, All-map}
use Rattle.lp_table.specs.declared.table.Scales.{Scales}
use Rattle.lp_table.specs.declared.table.Bounds.{Bounds}
use Rattle.lp_table.specs.declared.table.WarmTable.{WarmTable}
use Rattle.lp_table.specs.Shape.{IsTable, AreTermsRising}
use Rattle.lp_table.proofs.Shapes.{scales_of, bounds_of, basis_of, other_highs, same_shape}
use Rattle.lp_scale.specs.declared.sides.Sides.{Sides}
use Rattle.lp_scale.specs.declared.scaling.ScaledColumn.{ScaledColumn}
use Rattle.lp_scale.specs.Walks.{count_from, GivesWalked}
use Rattle.lp_scale.specs.Scaling.{column_numbers, blank_with, with_column, standing_table, is_below_zero, AreSmall}
use Rattle.std.proofs.lemmas.Int.{ints}
use Rattle.lp_scale.specs.Exponents.{AreUpTo}
use Rattle.lp_scale.proofs.Passes.{up_to_more}
use Rattle.lp_scale.specs.Widening.{with_scales}
use Rattle.lp_scale.specs.Appending.{with_appended_row, with_bounds}

pub column_table : (j : ℕ) (s : ScaledColumn) (t : WarmTable) → IsTable t → IsTable (with_column j s t)
column_table j s t w =
    let n = length-set t.costs j s.cost in
    let v = ap (λ (k : ℕ). k + length t.rows) n in
    record {
      few = subst (λ (k : ℕ). k ≤ 1199) (sym n) w.few;
      row_scales = w.row_scales;
      waiting = w.waiting ∙ sym n;
      column_scales = w.column_scales ∙ sym n;
      lows = length-set t.bounds.lows j s.low ∙ w.lows ∙ sym v;
      ups = length-set t.bounds.ups j s.up ∙ w.ups ∙ sym v;
      has_low = w.has_low ∙ sym v;
      has_up = w.has_up ∙ sym v;
      nonbasic = w.nonbasic ∙ sym n;
      places = w.places ∙ sym v;
      high = w.high ∙ sym n;
      reduced = length-set t.reduced j s.cost ∙ w.reduced ∙ sym n;
      lines = w.lines ∙ sym n;
      values = w.values ∙ sym n;
      numbers = subst (λ (k : ℕ). All (λ u. u < k) t.basis.nonbasic) (sym v) w.numbers;
      inside = subst (λ (k : ℕ). All (λ p. IfSome p (λ j. j < k)) t.basis.places) (sym n) w.inside;
      terms = subst (λ (k : ℕ). All (AreTermsRising 0 k) t.rows) (sym n) w.terms;
    }

pub stood_table : (t : WarmTable) → IsTable t → IsTable (standing_table t)
stood_table t w = same_shape t (standing_table t) w (scales_of t w) (bounds_of t w) (other_highs t (map is_below_zero t.reduced) w (length-map t.reduced is_below_zero ∙ w.reduced)) w.reduced w.lines w.values

pub bounds_table : (b : Bounds) (t : WarmTable) → length b.lows ≡ length t.bounds.lows → length b.ups ≡ length t.bounds.ups → length b.has_low ≡ length t.bounds.has_low → length b.has_up ≡ length t.bounds.has_up → IsTable t → IsTable (with_bounds b t)
bounds_table b t l u hl hu w = same_shape t (with_bounds b t) w (scales_of t w) (record { lows = l ∙ w.lows; ups = u ∙ w.ups; has_low = hl ∙ w.has_low; has_up = hu ∙ w.has_up }) (basis_of t w) w.reduced w.lines w.values

-- one entry more, in two lists
one_more : {A B : Type 0} (xs : List A) (ys : List B) (x : A) (y : B) (n : ℕ) → length xs ≡ n + length ys → length (xs ++ x ∷ []) ≡ n + length (ys ++ y ∷ [])
one_more xs ys x y n h = omega (arith, h, length-append xs (x ∷ []), length-append ys (y ∷ []))

pub row_table : (e : ℤ) (ts : List (ℕ × ℤ)) (s : Sides) (t : WarmTable) → AreTermsRising 0 (length t.costs) ts → IsTable t → IsTable (with_appended_row e ts s t)
row_table e ts s t r w = record {
  few = w.few;
  row_scales = omega (arith, w.row_scales, length-append t.scales.rows (e ∷ []), length-append t.rows (ts ∷ []));
  waiting = w.waiting;
  column_scales = w.column_scales;
  lows = one_more t.bounds.lows t.rows s.low ts (length t.costs) w.lows;
  ups = one_more t.bounds.ups t.rows s.up ts (length t.costs) w.ups;
  has_low = one_more t.bounds.has_low t.rows s.has_low ts (length t.costs) w.has_low;
  has_up = one_more t.bounds.has_up t.rows s.has_up ts (length t.costs) w.has_up;
  nonbasic = w.nonbasic;
  places = one_more t.basis.places t.rows None ts (length t.costs) w.places;
  high = w.high;
  reduced = w.reduced;
  lines = w.lines;
  values = w.values;
  numbers = All-weaker (λ (v : ℕ). v < length t.costs + length t.rows) (λ (v : ℕ). v < length t.costs + length (t.rows ++ ts ∷ [])) (λ v h. omega (arith, h, length-append t.rows (ts ∷ []))) t.basis.nonbasic w.numbers;
  inside = All-push (λ (p : Option ℕ). IfSome p (λ j. j < length t.costs)) t.basis.places None w.inside tt;
  terms = All-push (AreTermsRising 0 (length t.costs)) t.rows ts w.terms r;
}

count_length : (j n : ℕ) → length (count_from j n) ≡ n
count_length j zero = refl
count_length j (suc n) = ap suc (count_length (suc j) n)

count_below : (j n m : ℕ) → j + n ≤ m → All (λ (v : ℕ). v < m) (count_from j n)
count_below j zero m h = All-nil (λ (v : ℕ). v < m)
count_below j (suc n) m h = All-cons (λ (v : ℕ). v < m) j (count_from (suc j) n) (omega arith) (count_below (suc j) n m (omega arith))

pub blank_table : (n : ℕ) (fs : List ℤ) (g h : ℤ) → n ≤ 1199 → length fs ≡ n → IsTable (blank_with n fs g h)
blank_table n fs g h few count =
    let z : ℤ = pos 0 in
    let some : ℕ → Option ℕ = λ j. Some j in
    let zs = length-replicate n z in
    record {
      few = subst (λ (k : ℕ). k ≤ 1199) (sym zs) few;
      row_scales = refl;
      waiting = length-replicate n false ∙ sym zs;
      column_scales = count ∙ sym zs;
      lows = omega (arith, zs);
      ups = omega (arith, zs);
      has_low = omega (arith, zs, length-replicate n true);
      has_up = omega (arith, zs, length-replicate n true);
      nonbasic = count_length 0 n ∙ sym zs;
      places = omega (arith, zs, length-map (column_numbers n) some, count_length 0 n);
      high = length-replicate n false ∙ sym zs;
      reduced = refl;
      lines = length-replicate n (replicate n z) ∙ sym zs;
      values = refl;
      numbers = count_below 0 n (length (replicate n z) + 0) (omega (arith, zs));
      inside = All-map (λ (p : Option ℕ). IfSome p (λ j. j < length (replicate n z))) Some (column_numbers n) (count_below 0 n (length (replicate n z)) (omega (arith, zs)));
      terms = All-nil (AreTermsRising 0 (length (replicate n z)));
    }

pub blank_small : (most n : ℕ) (fs : List ℤ) (g h : ℤ) → AreUpTo most fs → negsuc 1299 ≤ℤ g → g ≤ℤ pos 1300 → negsuc 1299 ≤ℤ h → h ≤ℤ pos 0 → AreSmall most (blank_with n fs g h).scales
blank_small most n fs g h f a b c d = record {
  columns = f;
  rows = λ i. (omega (arith, ints), omega (arith, ints));
  costs_least = a;
  costs_greatest = b;
  values_least = c;
  values_greatest = d;
}

-- exponents without those of rows
pub whole_small : (most : ℕ) (es fs : List ℤ) (g h : ℤ) → es ≡ [] → AreUpTo most fs → negsuc 1299 ≤ℤ g → g ≤ℤ pos 1300 → negsuc 1299 ≤ℤ h → h ≤ℤ pos 0 → AreSmall most (record { rows = es; columns = fs; costs = g; values = h })
whole_small most es fs g h e f a b c d = subst (λ (rs : List ℤ). AreSmall most (record { rows = rs; columns = fs; costs = g; values = h })) (sym e) (blank_small most 0 fs g h f a b c d)

pub small_more : (k m : ℕ) (s : Scales) → k ≤ m → AreSmall k s → AreSmall m s
small_more k m s l w = record {
  columns = up_to_more k m s.columns l w.columns;
  rows = w.rows;
  costs_least = w.costs_least;
  costs_greatest = w.costs_greatest;
  values_least = w.values_least;
  values_greatest = w.values_greatest;
}

-- a property of a value holds of a result that gives it
pub if_ok : {T E : Type 0} (P : T → Type 0) (r : Result T E) (x : T) → IfOk r (λ t. t ≡ x) → P x → IfOk r P
if_ok P (Ok t) x e p = subst P (sym e) p
if_ok P (Err e) x h p = tt

pub on_ok : {T E : Type 0} {A B : Type 0} (r : Result T E) → OnOk r A → (A → B) → OnOk r B
on_ok (Ok t) a f = f a
on_ok (Err e) a f = tt

pub on_both : {T E : Type 0} {A B C : Type 0} (r : Result T E) → OnOk r A → OnOk r B → (A → B → C) → OnOk r C
on_both (Ok t) a b f = f a b
on_both (Err e) a b f = tt

pub if_ok_more : {T E : Type 0} (P Q : T → Type 0) (r : Result T E) → ((x : T) → P x → Q x) → IfOk r P → IfOk r Q
if_ok_more P Q (Ok t) f p = f t p
if_ok_more P Q (Err e) f p = tt

pub gives_true : {A : Type 0} (made : Bool) (o : Option A) (x : A) → made ≡ true → GivesWalked made o x → o ≡ Some x
gives_true true o x e g = g
gives_true false o x e g = absurd (cc)

pub scales_table : (fs : List ℤ) (t : WarmTable) → length fs ≡ length t.scales.columns → IsTable t → IsTable (with_scales fs t)
scales_table fs t n w = same_shape t (with_scales fs t) w (record { row_scales = w.row_scales; column_scales = n ∙ w.column_scales }) (bounds_of t w) (basis_of t w) w.reduced w.lines w.values

pub scales_small : (k m : ℕ) (fs : List ℤ) (t : WarmTable) → AreUpTo m fs → AreSmall k t.scales → AreSmall m (with_scales fs t).scales
scales_small k m fs t f w = record {
  columns = f;
  rows = w.rows;
  costs_least = w.costs_least;
  costs_greatest = w.costs_greatest;
  values_least = w.values_least;
  values_greatest = w.values_greatest;
}
