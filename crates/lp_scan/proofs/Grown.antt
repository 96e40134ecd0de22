-- Tables with more rows.
use Rattle.std.proofs.Common.{◌≡◌, ◌∙◌, ℕ, zero, suc, ◌+◌, ◌-◌, ◌^◌, ◌<◌, ◌≤◌, ℤ, pos, List, [], ◌∷◌, ◌++◌, length, length-append, take, get_or, All, arith, refl, ap, ap₂, sym, subst}
use Rattle.std.proofs.Math.Seq.{take-length, get_or-append_seam}
use Rattle.std.proofs.lemmas.List.{length-take, take-take}
use Rattle.std.proofs.lemmas.List.Elements.{All-push}
use Rattle.lp_program.specs.declared.programs.Program.{Program}
use Rattle.lp_table.specs.declared.table.WarmTable.{WarmTable}
use Rattle.lp_table.specs.Shape.{IsTable, AreTermsRising}
use Rattle.lp_pivot.specs.Activity.{row_activity}
use Rattle.lp_scale.specs.declared.sides.Sides.{Sides}
use Rattle.lp_scale.specs.Scaling.{AreSmall}
use Rattle.lp_scale.specs.Appending.{with_appended_row, with_cut}
use Rattle.lp_scale.specs.Fitting.{Fits}
use Rattle.lp_scan.specs.Values.{IsCutRow}
use Rattle.lp_scan.specs.Scan.{is_value_below, violates_last}
use Rattle.lp_scan.specs.Steps.{with_rows_of, Begins, Grows}

pub rising_inside : (least n : ℕ) (ts : List (ℕ × ℤ)) → AreTermsRising least n ts → All (λ (t : ℕ × ℤ). t.0 < n) ts
rising_inside least n [] h k d p = absurd (omega (arith, p))
rising_inside least n (t ∷ ts) h zero d p = h.1
rising_inside least n (t ∷ ts) h (suc k) d p = rising_inside (suc t.0) n ts h.2 k d (omega (arith, p))

rising_count : (least n : ℕ) (ts : List (ℕ × ℤ)) → least ≤ n → AreTermsRising least n ts → least + length ts ≤ n
rising_count least n [] k h = omega (arith, k)
rising_count least n (t ∷ ts) k h = let a = h.0 in let b = h.1 in let r = rising_count (suc t.0) n ts (omega (arith, b)) h.2 in omega (arith, a, b, r)

pub rising_few : (n : ℕ) (ts : List (ℕ × ℤ)) → n ≤ 1199 → AreTermsRising 0 n ts → length ts ≤ 2 ^ 11
rising_few n ts m h = omega (arith, m, rising_count 0 n ts (omega arith) h)

-- with the number of one cut more
cut_table : (t : WarmTable) (i : ℕ) → IsTable t → IsTable (with_cut i t)
cut_table t i w = record {
  few = w.few;
  row_scales = w.row_scales;
  waiting = w.waiting;
  column_scales = w.column_scales;
  lows = w.lows;
  ups = w.ups;
  has_low = w.has_low;
  has_up = w.has_up;
  nonbasic = w.nonbasic;
  places = w.places;
  high = w.high;
  reduced = w.reduced;
  lines = w.lines;
  values = w.values;
  numbers = w.numbers;
  inside = w.inside;
  terms = w.terms;
}

-- a table that a program fits fits it with the row of one of its cuts more
cut_fits : (lp : Program) (i : ℕ) (e : ℤ) (ts : List (ℕ × ℤ)) (s : Sides) (t : WarmTable) → IsCutRow lp i → Fits t lp → IsTable (with_appended_row e ts s t) → AreSmall 1000 (with_appended_row e ts s t).scales → Fits (with_cut i (with_appended_row e ts s t)) lp
cut_fits lp i e ts s t c f w m = record {
  table = cut_table (with_appended_row e ts s t) i w;
  small = m;
  columns = f.columns;
  rows = omega (arith, f.rows, length-append t.rows (ts ∷ []), length-append t.cuts.rows (i ∷ []));
  cuts = All-push (λ (k : ℕ). (lp.own ≤ k) × (k < length lp.rows)) t.cuts.rows i f.cuts (c.behind, c.there);
  narrow = f.narrow;
}

pub put_fits : (lp : Program) (i : ℕ) (e : ℤ) (ts : List (ℕ × ℤ)) (s : Sides) (t u : WarmTable) (cuts : List ℕ) → u ≡ with_appended_row e ts s t → cuts ≡ u.cuts.rows ++ i ∷ [] → IsCutRow lp i → Fits t lp → IsTable u → AreSmall 1000 u.scales → Fits (record u { cuts = record u.cuts { rows = cuts } }) lp
put_fits lp i e ts s t u cuts h g c f w m =
    subst (λ (ks : List ℕ). Fits (record u { cuts = record u.cuts { rows = ks } }) lp) (sym g)
    (subst (λ (v : WarmTable). Fits (with_cut i v) lp) (sym h) (cut_fits lp i e ts s t c f (subst IsTable h w) (subst (λ (v : WarmTable). AreSmall 1000 v.scales) h m)))

last_at : {A : Type 0} (xs : List A) (x d : A) (n : ℕ) → n ≡ length xs → get_or (xs ++ x ∷ []) n d ≡ x
last_at xs x d n e = ap (λ (k : ℕ). get_or (xs ++ x ∷ []) k d) e ∙ get_or-append_seam xs x [] d

-- the violation of the last row by a point
pub last_violated : (i : ℕ) (e : ℤ) (ts : List (ℕ × ℤ)) (s : Sides) (t : WarmTable) → IsTable t → violates_last (with_cut i (with_appended_row e ts s t)) ≡ is_value_below s.low (row_activity ts t.values)
unfolding violates_last
last_violated i e ts s t w =
    let more = length-append t.rows (ts ∷ []) in
    let row : length (t.rows ++ ts ∷ []) - 1 ≡ length t.rows = omega (arith, more) in
    let slack : length t.costs + (length (t.rows ++ ts ∷ []) - 1) ≡ length t.bounds.lows = omega (arith, more, w.lows) in
    ap₂ is_value_below (last_at t.bounds.lows s.low (pos 0) _ slack) (ap (λ (r : List (ℕ × ℤ)). row_activity r t.values) (last_at t.rows ts [] _ row))

begins_refl : {A : Type 0} (xs : List A) → Begins xs xs
begins_refl xs = take-length xs

pub begins_length : {A : Type 0} (xs ys : List A) → Begins xs ys → length xs ≤ length ys
begins_length xs ys h = let e = ap length h in omega (arith, e, length-take (length xs) ys)

begins_trans : {A : Type 0} (xs ys zs : List A) → Begins xs ys → Begins ys zs → Begins xs zs
begins_trans xs ys zs h g = sym (take-take (length xs) (length ys) zs (begins_length xs ys h)) ∙ ap (take (length xs)) g ∙ h

pub grows_refl : (t : WarmTable) → Grows t t
grows_refl t = record {
  tail = refl;
  rows = begins_refl t.rows;
  cuts = begins_refl t.cuts.rows;
  scales = begins_refl t.scales.rows;
  lows = begins_refl t.bounds.lows;
  ups = begins_refl t.bounds.ups;
  has_low = begins_refl t.bounds.has_low;
  has_up = begins_refl t.bounds.has_up;
  places = begins_refl t.basis.places;
}

pub grows_trans : (t u v : WarmTable) → Grows t u → Grows u v → Grows t v
grows_trans t u v g h = record {
  tail = h.tail ∙ ap (with_rows_of v) g.tail;
  rows = begins_trans t.rows u.rows v.rows g.rows h.rows;
  cuts = begins_trans t.cuts.rows u.cuts.rows v.cuts.rows g.cuts h.cuts;
  scales = begins_trans t.scales.rows u.scales.rows v.scales.rows g.scales h.scales;
  lows = begins_trans t.bounds.lows u.bounds.lows v.bounds.lows g.lows h.lows;
  ups = begins_trans t.bounds.ups u.bounds.ups v.bounds.ups g.ups h.ups;
  has_low = begins_trans t.bounds.has_low u.bounds.has_low v.bounds.has_low g.has_low h.has_low;
  has_up = begins_trans t.bounds.has_up u.bounds.has_up v.bounds.has_up g.has_up h.has_up;
  places = begins_trans t.basis.places u.basis.places v.basis.places g.places h.places;
}
