-- Rows of cuts that stand side by side.
use Rattle.std.proofs.Common.{◌≡◌, SFits, ℕ, suc, ◌+◌, ◌-◌, ◌^◌, ◌<◌, ◌≤◌, ℤ, pos, negsuc, ◌+ℤ◌, ◌≤ℤ◌, neg_ℤ, nat_abs, nat_le, Bool, true, false, cond, ◌==◌, List, [], ◌∷◌, ◌++◌, length, length-append, take, take_all, drop, map, get_or, set, slice_get, Option, Some, None, All, arith, refl, ap, sym, subst, ap₂, ◌∙◌}
use Rattle.std.specs.Option.{option_map}
use Rattle.std.specs.List.{flat_map}
use Rattle.std.specs.Int.{int_max}
use Rattle.std.specs.Ordering.{int_eq}
use Rattle.std.proofs.lemmas.Bool.Decides.{nat_tests}
use Rattle.std.proofs.lemmas.Int.{ints, clamps}
use Rattle.std.proofs.lemmas.List.{take-append-le, drop_more, set-set, set-get_or, get_or-set_same, length-set, set_past, get_or_past, drop_all}
use Rattle.std.proofs.lemmas.List.Elements.{All-nil, All-cons, All-head, All-tail, All-get_or}
use mir.Syntax.{w32}
use Rattle.base_num.specs.Sums.{entry}
use Rattle.lp_program.specs.declared.packed.Out.{Out}
use Rattle.lp_program.specs.declared.programs.LpRow.{LpRow}
use Rattle.lp_program.specs.Numbers.{one}
use Rattle.lp_program.specs.PackedCut.{PackedCut, no_packed_cut}
use Rattle.lp_program.specs.Packed.{at_scale, slope_term, packed_row, packed_rows}
use Rattle.lp_table.specs.Numbers.{bits_of}
use Rattle.lp_scale.specs.declared.spans.Span.{Span}
use Rattle.lp_scale.specs.Walks.{walk}
use Rattle.lp_scale.specs.Spans.{grown, joined_span, span_of, AreBetween}
use Rattle.lp_scale.specs.Exponents.{ColumnTerm, weight_of, AreUpTo}
use Rattle.lp_scale.specs.Waiting.{last_column, slopes_of}
use Rattle.lp_scale.specs.Widening.{top, top_of, with_top}
use Rattle.lp_scale.specs.Packed.{lift_of, greater_digits, most_digits, grown_above_zero, AreLifts}
use Rattle.lp_scale.proofs.Between.{grown_between}
use Rattle.lp_scale.proofs.Walking.{walk_more}
use Rattle.lp_scale.proofs.Digits.{more_digits, some_digits}

-- ---- the terms of a row
last_get : (ts : List ColumnTerm) (t : ColumnTerm) → slice_get (ts ++ t ∷ []) (length ts) ≡ Some t
last_get [] t = refl
last_get (u ∷ ts) t = last_get ts t

one_less : (ts : List ColumnTerm) (t : ColumnTerm) → length (ts ++ t ∷ []) - 1 ≡ length ts
one_less ts t = omega (arith, length-append ts (t ∷ []))

pub last_behind : (ts : List ColumnTerm) (t : ColumnTerm) → last_column (ts ++ t ∷ []) ≡ Some t.0
last_behind ts t = ap (λ (n : ℕ). option_map (λ (u : ColumnTerm). u.0) (slice_get (ts ++ t ∷ []) n)) (one_less ts t) ∙ ap (option_map (λ (u : ColumnTerm). u.0)) (last_get ts t)

pub slopes_before : (ts : List ColumnTerm) (t : ColumnTerm) → slopes_of (ts ++ t ∷ []) ≡ ts
slopes_before ts t = ap (λ (n : ℕ). take n (ts ++ t ∷ [])) (one_less ts t) ∙ take-append-le (length ts) ts (t ∷ []) (omega arith) ∙ take_all (length ts) ts (omega arith)

abbrev pub slope_terms : List Out → PackedCut → List ColumnTerm
slope_terms outs c = flat_map (slope_term c.slopes) outs

pub packed_last : (outs : List Out) (column : ℕ) (c : PackedCut) → last_column (packed_row outs column c).terms ≡ Some column
packed_last outs column c = last_behind (slope_terms outs c) (column, one)

-- ---- walks whose steps go by no number
abbrev pub steps : {S A : Type 0} → (S → A → S) → ℕ → S → List A → S
steps step j s xs = walk (λ i t x. step t x) j s xs

steps_anywhere : {S A : Type 0} (step : S → A → S) (i k : ℕ) (s : S) (ys : List A) → steps step i s ys ≡ steps step k s ys
steps_anywhere step i k s [] = refl
steps_anywhere step i k s (y ∷ ys) = steps_anywhere step (suc i) (suc k) (step s y) ys

pub steps_both : {S A : Type 0} (step : S → A → S) (i j k : ℕ) (s : S) (xs ys : List A) → steps step i s (xs ++ ys) ≡ steps step k (steps step j s xs) ys
steps_both step i j k s [] ys = steps_anywhere step i k s ys
steps_both step i j k s (x ∷ xs) ys = steps_both step (suc i) (suc j) k (step s x) xs ys

-- ---- the top of a row's terms
-- the greatest of a span, 0 where there is none
abbrev pub Tops : Option Span → ℤ → Type 0
Tops None m = m ≡ pos 0
Tops (Some s) m = (s.greatest ≡ m) × (pos 1 ≤ℤ m)

grown_tops : (s : Option Span) (m x : ℤ) → pos 1 ≤ℤ x → Tops s m → Tops (grown s x) (int_max m x)
grown_tops None m x p h = (omega (arith, ints, clamps, h, p), omega (arith, ints, clamps, p))
grown_tops (Some s) m x p h = (ap (λ (z : ℤ). int_max z x) h.0, omega (arith, ints, clamps, p))

top_tops : (s : Option Span) (m : ℤ) → Tops s m → top s ≡ cond (int_eq m (pos 0)) None (Some m)
top_tops None m h = sym (ap (λ (z : ℤ). cond (int_eq z (pos 0)) None (Some z)) h)
top_tops (Some s) m h = ap (λ (z : ℤ). cond (int_eq z (pos 0)) None (Some z)) h.0

abbrev pub small_slope : List ℤ → Type 0
small_slope ss = All (λ (s : ℤ). nat_abs s < 2 ^ 57) ss

pub entry_small : (ss : List ℤ) (k : ℕ) → small_slope ss → nat_abs (entry ss k) < 2 ^ 57
entry_small ss k h = by (nat_le (length ss) k) refl
  where
    by : (b : Bool) → nat_le (length ss) k ≡ b → nat_abs (entry ss k) < 2 ^ 57
    by true e =
        let past : length ss ≤ k = grind (arith, nat_tests) in
        let none = get_or_past ss k (pos 0) past in
        omega (arith, ap nat_abs none)
    by false e =
        let there : k < length ss = grind (arith, nat_tests) in
        All-get_or (λ (s : ℤ). nat_abs s < 2 ^ 57) ss k (pos 0) there h

-- the digits of a term are those of the slope with the lift
term_weight : (fs : List ℤ) (o : Out) (s : ℤ) → 0 < nat_abs s → nat_abs s < 2 ^ 57 → weight_of fs (o.decision, at_scale (neg_ℤ s)) ≡ (entry fs o.decision +ℤ pos 8) +ℤ pos (bits_of s)
term_weight fs o s p h = let d = more_digits s p h in omega (arith, ints, d)

same_test : (s : ℤ) → int_eq s (pos 0) ≡ (nat_abs s == 0)
same_test s = by (int_eq s (pos 0)) (nat_abs s == 0) refl refl
  where
    by : (b d : Bool) → int_eq s (pos 0) ≡ b → (nat_abs s == 0) ≡ d → b ≡ d
    by true true e f = refl
    by false false e f = refl
    by true false e f = absurd (grind (arith, ints, nat_tests))
    by false true e f = absurd (grind (arith, ints, nat_tests))

abbrev spanned : List ℤ → ℕ → Option Span → List ColumnTerm → Option Span
spanned fs i s ts = walk (λ j s t. joined_span s (Some (weight_of fs t))) i s ts

abbrev pub greatest_from : List ℤ → ℕ → ℤ → List (ℕ × ℤ) → ℤ
greatest_from slopes k m ls = walk (λ k most (l : ℕ × ℤ). greater_digits most l.1 (entry slopes l.0)) k m ls

-- one term more, unless the slope is 0
term_tops : (fs slopes : List ℤ) (o : Out) (ts : List ColumnTerm) (ls : List (ℕ × ℤ)) (i k : ℕ) (s : Option Span) (m slope : ℤ) (b : Bool) → (nat_abs slope == 0) ≡ b → nat_abs slope < 2 ^ 57 → pos 0 ≤ℤ (entry fs o.decision +ℤ pos 8) → Tops s m
    → ((i : ℕ) (s : Option Span) (m : ℤ) → Tops s m → Tops (spanned fs i s ts) (greatest_from slopes (suc k) m ls))
    → Tops (spanned fs i s (cond b [] ((o.decision, at_scale (neg_ℤ slope)) ∷ []) ++ ts)) (greatest_from slopes (suc k) (cond b m (int_max m ((entry fs o.decision +ℤ pos 8) +ℤ pos (bits_of slope)))) ls)
term_tops fs slopes o ts ls i k s m slope true e small lift h go = go i s m h
term_tops fs slopes o ts ls i k s m slope false e small lift h go =
    let p : 0 < nat_abs slope = grind (arith, nat_tests) in
    let more : ℤ = (entry fs o.decision +ℤ pos 8) +ℤ pos (bits_of slope) in
    let term : ColumnTerm = (o.decision, at_scale (neg_ℤ slope)) in
    let w : weight_of fs term ≡ more = term_weight fs o slope p small in
    let some = some_digits slope p small in
    let least : pos 1 ≤ℤ more = omega (arith, ints, lift, some) in
    go (suc i) (grown s (weight_of fs term)) (int_max m more) (subst (λ (z : ℤ). Tops (grown s z) (int_max m more)) (sym w) (grown_tops s m more least h))

terms_tops : (fs slopes : List ℤ) (outs : List Out) (i k : ℕ) (s : Option Span) (m : ℤ) → small_slope slopes → AreLifts (map (lift_of fs) outs) → Tops s m → Tops (spanned fs i s (flat_map (slope_term slopes) outs)) (greatest_from slopes k m (map (lift_of fs) outs))
terms_tops fs slopes [] i k s m small lifts h = h
terms_tops fs slopes (o ∷ outs) i k s m small lifts h =
    let slope : ℤ = entry slopes o.state in
    let first = All-head (λ (l : ℕ × ℤ). (pos 0 ≤ℤ l.1) × (l.1 ≤ℤ pos 520)) (lift_of fs o) (map (lift_of fs) outs) lifts in
    let tail = All-tail (λ (l : ℕ × ℤ). (pos 0 ≤ℤ l.1) × (l.1 ≤ℤ pos 520)) (lift_of fs o) (map (lift_of fs) outs) lifts in
    let more : ℤ = (entry fs o.decision +ℤ pos 8) +ℤ pos (bits_of slope) in
    subst (λ (b : Bool). Tops (spanned fs i s (flat_map (slope_term slopes) (o ∷ outs))) (greatest_from slopes (suc k) (cond b m (int_max m more)) (map (lift_of fs) outs))) (sym (same_test slope))
    (term_tops fs slopes o (flat_map (slope_term slopes) outs) (map (lift_of fs) outs) i k s m slope (nat_abs slope == 0) refl (entry_small slopes o.state small) first.0 h (λ i s m h. terms_tops fs slopes outs i (suc k) s m small tail h))

pub packed_top : (fs : List ℤ) (outs : List Out) (column : ℕ) (c : PackedCut) → small_slope c.slopes → AreLifts (map (lift_of fs) outs) → top_of fs (packed_row outs column c).terms ≡ cond (int_eq (most_digits (map (lift_of fs) outs) c.slopes) (pos 0)) None (Some (most_digits (map (lift_of fs) outs) c.slopes))
unfolding top_of
packed_top fs outs column c small lifts =
    ap (λ (ts : List ColumnTerm). top (span_of (λ (k : ℕ) t. Some (weight_of fs t)) ts)) (slopes_before (slope_terms outs c) (column, one))
    ∙ top_tops (span_of (λ (k : ℕ) t. Some (weight_of fs t)) (slope_terms outs c)) (most_digits (map (lift_of fs) outs) c.slopes) (terms_tops fs c.slopes outs 0 0 None (pos 0) small lifts refl)

-- ---- the spans of tops
abbrev pub top_step : ℕ → List ℤ → List (Option Span) → LpRow → List (Option Span)
top_step decisions fs ss r = with_top decisions ss (top_of fs r.terms) (last_column r.terms)

abbrev pub cut_step : List (ℕ × ℤ) → Option Span → PackedCut → Option Span
cut_step lifts s c = grown_above_zero s (most_digits lifts c.slopes)

-- one cut, in a column that is there
written_top : (decisions column : ℕ) (ss : List (Option Span)) (m : ℤ) → decisions ≤ column → with_top decisions ss (cond (int_eq m (pos 0)) None (Some m)) (Some column) ≡ set ss column (grown_above_zero (get_or ss column None) m)
written_top decisions column ss m h = by (int_eq m (pos 0))
  where
    le : nat_le decisions column ≡ true
    le = grind (arith, nat_tests)

    by : (b : Bool) → with_top decisions ss (cond b None (Some m)) (Some column) ≡ set ss column (cond b (get_or ss column None) (grown (get_or ss column None) m))
    by true = sym (set-get_or ss column None)
    by false = ap (λ (t : Bool). cond t (set ss column (grown (get_or ss column None) m)) ss) le

-- in any other column nothing changes
kept_top : (decisions column : ℕ) (ss : List (Option Span)) (o : Option ℤ) → nat_le decisions column ≡ false → with_top decisions ss o (Some column) ≡ ss
kept_top decisions column ss None h = refl
kept_top decisions column ss (Some x) h = ap (λ (t : Bool). cond t (set ss column (grown (get_or ss column None) x)) ss) h

past_top : (decisions column : ℕ) (ss : List (Option Span)) (o : Option ℤ) → length ss ≤ column → with_top decisions ss o (Some column) ≡ ss
past_top decisions column ss None h = refl
past_top decisions column ss (Some x) h = by (nat_le decisions column)
  where
    by : (b : Bool) → cond b (set ss column (grown (get_or ss column None) x)) ss ≡ ss
    by true = set_past ss column (grown (get_or ss column None) x) h
    by false = refl

pub spans_written : (decisions column : ℕ) (fs : List ℤ) (outs : List Out) (cuts : List PackedCut) (i : ℕ) (ss : List (Option Span)) → decisions ≤ column → column < length ss → AreLifts (map (lift_of fs) outs) → All (λ (c : PackedCut). small_slope c.slopes) cuts
    → steps (top_step decisions fs) i ss (map (packed_row outs column) cuts) ≡ set ss column (steps (cut_step (map (lift_of fs) outs)) i (get_or ss column None) cuts)
spans_written decisions column fs outs [] i ss h there lifts small = sym (set-get_or ss column None)
spans_written decisions column fs outs (c ∷ cuts) i ss h there lifts small =
    let first = All-head (λ (c : PackedCut). small_slope c.slopes) c cuts small in
    let tail = All-tail (λ (c : PackedCut). small_slope c.slopes) c cuts small in
    let now : Option Span = cut_step (map (lift_of fs) outs) (get_or ss column None) c in
    let one : top_step decisions fs ss (packed_row outs column c) ≡ set ss column now =
    ap₂ (λ (o : Option ℤ) (l : Option ℕ). with_top decisions ss o l) (packed_top fs outs column c first lifts) (packed_last outs column c)
    ∙ written_top decisions column ss (most_digits (map (lift_of fs) outs) c.slopes) h in
    let count : length (set ss column now) ≡ length ss = length-set ss column now in
    ap (λ (xs : List (Option Span)). steps (top_step decisions fs) (suc i) xs (map (packed_row outs column) cuts)) one
    ∙ spans_written decisions column fs outs cuts (suc i) (set ss column now) h (omega (arith, count, there)) lifts tail
    ∙ ap (λ (s : Option Span). set (set ss column now) column (steps (cut_step (map (lift_of fs) outs)) (suc i) s cuts)) (get_or-set_same ss column now None there)
    ∙ set-set ss column now (steps (cut_step (map (lift_of fs) outs)) (suc i) now cuts)

kept_all : (decisions column : ℕ) (fs : List ℤ) (outs : List Out) (cuts : List PackedCut) (i : ℕ) (ss : List (Option Span)) → ((o : Option ℤ) → with_top decisions ss o (Some column) ≡ ss) → steps (top_step decisions fs) i ss (map (packed_row outs column) cuts) ≡ ss
kept_all decisions column fs outs [] i ss h = refl
kept_all decisions column fs outs (c ∷ cuts) i ss h =
    ap (λ (xs : List (Option Span)). steps (top_step decisions fs) (suc i) xs (map (packed_row outs column) cuts)) (ap (with_top decisions ss (top_of fs (packed_row outs column c).terms)) (packed_last outs column c) ∙ h (top_of fs (packed_row outs column c).terms))
    ∙ kept_all decisions column fs outs cuts (suc i) ss h

pub spans_before : (decisions column : ℕ) (fs : List ℤ) (outs : List Out) (cuts : List PackedCut) (i : ℕ) (ss : List (Option Span)) → column < decisions → steps (top_step decisions fs) i ss (map (packed_row outs column) cuts) ≡ ss
spans_before decisions column fs outs cuts i ss h =
    let e : nat_le decisions column ≡ false = grind (arith, nat_tests) in
    kept_all decisions column fs outs cuts i ss (λ o. kept_top decisions column ss o e)

pub spans_past : (decisions column : ℕ) (fs : List ℤ) (outs : List Out) (cuts : List PackedCut) (i : ℕ) (ss : List (Option Span)) → length ss ≤ column → steps (top_step decisions fs) i ss (map (packed_row outs column) cuts) ≡ ss
spans_past decisions column fs outs cuts i ss h = kept_all decisions column fs outs cuts i ss (λ o. past_top decisions column ss o h)

-- ---- the rows of each successor
pub next_rows : (outs : List Out) (column i : ℕ) (css : List (List PackedCut)) (d : List PackedCut) → i < length css → packed_rows outs column (drop i css) ≡ map (packed_row outs column) (get_or css i d) ++ packed_rows outs (suc column) (drop (i + 1) css)
next_rows outs column i css d l = ap (packed_rows outs column) (drop_more css i d l)

-- the span of one successor's column
pub span_is : (decisions column : ℕ) (fs : List ℤ) (outs : List Out) (cuts : List PackedCut) (ss : List (Option Span)) (lifts : List (ℕ × ℤ)) (new : Option Span) → lifts ≡ map (lift_of fs) outs → decisions ≤ column → column < length ss → AreLifts lifts → All (λ (c : PackedCut). small_slope c.slopes) cuts
    → new ≡ steps (cut_step lifts) 0 (get_or ss column None) cuts → set ss column new ≡ steps (top_step decisions fs) 0 ss (map (packed_row outs column) cuts)
span_is decisions column fs outs cuts ss lifts new e h there are small n =
    ap (set ss column) (n ∙ ap (λ (ls : List (ℕ × ℤ)). steps (cut_step ls) 0 (get_or ss column None) cuts) e)
    ∙ sym (spans_written decisions column fs outs cuts 0 ss h there (subst AreLifts e are) small)

-- the spans with those of one successor more
pub spans_more : (decisions : ℕ) (fs : List ℤ) (outs : List Out) (first k : ℕ) (css items : List (List PackedCut)) (cs : List PackedCut) (ss new : List (Option Span)) → items ≡ css → k < length items → cs ≡ get_or items k cs
    → new ≡ steps (top_step decisions fs) 0 ss (map (packed_row outs (first + k)) cs)
    → steps (top_step decisions fs) 0 ss (packed_rows outs (first + k) (drop k css)) ≡ steps (top_step decisions fs) 0 new (packed_rows outs (first + (k + 1)) (drop (k + 1) css))
spans_more decisions fs outs first k css items cs ss new e l is n =
    let T : List (Option Span) → LpRow → List (Option Span) = top_step decisions fs in
    let here : cs ≡ get_or css k cs = is ∙ ap (λ (xs : List (List PackedCut)). get_or xs k cs) e in
    let next : suc (first + k) ≡ first + (k + 1) = omega arith in
    ap (λ (rows : List LpRow). steps T 0 ss rows) (next_rows outs (first + k) k css cs (omega (arith, l, ap length e)))
    ∙ steps_both T 0 0 0 ss (map (packed_row outs (first + k)) (get_or css k cs)) (packed_rows outs (suc (first + k)) (drop (k + 1) css))
    ∙ ap (λ (xs : List PackedCut). steps T 0 (steps T 0 ss (map (packed_row outs (first + k)) xs)) (packed_rows outs (suc (first + k)) (drop (k + 1) css))) (sym here)
    ∙ ap₂ (λ (x : List (Option Span)) (j : ℕ). steps T 0 x (packed_rows outs j (drop (k + 1) css))) (sym n) next

pub spans_done : (decisions : ℕ) (fs : List ℤ) (outs : List Out) (column k : ℕ) (css items : List (List PackedCut)) (ss : List (Option Span)) → items ≡ css → length items ≤ k → steps (top_step decisions fs) 0 ss (packed_rows outs column (drop k css)) ≡ ss
spans_done decisions fs outs column k css items ss e l = ap (λ (xs : List (List PackedCut)). steps (top_step decisions fs) 0 ss (packed_rows outs column xs)) (drop_all k css (omega (arith, l, ap length e)))

-- ---- the range of spans
pub above_between : (s : Option Span) (x : ℤ) → pos 0 ≤ℤ x → x ≤ℤ pos 640 → AreBetween (pos 0) (pos 640) s → AreBetween (pos 0) (pos 640) (grown_above_zero s x)
above_between s x h k b = by (int_eq x (pos 0))
  where
    by : (t : Bool) → AreBetween (pos 0) (pos 640) (cond t s (grown s x))
    by true = b
    by false = grown_between (pos 0) (pos 640) s x h k b

pub lifts_between : (fs : List ℤ) (outs : List Out) → AreUpTo 512 fs → AreLifts (map (lift_of fs) outs)
lifts_between fs [] h = All-nil (λ (l : ℕ × ℤ). (pos 0 ≤ℤ l.1) × (l.1 ≤ℤ pos 520))
lifts_between fs (o ∷ outs) h =
    let f = h o.decision in
    All-cons (λ (l : ℕ × ℤ). (pos 0 ≤ℤ l.1) × (l.1 ≤ℤ pos 520)) (lift_of fs o) (map (lift_of fs) outs) (omega (arith, ints, f.0), omega (arith, ints, f.1)) (lifts_between fs outs h)

-- ---- one state more, and one cut more
pub by_state : (lifts : List (ℕ × ℤ)) (slopes : List ℤ) (whole : ℤ) (k : ℕ) (most most_read lift slope now : ℤ) → k < length lifts → whole ≡ greatest_from slopes k most (drop k lifts) → now ≡ greater_digits most_read lift slope
    → most_read ≡ most → lift ≡ (get_or lifts k (0, pos 0)).1 → slope ≡ entry slopes (get_or lifts k (0, pos 0)).0 → whole ≡ greatest_from slopes (k + 1) now (drop (k + 1) lifts)
by_state lifts slopes whole k most most_read lift slope now there w n m l s =
    walk_more (λ k most (x : ℕ × ℤ). greater_digits most x.1 (entry slopes x.0)) whole lifts k (0, pos 0) most now there w
    (n ∙ ap (λ (z : ℤ). greater_digits z lift slope) m ∙ ap₂ (λ (a b : ℤ). greater_digits most a b) l s)

pub by_cut : (lifts : List (ℕ × ℤ)) (cuts : List PackedCut) (whole : Option Span) (k : ℕ) (span now : Option Span) (slopes : List ℤ) (most : ℤ) → k < length cuts → whole ≡ steps (cut_step lifts) k span (drop k cuts) → now ≡ grown_above_zero span most → most ≡ most_digits lifts slopes
    → slopes ≡ (get_or cuts k no_packed_cut).slopes → whole ≡ steps (cut_step lifts) (k + 1) now (drop (k + 1) cuts)
by_cut lifts cuts whole k span now slopes most there w n m s =
    walk_more (λ i t c. cut_step lifts t c) whole cuts k no_packed_cut span now there w (n ∙ ap (grown_above_zero span) (m ∙ ap (most_digits lifts) s))

small_fits : (x : ℤ) → pos 0 ≤ℤ x → x ≤ℤ pos 520 → SFits w32 x
small_fits (pos n) h k = let small : n < 2 ^ 31 = omega (arith, ints, k) in record { sfits = small }
small_fits (negsuc n) h k = absurd (omega (arith, ints, h))

pub lift_fits : (lifts : List (ℕ × ℤ)) (k : ℕ) → k < length lifts → AreLifts lifts → SFits w32 (get_or lifts k (0, pos 0)).1
lift_fits lifts k there h =
    let l = All-get_or (λ (l : ℕ × ℤ). (pos 0 ≤ℤ l.1) × (l.1 ≤ℤ pos 520)) lifts k (0, pos 0) there h in
    small_fits (get_or lifts k (0, pos 0)).1 l.0 l.1
