-- Cuts that stand side by side are narrow, and wait.
use Rattle.std.proofs.Common.{◌≡◌, ℕ, suc, ◌+◌, ◌^◌, ◌<◌, ◌≤◌, ℤ, pos, ◌*ℤ◌, neg_ℤ, nat_abs, nat_le, Bool, true, false, cond, ◌==◌, ◌&&◌, List, [], ◌∷◌, ◌++◌, length, length-append, take, take_all, drop, map, get_or, Some, All, arith, refl, ap, sym, subst, ◌∙◌}
use Rattle.std.specs.List.{flat_map, list_all}
use Rattle.std.specs.Option.{option_and_then}
use Rattle.std.proofs.lemmas.Bool.Decides.{nat_tests}
use Rattle.std.proofs.lemmas.Int.{unsigned_abs-mul}
use Rattle.std.proofs.lemmas.List.Elements.{All-nil, All-head, All-tail, All-append, All-map, All-weaker, All-more, All-same}
use Rattle.base_num.specs.Sums.{entry}
use Rattle.lp_program.specs.declared.packed.Out.{Out}
use Rattle.lp_program.specs.declared.programs.LpRow.{LpRow}
use Rattle.lp_program.specs.Numbers.{one}
use Rattle.lp_program.specs.PackedCut.{PackedCut}
use Rattle.lp_program.specs.Packed.{at_scale, slope_term, packed_row, packed_rows}
use Rattle.lp_table.specs.declared.table.WarmTable.{WarmTable}
use Rattle.lp_table.specs.Numbers.{bits_of}
use Rattle.lp_scale.specs.Walks.{walk, run}
use Rattle.lp_scale.specs.Exponents.{ColumnTerm}
use Rattle.lp_scale.specs.Waiting.{last_column, is_short, is_short_side, is_narrow, closed, closed_by, all_closed, waits_in, waits}
use Rattle.lp_scale.specs.Appending.{appended_cut}
use Rattle.lp_scale.specs.Widening.{put_cut, put_cuts}
use Rattle.lp_program.specs.PackedCut.{IsSmallCut}
use Rattle.lp_scale.proofs.Digits.{abs_times, few_digits}
use Rattle.lp_scale.proofs.Standing.{slope_terms, slopes_before, packed_last, entry_small, next_rows}

-- ---- narrow rows
abbrev is_short_out : List ℕ → Out → Bool
is_short_out rs o = nat_le (get_or rs o.decision 0) 71

both : (a b : Bool) → a ≡ true → b ≡ true → (a && b) ≡ true
both true true h k = refl
both true false h k = k
both false b h k = h

left_true : (a b : Bool) → (a && b) ≡ true → a ≡ true
left_true true b h = refl
left_true false b h = h

right_true : (a b : Bool) → (a && b) ≡ true → b ≡ true
right_true true b h = h
right_true false b h = absurd (cc)

few_terms : (slopes : List ℤ) (outs : List Out) → length (flat_map (slope_term slopes) outs) ≤ length outs
few_terms slopes [] = omega arith
few_terms slopes (o ∷ outs) = by (nat_abs (entry slopes o.state) == 0) (few_terms slopes outs)
  where
    by : (b : Bool) → length (flat_map (slope_term slopes) outs) ≤ length outs → length (cond b [] ((o.decision, at_scale (neg_ℤ (entry slopes o.state))) ∷ []) ++ flat_map (slope_term slopes) outs) ≤ suc (length outs)
    by true tail = omega (arith, tail)
    by false tail = omega (arith, tail)

short_slope : (s : ℤ) → nat_abs s < 2 ^ 57 → nat_le (bits_of (pos 256 *ℤ neg_ℤ s)) 65 ≡ true
short_slope s h =
    let few = few_digits (pos 256 *ℤ neg_ℤ s) 65 (omega arith) (omega (arith, abs_times s, h)) in
    grind (arith, nat_tests)

short_side : (z : ℤ) → nat_abs z < 2 ^ 100 → is_short_side (Some (at_scale z)) ≡ true
short_side z h =
    let few = few_digits (pos 256 *ℤ z) 108 (omega arith) (omega (arith, unsigned_abs-mul (pos 256) z, h)) in
    grind (arith, nat_tests)

short_term : (rs : List ℕ) (o : Out) (slope : ℤ) (ts : List ColumnTerm) (b : Bool) → nat_abs slope < 2 ^ 57 → is_short_out rs o ≡ true → list_all (is_short rs) ts ≡ true → list_all (is_short rs) (cond b [] ((o.decision, at_scale (neg_ℤ slope)) ∷ []) ++ ts) ≡ true
short_term rs o slope ts true small here tail = tail
short_term rs o slope ts false small here tail = both _ _ (both _ _ (short_slope slope small) here) tail

short_terms : (rs : List ℕ) (slopes : List ℤ) (outs : List Out) → All (λ (s : ℤ). nat_abs s < 2 ^ 57) slopes → list_all (is_short_out rs) outs ≡ true → list_all (is_short rs) (flat_map (slope_term slopes) outs) ≡ true
short_terms rs slopes [] small h = refl
short_terms rs slopes (o ∷ outs) small h =
    short_term rs o (entry slopes o.state) (flat_map (slope_term slopes) outs) (nat_abs (entry slopes o.state) == 0) (entry_small slopes o.state small) (left_true (is_short_out rs o) (list_all (is_short_out rs) outs) h)
    (short_terms rs slopes outs small (right_true (is_short_out rs o) (list_all (is_short_out rs) outs) h))

narrow_row : (rs : List ℕ) (outs : List Out) (column : ℕ) (c : PackedCut) → length outs ≤ 50 → list_all (is_short_out rs) outs ≡ true → IsSmallCut c → is_narrow rs (packed_row outs column c) ≡ true
unfolding is_narrow
narrow_row rs outs column c few short small =
    let terms : List ColumnTerm = slope_terms outs c in
    let some = few_terms c.slopes outs in
    let count = length-append terms ((column, one) ∷ []) in
    let counted : nat_le (length (terms ++ (column, one) ∷ [])) 51 ≡ true = grind (arith, nat_tests) in
    both _ _ (both _ _ (short_side c.height small.height) counted) (ap (list_all (is_short rs)) (slopes_before terms (column, one)) ∙ short_terms rs c.slopes outs small.slopes short)

abbrev IsNarrow : List ℕ → LpRow → Type 0
IsNarrow rs r = is_narrow rs r ≡ true

pub narrow_rows : (rs : List ℕ) (outs : List Out) (column : ℕ) (css : List (List PackedCut)) → length outs ≤ 50 → list_all (is_short_out rs) outs ≡ true → All (λ (cs : List PackedCut). All IsSmallCut cs) css
    → All (λ (r : LpRow). is_narrow rs r ≡ true) (packed_rows outs column css)
narrow_rows rs outs column [] few short small = All-nil (IsNarrow rs)
narrow_rows rs outs column (cs ∷ css) few short small =
    All-append (IsNarrow rs) (map (packed_row outs column) cs) (packed_rows outs (suc column) css)
    (All-map (IsNarrow rs) (packed_row outs column) cs (All-weaker IsSmallCut (λ (c : PackedCut). IsNarrow rs (packed_row outs column c)) (λ c h. narrow_row rs outs column c few short h) cs (All-head (λ (cs : List PackedCut). All IsSmallCut cs) cs css small)))
    (narrow_rows rs outs (suc column) css few short (All-tail (λ (cs : List PackedCut). All IsSmallCut cs) cs css small))

-- where all rows are narrow nothing is closed
none_closed : (rs : List ℕ) (ws : List Bool) (cuts : List LpRow) (i : ℕ) → All (IsNarrow rs) cuts → walk (λ (i : ℕ) ws (r : LpRow). closed_by rs ws r) i ws cuts ≡ ws
none_closed rs ws [] i h = refl
none_closed rs ws (r ∷ cuts) i h =
    ap (λ (t : Bool). walk (λ (i : ℕ) ws (r : LpRow). closed_by rs ws r) (suc i) (cond t ws (closed ws (last_column r.terms))) cuts) (All-head (IsNarrow rs) r cuts h)
    ∙ none_closed rs ws cuts (suc i) (All-tail (IsNarrow rs) r cuts h)

pub all_kept : (rs : List ℕ) (ws : List Bool) (cuts : List LpRow) → All (λ (r : LpRow). is_narrow rs r ≡ true) cuts → ws ≡ all_closed rs ws cuts
all_kept rs ws cuts h = sym (none_closed rs ws cuts 0 h)

-- ---- rows that wait
abbrev Wait : List Bool → LpRow → Type 0
Wait ws r = waits ws r ≡ true

packed_wait : (ws : List Bool) (outs : List Out) (column : ℕ) (c : PackedCut) → get_or ws column false ≡ true → Wait ws (packed_row outs column c)
unfolding waits
packed_wait ws outs column c h = ap (waits_in ws) (packed_last outs column c) ∙ h

all_wait : (ws : List Bool) (outs : List Out) (column : ℕ) (cs : List PackedCut) → get_or ws column false ≡ true → All (Wait ws) (map (packed_row outs column) cs)
all_wait ws outs column cs h = All-map (Wait ws) (packed_row outs column) cs (λ k d l. packed_wait ws outs column (get_or cs k d) h)

-- the rows of one successor more
pub wait_more : (ws : List Bool) (outs : List Out) (first i : ℕ) (css : List (List PackedCut)) → i < length css → get_or ws (first + i) false ≡ true → All (λ (r : LpRow). waits ws r ≡ true) (packed_rows outs (first + (i + 1)) (drop (i + 1) css)) → All (λ (r : LpRow). waits ws r ≡ true) (packed_rows outs (first + i) (drop i css))
wait_more ws outs first i css l h tail =
    let e : first + (i + 1) ≡ suc (first + i) = omega arith in
    subst (All (Wait ws)) (sym (next_rows outs (first + i) i css [] l))
    (All-append (Wait ws) (map (packed_row outs (first + i)) (get_or css i [])) (packed_rows outs (suc (first + i)) (drop (i + 1) css)) (all_wait ws outs (first + i) (get_or css i []) h)
    (subst (λ (k : ℕ). All (Wait ws) (packed_rows outs k (drop (i + 1) css))) e tail))

-- where all rows wait none is put
none_put : (ws : List Bool) (cuts : List LpRow) (i : ℕ) (t : WarmTable) → All (Wait ws) cuts → run (put_cut ws) i cuts t ≡ Some t
none_put ws [] i t h = refl
none_put ws (r ∷ cuts) i t h =
    ap (λ (b : Bool). option_and_then (run (put_cut ws) (suc i) cuts) (cond b (Some t) (appended_cut i r t))) (All-head (Wait ws) r cuts h)
    ∙ none_put ws cuts (suc i) t (All-tail (Wait ws) r cuts h)

pub puts_none : (ws : List Bool) (cuts : List LpRow) (i : ℕ) (t : WarmTable) → All (λ (r : LpRow). waits ws r ≡ true) cuts → put_cuts ws i cuts t ≡ Some t
puts_none ws cuts i t h = none_put ws cuts i t h

-- ---- what is true of each item as far as it was read
pub read_more : {X : Type 0} (P : X → Type 0) (xs items : List X) (k : ℕ) (x : X) → items ≡ xs → k < length items → x ≡ get_or items k x → All P (take k xs) → P x → All P (take (k + 1) xs)
read_more P xs items k x e l is h p = All-more P xs k x (omega (arith, l, ap length e)) h (subst P (is ∙ ap (λ ys. get_or ys k x) e) p)

pub all_read : {X : Type 0} (P : X → Type 0) (xs items : List X) (k : ℕ) → items ≡ xs → length items ≤ k → All P (take k xs) → All P xs
all_read P xs items k e l h = All-same P xs (take k xs) (sym (take_all k xs (omega (arith, l, ap length e)))) h
