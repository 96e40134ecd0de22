-- Walks over the rows of cuts that stand side by side.
use Rattle.std.proofs.Common.{◌≡◌, ◌∙◌, ⊎_elim, ℕ, zero, suc, ◌+◌, ◌-◌, ◌<◌, ◌≤◌, ℤ, Bool, true, false, List, [], ◌∷◌, ◌++◌, length, length-append, map, take, drop, length-drop, get_or, slice_get, slice_set, All, Option, Some, None, arith, refl, ap, ap₂, sym, subst}
use Rattle.std.proofs.lemmas.Bool.{cases_lt}
use Rattle.std.proofs.lemmas.List.{drop_more, get_or-drop, get_or_past, get_or_append_left, length-map, set-get_or, set-set, get_or-set_same}
use Rattle.lp_program.specs.declared.packed.Out.{Out}
use Rattle.lp_program.specs.declared.programs.LpRow.{LpRow}
use Rattle.lp_program.specs.PackedCut.{PackedCut, no_packed_cut}
use Rattle.lp_program.specs.Covering.{value_of, packed_cut_at}
use Rattle.lp_program.specs.Packed.{packed_row, packed_rows}
use Rattle.base_num.proofs.Each.{some_same}
use Rattle.lp_scale.specs.Walks.{walk}
use Rattle.lp_scale.specs.Waiting.{waits}
use Rattle.lp_scan.specs.Values.{Valued, greater_valued, greatest_step, IsValueWithin}
use Rattle.lp_scan.specs.Packed.{leaving_of}
use Rattle.lp_scan.proofs.Columns.{step_rests, step_in}
use Rattle.lp_scan.proofs.PackedValues.{packed_column, packed_waits, packed_same}

-- a walk over two lists
pub walk_append : {S A : Type 0} (step : ℕ → S → A → S) (j : ℕ) (s : S) (xs ys : List A) → walk step j s (xs ++ ys) ≡ walk step (j + length xs) (walk step j s xs) ys
walk_append step j s [] ys = let e : j ≡ j + 0 = omega arith in ap (λ (n : ℕ). walk step n s ys) e
walk_append step j s (x ∷ xs) ys = let e : suc j + length xs ≡ j + suc (length xs) = omega arith in walk_append step (suc j) (step j s x) xs ys ∙ ap (λ (n : ℕ). walk step n (walk step (suc j) (step j s x) xs) ys) e

-- a walk over what is left, one item on
pub walk_more : {S A : Type 0} (step : ℕ → S → A → S) (j k : ℕ) (s : S) (xs : List A) (d : A) → k < length xs → walk step j s (drop k xs) ≡ walk step (j + 1) (step j s (get_or xs k d)) (drop (k + 1) xs)
walk_more step j k s xs d l = let e : suc j ≡ j + 1 = omega arith in ap (λ (ys : List _). walk step j s ys) (drop_more xs k d l) ∙ ap (λ (i : ℕ). walk step i (step j s (get_or xs k d)) (drop (k + 1) xs)) e

-- the item that a list has at a place
pub got : {X : Type 0} (xs : List X) (i : ℕ) (x d : X) → slice_get xs i ≡ Some x → get_or xs i d ≡ x
got [] i x d h = absurd (cc)
got (y ∷ ys) zero x d h = some_same h
got (y ∷ ys) (suc i) x d h = got ys i x d h

-- a property that holds from a place on holds of an item behind it
pub got_holds : {X : Type 0} (P : X → Type 0) (first i : ℕ) (xs : List X) (x : X) → first ≤ i → i < length xs → slice_get xs i ≡ Some x → All P (drop first xs) → P x
got_holds P first i xs x b l g h =
    let e : first + (i - first) ≡ i = omega (arith, b) in
    subst P (get_or-drop first xs (i - first) x ∙ ap (λ (k : ℕ). get_or xs k x) e ∙ got xs i x x g) (h (i - first) x (omega (arith, b, l, length-drop first xs)))

-- cuts that do not wait change nothing
pub cuts_rest : (ws : List Bool) (xs : List ℤ) (i : ℕ) (bests : List (Option Valued)) (outs : List Out) (column : ℕ) (cs : List PackedCut) → get_or ws column false ≡ false → walk (λ i bests (r : LpRow). greatest_step ws xs i bests r) i bests (map (packed_row outs column) cs) ≡ bests
cuts_rest ws xs i bests outs column [] h = refl
cuts_rest ws xs i bests outs column (c ∷ cs) h =
    ap (λ (bs : List (Option Valued)). walk (λ i bests (r : LpRow). greatest_step ws xs i bests r) (suc i) bs (map (packed_row outs column) cs)) (step_rests ws xs i bests (packed_row outs column c) (packed_waits ws outs column c false h))
    ∙ cuts_rest ws xs (suc i) bests outs column cs h

-- a place where a list of tests has true is one of its places
pub true_inside : (ws : List Bool) (j n : ℕ) → get_or ws j false ≡ true → length ws ≡ n → j < n
true_inside ws j n h e = ⊎_elim (λ (a : j < length ws). omega (arith, a, e)) (λ (a : length ws ≤ j). let f : false ≡ true = sym (get_or_past ws j false a) ∙ h in absurd (cc)) (cases_lt j (length ws))

-- one cut more
pub cut_more : (leaving : List ℤ) (first place : ℕ) (best new whole : Option Valued) (cs : List PackedCut) → place < length cs → whole ≡ walk (λ i b (c : PackedCut). greater_valued b (i, value_of c leaving)) (first + place) best (drop place cs) → new ≡ greater_valued best (first + place, value_of (packed_cut_at cs place) leaving) → whole ≡ walk (λ i b (c : PackedCut). greater_valued b (i, value_of c leaving)) (first + (place + 1)) new (drop (place + 1) cs)
cut_more leaving first place best new whole cs l w e =
    let step : ℕ → Option Valued → PackedCut → Option Valued = λ i b c. greater_valued b (i, value_of c leaving) in
    let n : suc (first + place) ≡ first + (place + 1) = omega arith in
    w ∙ ap (λ (tail : List PackedCut). walk step (first + place) best tail) (drop_more cs place no_packed_cut l)
    ∙ ap₂ (λ (i : ℕ) (b : Option Valued). walk step i b (drop (place + 1) cs)) n (sym e)

-- one cut that waits
one_cut : (ws : List Bool) (xs : List ℤ) (i : ℕ) (bests : List (Option Valued)) (b : Option Valued) (outs : List Out) (column : ℕ) (c : PackedCut) (n : ℕ) → length c.slopes ≡ n → n ≤ 50 → get_or ws column false ≡ true → column < length bests → IsValueWithin xs (packed_row outs column c) → greatest_step ws xs i (slice_set bests column b) (packed_row outs column c) ≡ slice_set bests column (greater_valued b (i, value_of c (take n (leaving_of xs outs))))
one_cut ws xs i bests b outs column c n many few h l w =
    let r : LpRow = packed_row outs column c in
    let v : Valued = (i, value_of c (take n (leaving_of xs outs))) in
    step_in ws xs i (slice_set bests column b) r column (packed_column outs column c) (packed_waits ws outs column c true h)
    ∙ ap (λ (x : ℤ). slice_set (slice_set bests column b) column (greater_valued (get_or (slice_set bests column b) column None) (i, x))) (packed_same xs outs column c n many few w)
    ∙ ap (λ (o : Option Valued). slice_set (slice_set bests column b) column (greater_valued o v)) (get_or-set_same bests column b None l)
    ∙ set-set bests column b (greater_valued b v)

cuts_from : (ws : List Bool) (xs : List ℤ) (i : ℕ) (bests : List (Option Valued)) (b : Option Valued) (outs : List Out) (column n : ℕ) (cs : List PackedCut) → All (λ (c : PackedCut). length c.slopes ≡ n) cs → n ≤ 50 → get_or ws column false ≡ true → column < length bests → All (λ (r : LpRow). waits ws r ≡ true → IsValueWithin xs r) (map (packed_row outs column) cs) → walk (λ i bests (r : LpRow). greatest_step ws xs i bests r) i (slice_set bests column b) (map (packed_row outs column) cs) ≡ slice_set bests column (walk (λ i b (c : PackedCut). greater_valued b (i, value_of c (take n (leaving_of xs outs)))) i b cs)
cuts_from ws xs i bests b outs column n [] many few h l w = refl
cuts_from ws xs i bests b outs column n (c ∷ cs) many few h l w =
    let r : LpRow = packed_row outs column c in
    let within : IsValueWithin xs r = w 0 r (omega arith) (packed_waits ws outs column c true h) in
    let count : length c.slopes ≡ n = many 0 c (omega arith) in
    ap (λ (bs : List (Option Valued)). walk (λ i bests (r : LpRow). greatest_step ws xs i bests r) (suc i) bs (map (packed_row outs column) cs)) (one_cut ws xs i bests b outs column c n count few h l within)
    ∙ cuts_from ws xs (suc i) bests (greater_valued b (i, value_of c (take n (leaving_of xs outs)))) outs column n cs (λ k d m. many (suc k) d (omega (arith, m))) few h l (λ k d m. w (suc k) d (omega (arith, m)))

-- the greatest of a successor's cuts comes into its column
pub cuts_come : (ws : List Bool) (xs : List ℤ) (i : ℕ) (bests : List (Option Valued)) (outs : List Out) (column n : ℕ) (cs : List PackedCut) → All (λ (c : PackedCut). length c.slopes ≡ n) cs → n ≤ 50 → get_or ws column false ≡ true → column < length bests → All (λ (r : LpRow). waits ws r ≡ true → IsValueWithin xs r) (map (packed_row outs column) cs) → walk (λ i bests (r : LpRow). greatest_step ws xs i bests r) i bests (map (packed_row outs column) cs) ≡ slice_set bests column (walk (λ i b (c : PackedCut). greater_valued b (i, value_of c (take n (leaving_of xs outs)))) i (get_or bests column None) cs)
cuts_come ws xs i bests outs column n cs many few h l w =
    ap (λ (bs : List (Option Valued)). walk (λ i bests (r : LpRow). greatest_step ws xs i bests r) i bs (map (packed_row outs column) cs)) (sym (set-get_or bests column None))
    ∙ cuts_from ws xs i bests (get_or bests column None) outs column n cs many few h l w

-- a property of the items of two lists holds of those of the former
All-former : {X : Type 0} (P : X → Type 0) (xs ys : List X) → All P (xs ++ ys) → All P xs
All-former P xs ys h k d l = subst P (get_or_append_left xs ys d k l) (h k d (omega (arith, l, length-append xs ys)))

-- and of those of the latter
All-later : {X : Type 0} (P : X → Type 0) (xs ys : List X) → All P (xs ++ ys) → All P ys
All-later P [] ys h = h
All-later P (x ∷ xs) ys h = All-later P xs ys (λ k d l. h (suc k) d (omega (arith, l)))

next_rows : (outs : List Out) (column i : ℕ) (css : List (List PackedCut)) (d : List PackedCut) → i < length css → packed_rows outs column (drop i css) ≡ map (packed_row outs column) (get_or css i d) ++ packed_rows outs (column + 1) (drop (i + 1) css)
next_rows outs column i css d l =
    let e : suc column ≡ column + 1 = omega arith in
    ap (λ (xs : List (List PackedCut)). packed_rows outs column xs) (drop_more css i d l)
    ∙ ap (λ (c : ℕ). map (packed_row outs column) (get_or css i d) ++ packed_rows outs c (drop (i + 1) css)) e

-- one successor more
pub successor_more : (ws : List Bool) (xs : List ℤ) (outs : List Out) (first k row n : ℕ) (whole bests new : List (Option Valued)) (css : List (List PackedCut)) (cs : List PackedCut) → k < length css → cs ≡ get_or css k cs → n ≡ length cs → whole ≡ walk (λ i bests (r : LpRow). greatest_step ws xs i bests r) row bests (packed_rows outs (first + k) (drop k css)) → new ≡ walk (λ i bests (r : LpRow). greatest_step ws xs i bests r) row bests (map (packed_row outs (first + k)) cs) → whole ≡ walk (λ i bests (r : LpRow). greatest_step ws xs i bests r) (row + n) new (packed_rows outs (first + (k + 1)) (drop (k + 1) css))
successor_more ws xs outs first k row n whole bests new css cs l is count w e =
    let step : ℕ → List (Option Valued) → LpRow → List (Option Valued) = λ i bests r. greatest_step ws xs i bests r in
    let front : List LpRow = map (packed_row outs (first + k)) cs in
    let tail : List LpRow = packed_rows outs (first + (k + 1)) (drop (k + 1) css) in
    let column : (first + k) + 1 ≡ first + (k + 1) = omega arith in
    let many : row + length front ≡ row + n = omega (arith, count, length-map cs (packed_row outs (first + k))) in
    w ∙ ap (walk step row bests) (next_rows outs (first + k) k css cs l ∙ ap₂ (λ (us : List PackedCut) (j : ℕ). map (packed_row outs (first + k)) us ++ packed_rows outs j (drop (k + 1) css)) (sym is) column)
    ∙ walk_append step row bests front tail
    ∙ ap₂ (λ (i : ℕ) (bs : List (Option Valued)). walk step i bs tail) many (sym e)

-- a property of the rows that are left holds of this successor's
pub holds_here : (P : LpRow → Type 0) (outs : List Out) (column k : ℕ) (css : List (List PackedCut)) (cs : List PackedCut) → k < length css → cs ≡ get_or css k cs → All P (packed_rows outs column (drop k css)) → All P (map (packed_row outs column) cs)
holds_here P outs column k css cs l is h =
    let here : List LpRow = map (packed_row outs column) (get_or css k cs) in
    let tail : List LpRow = packed_rows outs (column + 1) (drop (k + 1) css) in
    subst (λ (us : List PackedCut). All P (map (packed_row outs column) us)) (sym is) (All-former P here tail (subst (All P) (next_rows outs column k css cs l) h))

-- and of the later ones
pub holds_later : (P : LpRow → Type 0) (outs : List Out) (first k : ℕ) (css : List (List PackedCut)) (cs : List PackedCut) → k < length css → All P (packed_rows outs (first + k) (drop k css)) → All P (packed_rows outs (first + (k + 1)) (drop (k + 1) css))
holds_later P outs first k css cs l h =
    let column : (first + k) + 1 ≡ first + (k + 1) = omega arith in
    let here : List LpRow = map (packed_row outs (first + k)) (get_or css k cs) in
    subst (λ (j : ℕ). All P (packed_rows outs j (drop (k + 1) css))) column (All-later P here (packed_rows outs ((first + k) + 1) (drop (k + 1) css)) (subst (All P) (next_rows outs (first + k) k css cs l) h))
