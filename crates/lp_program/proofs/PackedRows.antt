-- The rows of cuts side by side, one successor after another.
use Rattle.std.proofs.Common.{◌≡◌, ◌∙◌, ℕ, suc, ◌+◌, ◌-◌, ◌<◌, ◌≤◌, List, ◌++◌, length, map, drop, get_or, Some, slice_get, ap, sym, arith}
use Rattle.std.specs.Option.{option_map}
use Rattle.std.proofs.lemmas.List.{drop_more, length-map, length-append}
use Rattle.std.proofs.lemmas.Option.{slice_get-map, slice_get-get_or}
use Rattle.lp_program.specs.declared.packed.Out.{Out}
use Rattle.lp_program.specs.declared.programs.LpRow.{LpRow}
use Rattle.lp_program.specs.PackedCut.{PackedCut, no_packed_cut}
use Rattle.lp_program.specs.Packed.{packed_row, packed_rows}
use Rattle.lp_program.proofs.Behind.{slice_get-former, slice_get-later}

next_rows : (outs : List Out) (column i : ℕ) (css : List (List PackedCut)) (d : List PackedCut) → i < length css → packed_rows outs column (drop i css) ≡ map (packed_row outs column) (get_or css i d) ++ packed_rows outs (column + 1) (drop (i + 1) css)
next_rows outs column i css d l =
    let e : suc column ≡ column + 1 = omega arith in
    ap (λ (xs : List (List PackedCut)). packed_rows outs column xs) (drop_more css i d l)
    ∙ ap (λ (c : ℕ). map (packed_row outs column) (get_or css i d) ++ packed_rows outs c (drop (i + 1) css)) e

-- one successor more is counted
pub counted : (outs : List Out) (first i count k whole : ℕ) (css : List (List PackedCut)) (d : List PackedCut) → i < length css → count + length (packed_rows outs (first + i) (drop i css)) ≡ whole → k ≡ length (get_or css i d) → (count + k) + length (packed_rows outs (first + (i + 1)) (drop (i + 1) css)) ≡ whole
counted outs first i count k whole css d l e is =
    let cs : List PackedCut = get_or css i d in
    let column : ℕ = first + i in
    let next : column + 1 ≡ first + (i + 1) = omega arith in
    omega (arith, e, is, ap length (next_rows outs column i css d l), length-append (map (packed_row outs column) cs) (packed_rows outs (column + 1) (drop (i + 1) css)), length-map cs (packed_row outs column), ap (λ (c : ℕ). length (packed_rows outs c (drop (i + 1) css))) next)

-- a row of this successor
pub row_here : (outs lent : List Out) (column first i left number : ℕ) (css all : List (List PackedCut)) (cs : List PackedCut) (row : LpRow) → css ≡ all → lent ≡ outs → i < length css → cs ≡ get_or css i cs → left < length cs → slice_get (packed_rows outs column (drop i css)) left ≡ slice_get (packed_rows outs first css) number → row ≡ packed_row lent column (get_or cs left no_packed_cut) → slice_get (packed_rows outs first all) number ≡ Some row
row_here outs lent column first i left number css all cs row whole given l is h same e =
    let here : List PackedCut = get_or css i cs in
    let within : left < length here = omega (arith, h, ap length is) in
    ap (λ (xs : List (List PackedCut)). slice_get (packed_rows outs first xs) number) (sym whole)
    ∙ sym same
    ∙ ap (λ (rows : List LpRow). slice_get rows left) (next_rows outs column i css cs l)
    ∙ slice_get-former (map (packed_row outs column) here) (packed_rows outs (column + 1) (drop (i + 1) css)) left (omega (arith, within, length-map here (packed_row outs column)))
    ∙ slice_get-map (packed_row outs column) here left
    ∙ ap (option_map (packed_row outs column)) (slice_get-get_or here left no_packed_cut within)
    ∙ ap (λ (xs : List PackedCut). Some (packed_row outs column (get_or xs left no_packed_cut))) (sym is)
    ∙ ap (λ (os : List Out). Some (packed_row os column (get_or cs left no_packed_cut))) (sym given)
    ∙ ap (λ (r : LpRow). Some r) (sym e)

-- a row of a later one
pub row_later : (outs : List Out) (column i left n : ℕ) (css : List (List PackedCut)) (cs : List PackedCut) → i < length css → cs ≡ get_or css i cs → n ≡ length cs → n ≤ left → slice_get (packed_rows outs (column + 1) (drop (i + 1) css)) (left - n) ≡ slice_get (packed_rows outs column (drop i css)) left
row_later outs column i left n css cs l is e h =
    let here : List PackedCut = get_or css i cs in
    let count : length (map (packed_row outs column) here) ≡ n = length-map here (packed_row outs column) ∙ sym (e ∙ ap length is) in
    sym (
    ap (λ (rows : List LpRow). slice_get rows left) (next_rows outs column i css cs l)
    ∙ slice_get-later (map (packed_row outs column) here) (packed_rows outs (column + 1) (drop (i + 1) css)) left (omega (arith, h, count))
    ∙ ap (λ (m : ℕ). slice_get (packed_rows outs (column + 1) (drop (i + 1) css)) (left - m)) count
    )

-- a later row is there
pub later_there : (outs : List Out) (column i left n : ℕ) (css : List (List PackedCut)) (cs : List PackedCut) → i < length css → cs ≡ get_or css i cs → n ≡ length cs → n ≤ left → left < length (packed_rows outs column (drop i css)) → left - n < length (packed_rows outs (column + 1) (drop (i + 1) css))
later_there outs column i left n css cs l is e h there =
    let here : List PackedCut = get_or css i cs in
    let count : length (map (packed_row outs column) here) ≡ n = length-map here (packed_row outs column) ∙ sym (e ∙ ap length is) in
    omega (arith, h, there, ap length (next_rows outs column i css cs l), length-append (map (packed_row outs column) here) (packed_rows outs (column + 1) (drop (i + 1) css)), count)
