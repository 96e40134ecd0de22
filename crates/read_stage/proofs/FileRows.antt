-- The left side of a row has the value of the function that it was made of.
use Rattle.std.proofs.Common.{◌≡◌, ℕ, zero, suc, ◌<◌, ◌+◌, ◌==◌, ℤ, pos, ◌+ℤ◌, ◌*ℤ◌, List, [], ◌∷◌, ◌++◌, length, map, get_or, set, Bool, true, false, if◌then◌else◌, refl, sym, ap, ap₂, ◌∙◌, arith}
use Rattle.std.specs.Prelude.{IsPermutation}
use Rattle.std.specs.Ordering.{int_eq}
use Rattle.std.proofs.lemmas.Bool.{eqb-true, eqb-false}
use Rattle.std.proofs.lemmas.Bool.Decides.{Decides-int_eq}
use Rattle.std.proofs.lemmas.Int.{ints}
use Rattle.std.proofs.lemmas.List.{length-set, get_or-set_same, get_or-set_other}
use Rattle.std.proofs.lemmas.List.Edits.{swap_is}
use Rattle.std.proofs.lemmas.List.Sorted.{IsPermutation-keeps}
use Rattle.base_num.specs.Sums.{total, dot, entry, at_terms}
use Rattle.base_num.proofs.Ring.{ring, var, num, ◌⊕◌, ◌⊗◌}
use Rattle.problem.specs.declared.parts.Row.{Row}
use Rattle.read_stage.specs.declared.sides.RowSides.{RowSides}
use Rattle.read_stage.specs.declared.variables.Variables.{Variables}
use Rattle.read_stage.specs.Rows.{picked_coefficients, terms_from, row_of}
use Rattle.read_stage.proofs.FileSplit.{places, Split}

-- ---- sums over lists

total-append : {A : Type 0} (f : A → ℤ) (xs ys : List A) → total f (xs ++ ys) ≡ total f xs +ℤ total f ys
total-append f [] ys = ring (total f ys ∷ []) (var 0) (num (pos 0) ⊕ var 0) tt
total-append f (x ∷ xs) ys = ap (λ k. f x +ℤ k) (total-append f xs ys) ∙ ring (f x ∷ total f xs ∷ total f ys ∷ []) (var 0 ⊕ (var 1 ⊕ var 2)) (var 0 ⊕ var 1 ⊕ var 2) tt

-- another entry at one place
total-set : {A : Type 0} (f : A → ℤ) (xs : List A) (i : ℕ) (y d : A) → i < length xs → total f (set xs i y) +ℤ f (get_or xs i d) ≡ total f xs +ℤ f y
total-set f [] i y d lt = absurd (omega arith)
total-set f (x ∷ xs) zero y d lt = ring (f x ∷ f y ∷ total f xs ∷ []) (var 1 ⊕ var 2 ⊕ var 0) (var 0 ⊕ var 2 ⊕ var 1) tt
total-set f (x ∷ xs) (suc i) y d lt = let tail = total-set f xs i y d (omega arith) in omega (arith, ints, tail)

total-permutation : (f : ℕ → ℤ) (xs ys : List ℕ) → IsPermutation xs ys → total f ys ≡ total f xs
total-permutation f xs ys all = IsPermutation-keeps xs (λ l. total f l ≡ total f xs) refl (λ l i j p q h.
    let w : List ℕ = set l i (get_or l j 0) in
    let there : get_or w j 0 ≡ get_or l j 0 = at l i j p (j == i) refl in
    let same : f (get_or w j 0) ≡ f (get_or l j 0) = ap f there in
    let first = total-set f l i (get_or l j 0) 0 p in
    let second = total-set f w j (get_or l i 0) 0 (omega (arith, q, length-set l i (get_or l j 0))) in
    let is : total f (set w j (get_or l i 0)) ≡ total f l = omega (arith, ints, same, first, second) in
    ap (total f) (sym (swap_is l i j 0 p q)) ∙ is ∙ h) ys all
  where
    at : (l : List ℕ) (i j : ℕ) → i < length l → (b : Bool) → (j == i) ≡ b → get_or (set l i (get_or l j 0)) j 0 ≡ get_or l j 0
    at l i j p true e = ap (λ n. get_or (set l i (get_or l j 0)) n 0) (eqb-true j i e) ∙ get_or-set_same l i (get_or l j 0) 0 p
    at l i j p false e = get_or-set_other l i j (get_or l j 0) 0 (eqb-false j i e)

-- a sum of products is one over the places
dot-places : (xs ys : List ℤ) (k : ℕ) (f : ℕ → ℤ) → ((j : ℕ) → f (k + j) ≡ entry xs j *ℤ entry ys j) → dot xs ys ≡ total f (places k (length ys))
dot-places [] [] k f at = refl
dot-places (x ∷ xs) [] k f at = refl
dot-places [] (y ∷ ys) k f at =
    let here : f k ≡ pos 0 *ℤ y = (let none : k ≡ k + 0 = omega arith in ap f none ∙ at 0) in
    let tail = dot-places [] ys (k + 1) f (λ j. let more : k + 1 + j ≡ k + suc j = omega arith in ap f more ∙ at (suc j)) in
    ring (y ∷ []) (num (pos 0)) (num (pos 0) ⊗ var 0 ⊕ num (pos 0)) tt ∙ ap₂ ◌+ℤ◌ (sym here) tail
dot-places (x ∷ xs) (y ∷ ys) k f at =
    let here : f k ≡ x *ℤ y = (let none : k ≡ k + 0 = omega arith in ap f none ∙ at 0) in
    let tail = dot-places xs ys (k + 1) f (λ j. let more : k + 1 + j ≡ k + suc j = omega arith in ap f more ∙ at (suc j)) in
    ap₂ ◌+ℤ◌ (sym here) tail

-- ---- the terms of a row

-- at these variables, as far as the numbers x are those of the variables vs
terms-value : (xs ys : List ℤ) (vs : List ℕ) (k : ℕ) (x : ℕ → ℤ) → ((j : ℕ) → x (k + j) ≡ entry (map (entry ys) vs) j) → at_terms (terms_from k (map (entry xs) vs)) x ≡ total (λ v. entry xs v *ℤ entry ys v) vs
terms-value xs ys [] k x at = refl
terms-value xs ys (v ∷ vs) k x at =
    by (int_eq (entry xs v) (pos 0)) refl (terms-value xs ys vs (k + 1) x (λ j. let more : k + 1 + j ≡ k + suc j = omega arith in ap x more ∙ at (suc j)))
  where
    tail : List (ℕ × ℤ)
    tail = terms_from (k + 1) (map (entry xs) vs)

    here : x k ≡ entry ys v
    here = let none : k ≡ k + 0 = omega arith in ap x none ∙ at 0

    sum : ℤ
    sum = total (λ v. entry xs v *ℤ entry ys v) vs

    by : (b : Bool) → int_eq (entry xs v) (pos 0) ≡ b → at_terms tail x ≡ sum → at_terms (if b then tail else (k, entry xs v) ∷ tail) x ≡ entry xs v *ℤ entry ys v +ℤ sum
    by true e is =
        let none : entry xs v ≡ pos 0 = (Decides-int_eq (entry xs v) (pos 0)).0 e in
        is ∙ ring (entry ys v ∷ sum ∷ []) (var 1) (num (pos 0) ⊗ var 0 ⊕ var 1) tt ∙ ap (λ c. c *ℤ entry ys v +ℤ sum) (sym none)
    by false e is = ap₂ (λ z t. entry xs v *ℤ z +ℤ t) here is

-- the numbers of all variables, and what the row's left side comes to
abbrev pub row_sum : Variables → List ℤ → Row → ℤ
row_sum vars ys row = at_terms row.decisions (entry (map (entry ys) vars.decisions)) +ℤ at_terms row.states (entry (map (entry ys) vars.uses.incoming)) +ℤ at_terms row.randoms (entry (map (entry ys) vars.uses.randoms))

-- a sum over the three lists is one over all variables
abbrev pub three_sums : Variables → List ℤ → List ℤ → ℤ
three_sums vars xs ys =
    total (λ v. entry xs v *ℤ entry ys v) vars.decisions +ℤ total (λ v. entry xs v *ℤ entry ys v) vars.uses.incoming +ℤ total (λ v. entry xs v *ℤ entry ys v) vars.uses.randoms

pub three-is : (vars : Variables) → Split vars → (xs ys : List ℤ) → length ys ≡ length vars.names → three_sums vars xs ys ≡ dot xs ys
three-is vars split xs ys long =
    let f : ℕ → ℤ = λ v. entry xs v *ℤ entry ys v in
    let ds = vars.decisions in
    let vs = vars.uses.incoming in
    let ws = vars.uses.randoms in
    let whole : total f (ds ++ (vs ++ ws)) ≡ dot xs ys =
    total-permutation f (places 0 (length vars.names)) (ds ++ (vs ++ ws)) split.all ∙ ap (λ n. total f (places 0 n)) (sym long)
    ∙ sym (dot-places xs ys 0 f (λ j. let none : 0 + j ≡ j = omega arith in ap f none)) in
    ring (total f ds ∷ total f vs ∷ total f ws ∷ []) (var 0 ⊕ var 1 ⊕ var 2) (var 0 ⊕ (var 1 ⊕ var 2)) tt ∙ sym (total-append f ds (vs ++ ws) ∙ ap (λ k. total f ds +ℤ k) (total-append f vs ws)) ∙ whole

pub row-is : (vars : Variables) → Split vars → (ys xs : List ℤ) (sides : RowSides) → length ys ≡ length vars.names → row_sum vars ys (row_of vars xs sides) ≡ dot xs ys
unfolding row_of picked_coefficients
row-is vars split ys xs sides long =
    let at = λ (vs : List ℕ). terms-value xs ys vs 0 (entry (map (entry ys) vs)) (λ j. let none : 0 + j ≡ j = omega arith in ap (entry (map (entry ys) vs)) none) in
    ap₂ ◌+ℤ◌ (ap₂ ◌+ℤ◌ (at vars.decisions) (at vars.uses.incoming)) (at vars.uses.randoms) ∙ three-is vars split xs ys long
