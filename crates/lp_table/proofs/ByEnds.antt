-- Rows of several lengths that stand one after the other in one list.
use Rattle.std.proofs.Common.{◌≡◌, ℕ, zero, suc, ◌+◌, ◌-◌, ◌<◌, ◌≤◌, List, [], ◌∷◌, ◌++◌, length, get_or, take, drop, arith, refl, ap, ap₂, sym, ◌∙◌, subst}
use Rattle.std.proofs.lemmas.List.{length-drop}
use Rattle.lp_table.specs.Ends.{rows_by, AreEnds, begins_at}

pub rows_count : {A : Type 0} (at : ℕ) (xs : List A) (ends : List ℕ) → length (rows_by at xs ends) ≡ length ends
rows_count at xs [] = refl
rows_count at xs (end ∷ ends) = ap suc (rows_count end xs ends)

-- where row i begins, behind a place
abbrev begins : ℕ → List ℕ → ℕ → ℕ
begins at ends i = get_or (at ∷ ends) i 0

pub row_is : {A : Type 0} (at i : ℕ) (xs : List A) (ends : List ℕ) → i < length ends → get_or (rows_by at xs ends) i [] ≡ take (get_or ends i 0 - begins at ends i) (drop (begins at ends i) xs)
row_is at i xs [] h = absurd (omega arith)
row_is at zero xs (end ∷ ends) h = refl
row_is at (suc i) xs (end ∷ ends) h = row_is end i xs ends (omega arith)

pub at_most : (at all : ℕ) (ends : List ℕ) → AreEnds at ends all → at ≤ all
at_most at all [] h = omega (arith, h)
at_most at all (end ∷ ends) h = omega (arith, h.0, at_most end all ends h.1)

pub rises : (at all i : ℕ) (ends : List ℕ) → AreEnds at ends all → i < length ends → begins at ends i ≤ get_or ends i 0
rises at all i [] h l = absurd (omega arith)
rises at all zero (end ∷ ends) h l = h.0
rises at all (suc i) (end ∷ ends) h l = rises end all i ends h.1 (omega arith)

pub ends_inside : (at all i : ℕ) (ends : List ℕ) → AreEnds at ends all → i < length ends → get_or ends i 0 ≤ all
ends_inside at all i [] h l = absurd (omega arith)
ends_inside at all zero (end ∷ ends) h l = at_most end all ends h.1
ends_inside at all (suc i) (end ∷ ends) h l = ends_inside end all i ends h.1 (omega arith)

-- a part of a list is one of a longer list
front_of : {A : Type 0} (n : ℕ) (xs ys : List A) → n ≤ length xs → take n (xs ++ ys) ≡ take n xs
front_of zero xs ys h = refl
front_of (suc n) [] ys h = absurd (omega arith)
front_of {A} (suc n) (x ∷ xs) ys h = ap (λ (zs : List A). x ∷ zs) (front_of n xs ys (omega arith))

later_of : {A : Type 0} (at : ℕ) (xs ys : List A) → at ≤ length xs → drop at (xs ++ ys) ≡ drop at xs ++ ys
later_of zero xs ys h = refl
later_of (suc at) [] ys h = absurd (omega arith)
later_of (suc at) (x ∷ xs) ys h = later_of at xs ys (omega arith)

part_of : {A : Type 0} (at end : ℕ) (xs ys : List A) → at ≤ end → end ≤ length xs → take (end - at) (drop at (xs ++ ys)) ≡ take (end - at) (drop at xs)
part_of at end xs ys h l = ap (take (end - at)) (later_of at xs ys (omega arith)) ∙ front_of (end - at) (drop at xs) ys (subst (λ (k : ℕ). (end - at) ≤ k) (sym (length-drop at xs)) (omega arith))

take_all : {A : Type 0} (n : ℕ) (ys : List A) → n ≡ length ys → take n ys ≡ ys
take_all zero [] e = refl
take_all zero (y ∷ ys) e = absurd (omega (arith, e))
take_all (suc n) [] e = absurd (omega (arith, e))
take_all {A} (suc n) (y ∷ ys) e = ap (λ (zs : List A). y ∷ zs) (take_all n ys (omega (arith, e)))

drop_all : {A : Type 0} (n : ℕ) (xs ys : List A) → n ≡ length xs → drop n (xs ++ ys) ≡ ys
drop_all zero [] ys e = refl
drop_all zero (x ∷ xs) ys e = absurd (omega (arith, e))
drop_all (suc n) [] ys e = absurd (omega (arith, e))
drop_all (suc n) (x ∷ xs) ys e = drop_all n xs ys (omega (arith, e))

-- a row more
pub row_more : {A : Type 0} (at end : ℕ) (xs ys : List A) (ends : List ℕ) → AreEnds at ends (length xs) → end ≡ length xs + length ys → rows_by at (xs ++ ys) (ends ++ end ∷ []) ≡ rows_by at xs ends ++ ys ∷ []
row_more {A} at end xs ys [] h e =
    ap (λ (zs : List A). zs ∷ []) (ap (take (end - at)) (drop_all at xs ys h) ∙ take_all (end - at) ys (omega (arith, h, e)))
row_more {A} at end xs ys (first ∷ ends) h e =
    ap₂ (λ (r : List A) (rs : List (List A)). r ∷ rs) (part_of at first xs ys h.0 (at_most first (length xs) ends h.1)) (row_more first end xs ys ends h.1 e)

pub ends_more : (at before end : ℕ) (ends : List ℕ) → AreEnds at ends before → before ≤ end → AreEnds at (ends ++ end ∷ []) end
ends_more at before end [] h l = (omega (arith, h), refl)
ends_more at before end (first ∷ ends) h l = (h.0, ends_more first before end ends h.1 l)

-- row i of all
pub row_at : {A : Type 0} (i : ℕ) (xs : List A) (ends : List ℕ) → i < length ends → get_or (rows_by 0 xs ends) i [] ≡ take (get_or ends i 0 - begins_at ends i) (drop (begins_at ends i) xs)
row_at i xs ends h = row_is 0 i xs ends h

pub begins_before : (all i : ℕ) (ends : List ℕ) → AreEnds 0 ends all → i < length ends → begins_at ends i ≤ get_or ends i 0
begins_before all i ends h l = rises 0 all i ends h l

pub ends_within : (all i : ℕ) (ends : List ℕ) → AreEnds 0 ends all → i < length ends → get_or ends i 0 ≤ all
ends_within all i ends h l = ends_inside 0 all i ends h l
