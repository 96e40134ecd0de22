-- The size of a realization is the amount of its rows, costs and pairs.
use Rattle.std.proofs.Common.{◌≡◌, ℕ, zero, suc, ◌+◌, ◌*◌, ◌<◌, ◌≤◌, ℤ, pos, ◌+ℤ◌, ◌*ℤ◌, true, List, [], ◌∷◌, length, map, zip, get_or, slice_get, All, nat_abs, nat_lt, arith, refl, ap, ap₂, sym, ◌∙◌, ⊎_elim}
use Rattle.std.specs.List.{sum_by, list_all}
use Rattle.std.proofs.lemmas.Bool.{cases_lt}
use Rattle.std.proofs.lemmas.Bool.Decides.{nat_tests}
use Rattle.std.proofs.lemmas.Int.{ints}
use Rattle.std.proofs.lemmas.List.Sums.{sum_by-cons}
use Rattle.std.proofs.lemmas.List.Elements.{All-cons}
use lib.IntN.{*ℤ-zero, +ℤ_idl, +ℤ_idr}
use Rattle.base_num.specs.Sums.{sum_to, total, entry, dot, Term, same_place, coefficient, placed}
use Rattle.base_num.proofs.Ring.{ring, var, ◌⊕◌, ◌⊗◌}
use Rattle.base_num.proofs.Sums.{sum_ext, sum_zero, sum_add, sum_times, sum_same, All_head, All_tail, dot_sum}
use Rattle.base_num.proofs.Fronts.{sum_more}
use Rattle.problem.specs.Limits.{terms_fit}
use Rattle.problem.specs.declared.parts.Decision.{Decision}
use Rattle.theory.specs.declared.cut.Cut.{Cut}
use Rattle.theory.specs.Pools.{no_cut}
use Rattle.theory.specs.Size.{magnitude, magnitudes, coefficient_size, reach}
use Rattle.cut_make.specs.SizeByTerms.{count_by, over_decisions, over_values, term_by, terms_by, numbers_by, decision_amount, cut_amount, found_amount}

-- sums of natural numbers as sums of whole numbers
pub pos-sum_by : {A : Type 0} (f : A → ℕ) (xs : List A) → pos (sum_by f xs) ≡ total (λ x. pos (f x)) xs
pos-sum_by f [] = refl
pos-sum_by f (x ∷ xs) = ap pos (sum_by-cons f x xs) ∙ ap (λ (k : ℤ). pos (f x) +ℤ k) (pos-sum_by f xs)

pub pos-count_by : (n : ℕ) (f : ℕ → ℕ) → pos (count_by n f) ≡ sum_to n (λ k. pos (f k))
pos-count_by zero f = refl
pos-count_by (suc n) f = ap (λ (k : ℤ). k +ℤ pos (f n)) (pos-count_by n f) ∙ sym (sum_more n (λ k. pos (f k)))

pub total_ext_all : {A : Type 0} (P : A → Type 0) (f g : A → ℤ) (xs : List A) → All P xs → ((x : A) → P x → f x ≡ g x) → total f xs ≡ total g xs
total_ext_all P f g [] h k = refl
total_ext_all P f g (x ∷ xs) h k = ap₂ ◌+ℤ◌ (k x (All_head P x xs h)) (total_ext_all P f g xs (All_tail P x xs h) k)

-- the factor of a variable, where the terms' variables rise
term_rises : (count least : ℕ) (t : Term) (ts : List Term) → terms_fit count least (t ∷ ts) ≡ true → (least ≤ t.0) × (t.0 < count)
term_rises count least t ts e = grind (arith, nat_tests)

terms_rise : (count least : ℕ) (t : Term) (ts : List Term) → terms_fit count least (t ∷ ts) ≡ true → terms_fit count (t.0 + 1) ts ≡ true
terms_rise count least t ts e = grind (arith, nat_tests)

same_below : (i j : ℕ) → j < i → same_place i j ≡ pos 0
same_below zero j h = absurd (omega arith)
same_below (suc i) zero h = refl
same_below (suc i) (suc j) h = same_below i j (omega arith)

same_above : (i j : ℕ) → i < j → same_place i j ≡ pos 0
same_above i zero h = absurd (omega arith)
same_above zero (suc j) h = refl
same_above (suc i) (suc j) h = same_above i j (omega arith)

nothing_below : (f : ℤ → ℤ) (count least : ℕ) (ts : List Term) (j : ℕ) → terms_fit count least ts ≡ true → j < least → total (λ (t : Term). f t.1 *ℤ same_place t.0 j) ts ≡ pos 0
nothing_below f count least [] j e h = refl
nothing_below f count least (t ∷ ts) j e h =
    let r = term_rises count least t ts e in
    ap₂ ◌+ℤ◌ (ap (λ (k : ℤ). f t.1 *ℤ k) (same_below t.0 j (omega (arith, r.0))) ∙ *ℤ-zero (f t.1)) (nothing_below f count (t.0 + 1) ts j (terms_rise count least t ts e) (omega (arith, r.0)))

size_same_place : (x : ℤ) (i j : ℕ) → magnitude (x *ℤ same_place i j) ≡ magnitude x *ℤ same_place i j
size_same_place x zero zero = omega (arith, ints)
size_same_place x zero (suc j) = ap magnitude (*ℤ-zero x) ∙ sym (*ℤ-zero (magnitude x))
size_same_place x (suc i) zero = ap magnitude (*ℤ-zero x) ∙ sym (*ℤ-zero (magnitude x))
size_same_place x (suc i) (suc j) = size_same_place x i j

-- the absolute value of a variable's factor is the sum of the absolute values of its terms
pub size_coefficient-rising : (count least : ℕ) (ts : List Term) (j : ℕ) → terms_fit count least ts ≡ true → magnitude (coefficient ts j) ≡ coefficient_size ts j
size_coefficient-rising count least [] j e = refl
size_coefficient-rising count least (t ∷ ts) j e =
    let tail = terms_rise count least t ts e in
    ⊎_elim
    (λ (l : t.0 < j).
    let z : same_place t.0 j ≡ pos 0 = same_above t.0 j l in
    ap magnitude (ap (λ (k : ℤ). k +ℤ coefficient ts j) (ap (λ (k : ℤ). t.1 *ℤ k) z ∙ *ℤ-zero t.1) ∙ +ℤ_idl (coefficient ts j))
    ∙ size_coefficient-rising count (t.0 + 1) ts j tail
    ∙ sym (ap (λ (k : ℤ). k +ℤ coefficient_size ts j) (ap (λ (k : ℤ). magnitude t.1 *ℤ k) z ∙ *ℤ-zero (magnitude t.1)) ∙ +ℤ_idl (coefficient_size ts j)))
    (λ (l : j ≤ t.0).
    ap magnitude (ap (λ (k : ℤ). t.1 *ℤ same_place t.0 j +ℤ k) (nothing_below (λ x. x) count (t.0 + 1) ts j tail (omega arith)) ∙ +ℤ_idr (t.1 *ℤ same_place t.0 j))
    ∙ size_same_place t.1 t.0 j
    ∙ sym (ap (λ (k : ℤ). magnitude t.1 *ℤ same_place t.0 j +ℤ k) (nothing_below magnitude count (t.0 + 1) ts j tail (omega arith)) ∙ +ℤ_idr (magnitude t.1 *ℤ same_place t.0 j)))
    (cases_lt t.0 j)

-- a sum over the variables is a sum over the terms
pub at_variables : (n : ℕ) (x : ℕ → ℤ) (ts : List Term) → All (λ (t : Term). t.0 < n) ts → sum_to n (λ j. x j *ℤ coefficient_size ts j) ≡ total (λ (t : Term). magnitude t.1 *ℤ x t.0) ts
at_variables n x [] h = sum_zero n (λ j. x j *ℤ pos 0) (λ k p. *ℤ-zero (x k))
at_variables n x (t ∷ ts) h =
    sum_ext n (λ j. x j *ℤ (magnitude t.1 *ℤ same_place t.0 j +ℤ coefficient_size ts j)) (λ j. magnitude t.1 *ℤ (same_place t.0 j *ℤ x j) +ℤ x j *ℤ coefficient_size ts j)
    (λ j p. ring (x j ∷ magnitude t.1 ∷ same_place t.0 j ∷ coefficient_size ts j ∷ []) (var 0 ⊗ (var 1 ⊗ var 2 ⊕ var 3)) (var 1 ⊗ (var 2 ⊗ var 0) ⊕ var 0 ⊗ var 3) tt)
    ∙ sum_add n (λ j. magnitude t.1 *ℤ (same_place t.0 j *ℤ x j)) (λ j. x j *ℤ coefficient_size ts j)
    ∙ ap₂ ◌+ℤ◌ (sum_times n (magnitude t.1) (λ j. same_place t.0 j *ℤ x j) ∙ ap (λ (k : ℤ). magnitude t.1 *ℤ k) (sum_same n t.0 x (All_head (λ (u : Term). u.0 < n) t ts h))) (at_variables n x ts (All_tail (λ (u : Term). u.0 < n) t ts h))

pub terms_inside : (count least : ℕ) (ts : List Term) → terms_fit count least ts ≡ true → All (λ (t : Term). t.0 < count) ts
terms_inside count least [] e = λ k d h. absurd (omega arith)
terms_inside count least (t ∷ ts) e = All-cons (λ (u : Term). u.0 < count) t ts (term_rises count least t ts e).1 (terms_inside count (t.0 + 1) ts (terms_rise count least t ts e))

pub terms_of : (f : ℕ → ℕ) (ts : List Term) → total (λ (t : Term). magnitude t.1 *ℤ pos (f t.0)) ts ≡ pos (terms_by f ts)
terms_of f ts = sym (pos-sum_by (term_by f) ts)

-- the terms of a row, by variables and one after another
pub row_terms : (n : ℕ) (f : ℕ → ℕ) (ts : List Term) → terms_fit n 0 ts ≡ true → sum_to n (λ j. pos (f j) *ℤ magnitude (coefficient ts j)) ≡ pos (terms_by f ts)
row_terms n f ts e =
    sum_ext n (λ j. pos (f j) *ℤ magnitude (coefficient ts j)) (λ j. pos (f j) *ℤ coefficient_size ts j) (λ j p. ap (λ (k : ℤ). pos (f j) *ℤ k) (size_coefficient-rising n 0 ts j e))
    ∙ at_variables n (λ j. pos (f j)) ts (terms_inside n 0 ts e) ∙ terms_of f ts

-- the slopes of a cut
placed-zip : (ps : List ℕ) (xs : List ℤ) → placed ps xs ≡ zip ps xs
placed-zip [] xs = refl
placed-zip (p ∷ ps) [] = refl
placed-zip (p ∷ ps) (x ∷ xs) = ap (λ (k : List Term). (p, x) ∷ k) (placed-zip ps xs)

outs_inside : (n : ℕ) (ps : List ℕ) (xs : List ℤ) → list_all (λ o. nat_lt o n) ps ≡ true → All (λ (t : Term). t.0 < n) (placed ps xs)
outs_inside n [] xs e = λ k d h. absurd (omega arith)
outs_inside n (p ∷ ps) [] e = λ k d h. absurd (omega arith)
outs_inside n (p ∷ ps) (x ∷ xs) e = All-cons (λ (u : Term). u.0 < n) (p, x) (placed ps xs) (grind (arith, nat_tests)) (outs_inside n ps xs (grind (arith, nat_tests)))

pub cut_terms : (n : ℕ) (f : ℕ → ℕ) (ps : List ℕ) (xs : List ℤ) → list_all (λ o. nat_lt o n) ps ≡ true → sum_to n (λ j. pos (f j) *ℤ coefficient_size (placed ps xs) j) ≡ pos (terms_by f (zip ps xs))
cut_terms n f ps xs e = at_variables n (λ j. pos (f j)) (placed ps xs) (outs_inside n ps xs e) ∙ terms_of f (placed ps xs) ∙ ap (λ (k : List Term). pos (terms_by f k)) (placed-zip ps xs)

-- the ends of the decisions' boxes
pub reach-decisions : (ds : List Decision) (j : ℕ) → reach (map (λ (d : Decision). d.low) ds) (map (λ (d : Decision). d.high) ds) j ≡ pos (over_decisions ds j)
reach-decisions [] j = refl
reach-decisions (d ∷ ds) zero = refl
reach-decisions (d ∷ ds) (suc j) = reach-decisions ds j

-- the costs
pub decision_costs : (ds : List Decision) → sum_to (length ds) (λ j. pos (over_decisions ds j) *ℤ magnitude (entry (map (λ (d : Decision). d.cost) ds) j)) ≡ pos (sum_by decision_amount ds)
decision_costs [] = refl
decision_costs (d ∷ ds) = ap (λ (k : ℤ). pos (decision_amount d) +ℤ k) (decision_costs ds) ∙ ap pos (sym (sum_by-cons decision_amount d ds))

pub numbers_at : (f : ℕ → ℕ) (zs : List ℤ) → sum_to (length zs) (λ k. pos (f k) *ℤ magnitude (entry zs k)) ≡ pos (numbers_by f zs)
numbers_at f zs =
    sum_ext (length zs) (λ k. pos (f k) *ℤ magnitude (entry zs k)) (λ k. pos (nat_abs (entry zs k) * f k)) (λ k p. ring (pos (f k) ∷ magnitude (entry zs k) ∷ []) (var 0 ⊗ var 1) (var 1 ⊗ var 0) tt)
    ∙ sym (pos-count_by (length zs) (λ k. nat_abs (entry zs k) * f k))

entry_magnitudes : (zs : List ℤ) (k : ℕ) → entry (magnitudes zs) k ≡ magnitude (entry zs k)
entry_magnitudes [] k = refl
entry_magnitudes (z ∷ zs) zero = refl
entry_magnitudes (z ∷ zs) (suc k) = entry_magnitudes zs k

length_magnitudes : (zs : List ℤ) → length (magnitudes zs) ≡ length zs
length_magnitudes [] = refl
length_magnitudes (z ∷ zs) = ap suc (length_magnitudes zs)

pub random_costs : (zs values : List ℤ) → dot (magnitudes zs) (magnitudes values) ≡ pos (numbers_by (over_values values) zs)
random_costs zs values =
    dot_sum (magnitudes zs) (magnitudes values)
    ∙ ap (λ (n : ℕ). sum_to n (λ j. entry (magnitudes zs) j *ℤ entry (magnitudes values) j)) (length_magnitudes zs)
    ∙ sum_ext (length zs) (λ j. entry (magnitudes zs) j *ℤ entry (magnitudes values) j) (λ k. pos (nat_abs (entry zs k) * over_values values k)) (λ k p. ap₂ ◌*ℤ◌ (entry_magnitudes zs k) (entry_magnitudes values k))
    ∙ sym (pos-count_by (length zs) (λ k. nat_abs (entry zs k) * over_values values k))

-- the cut at a place of a pool
no_slopes : (ds : List Decision) (outs : List ℕ) → 0 ≡ cut_amount ds outs no_cut
no_slopes ds [] = refl
no_slopes ds (o ∷ os) = refl

pub found_cut : (ds : List Decision) (outs : List ℕ) (cuts : List Cut) (i : ℕ) → found_amount ds outs (slice_get cuts i) ≡ cut_amount ds outs (get_or cuts i no_cut)
found_cut ds outs [] i = no_slopes ds outs
found_cut ds outs (c ∷ cs) zero = refl
found_cut ds outs (c ∷ cs) (suc i) = found_cut ds outs cs i
