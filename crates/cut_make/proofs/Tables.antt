-- A table that is kept modulo 2^128: one product more at an index.
use Rattle.std.proofs.Common.{◌≡◌, ℕ, zero, suc, ◌+◌, ◌<◌, ℤ, pos, ◌+ℤ◌, ◌-ℤ◌, ◌*ℤ◌, List, [], ◌∷◌, length, take, get_or, set, zip, replicate, add-one, arith, refl, ap, sym, subst, ◌∙◌}
use Rattle.std.proofs.Math.Logic.{⊎_elim}
use Rattle.std.proofs.lemmas.Bool.{cases_eq}
use Rattle.std.proofs.lemmas.List.{length-set, length-take, get_or-set_same, get_or-set_other, get_or-take}
use Rattle.std.specs.Int.{int_wrap}
use mir.Syntax.{w128}
use lib.IntN.{+ℤ_assoc}
use Rattle.std.proofs.lemmas.Int.{ints}
use Rattle.base_num.specs.Sums.{total, entry, Term, same_place, placed}
use Rattle.base_num.proofs.Fronts.{total_more}
use Rattle.base_num.proofs.Ring.{ring, var, num, ◌⊕◌, ◌⊗◌, ⊖}
use Rattle.cut_make.specs.Congruent.{Congruent}
use Rattle.cut_make.specs.Tabled.{Tabled}
use Rattle.cut_make.proofs.Congruence.{same_add}
use Rattle.cut_make.proofs.Places.{place_same, place_apart}

pub tabled_as : (f g : ℕ → ℤ) (xs : List ℤ) → ((j : ℕ) → Congruent (f j) (g j)) → Tabled f xs → Tabled g xs
tabled_as f g xs e t = λ j h. t j h ∙ e j

pub tabled_at : (f : ℕ → ℤ) (xs : List ℤ) (p : ℕ) (v x y : ℤ) → p < length xs → Congruent v (entry xs p +ℤ x *ℤ y) → Tabled f xs → Tabled (λ j. f j +ℤ x *ℤ (y *ℤ same_place p j)) (set xs p v)
tabled_at f xs p v x y h e t = λ j k.
    let inside : j < length xs = subst (λ (n : ℕ). j < n) (length-set xs p v) k in
    ⊎_elim (λ (i : j ≡ p). subst (λ (q : ℕ). Congruent (entry (set xs p v) q) (f q +ℤ x *ℤ (y *ℤ same_place p q))) (sym i) here) (λ (i : j ≡ p → ⊥). there j inside i) (cases_eq j p)
  where
    here : Congruent (entry (set xs p v) p) (f p +ℤ x *ℤ (y *ℤ same_place p p))
    here =
        ap (int_wrap w128) (get_or-set_same xs p v (pos 0) h) ∙ e ∙ same_add (entry xs p) (x *ℤ y) (f p) (x *ℤ y) (t p h) refl
        ∙ ap (int_wrap w128) (ring (f p ∷ x ∷ y ∷ []) (var 0 ⊕ var 1 ⊗ var 2) (var 0 ⊕ var 1 ⊗ (var 2 ⊗ num (pos 1))) tt ∙ ap (λ (z : ℤ). f p +ℤ x *ℤ (y *ℤ z)) (sym (place_same p)))

    there : (j : ℕ) → j < length xs → (j ≡ p → ⊥) → Congruent (entry (set xs p v) j) (f j +ℤ x *ℤ (y *ℤ same_place p j))
    there j k i =
        ap (int_wrap w128) (get_or-set_other xs p j v (pos 0) i) ∙ t j k
        ∙ ap (int_wrap w128) (ring (f j ∷ x ∷ y ∷ []) (var 0) (var 0 ⊕ var 1 ⊗ (var 2 ⊗ num (pos 0))) tt ∙ ap (λ (z : ℤ). f j +ℤ x *ℤ (y *ℤ z)) (sym (place_apart p j (λ q. i (sym q)))))

pub tabled_front : (f : ℕ → ℤ) (xs : List ℤ) (n : ℕ) → Tabled f xs → Tabled f (take n xs)
tabled_front f xs n t = λ j h. ap (int_wrap w128) (get_or-take n xs j (pos 0) (omega (arith, h, length-take n xs))) ∙ t j (omega (arith, h, length-take n xs))

-- one summand more, times a multiplier
pub more_times : {A : Type 0} (part : A → ℤ) (xs : List A) (i : ℕ) (d : A) (b m z : ℤ) → i < length xs → z ≡ part (get_or xs i d) → b +ℤ m *ℤ total part (take i xs) +ℤ m *ℤ z ≡ b +ℤ m *ℤ total part (take (i + 1) xs)
more_times part xs i d b m z h e =
    ap (λ (k : ℤ). b +ℤ m *ℤ total part (take i xs) +ℤ m *ℤ k) e
    ∙ ring (b ∷ m ∷ total part (take i xs) ∷ part (get_or xs i d) ∷ []) (var 0 ⊕ var 1 ⊗ var 2 ⊕ var 1 ⊗ var 3) (var 0 ⊕ var 1 ⊗ (var 2 ⊕ var 3)) tt
    ∙ ap (λ (k : ℤ). b +ℤ m *ℤ k) (sym (total_more part xs i d h))

-- one summand more
pub more_plus : {A : Type 0} (part : A → ℤ) (xs : List A) (i : ℕ) (d : A) (b z : ℤ) → i < length xs → z ≡ part (get_or xs i d) → b +ℤ total part (take i xs) +ℤ z ≡ b +ℤ total part (take (i + 1) xs)
more_plus part xs i d b z h e = ap (λ (k : ℤ). b +ℤ total part (take i xs) +ℤ k) e ∙ +ℤ_assoc b (total part (take i xs)) (part (get_or xs i d)) ∙ ap (λ (k : ℤ). b +ℤ k) (sym (total_more part xs i d h))

-- one summand more, times a multiplier and taken away
pub more_less : {A : Type 0} (part : A → ℤ) (xs : List A) (i : ℕ) (d : A) (b m z : ℤ) → i < length xs → z ≡ part (get_or xs i d) → b -ℤ m *ℤ total part (take i xs) -ℤ m *ℤ z ≡ b -ℤ m *ℤ total part (take (i + 1) xs)
more_less part xs i d b m z h e =
    ap (λ (k : ℤ). b -ℤ m *ℤ total part (take i xs) -ℤ m *ℤ k) e
    ∙ ring (b ∷ m ∷ total part (take i xs) ∷ part (get_or xs i d) ∷ []) (var 0 ⊕ ⊖ (var 1 ⊗ var 2) ⊕ ⊖ (var 1 ⊗ var 3)) (var 0 ⊕ ⊖ (var 1 ⊗ (var 2 ⊕ var 3))) tt
    ∙ ap (λ (k : ℤ). b -ℤ m *ℤ k) (sym (total_more part xs i d h))

-- one summand more, taken away
pub more_taken : {A : Type 0} (part : A → ℤ) (xs : List A) (i : ℕ) (d : A) (b z : ℤ) → i < length xs → z ≡ part (get_or xs i d) → b -ℤ total part (take i xs) -ℤ z ≡ b -ℤ total part (take (i + 1) xs)
more_taken part xs i d b z h e =
    ap (λ (k : ℤ). b -ℤ total part (take i xs) -ℤ k) e
    ∙ ring (b ∷ total part (take i xs) ∷ part (get_or xs i d) ∷ []) (var 0 ⊕ ⊖ (var 1) ⊕ ⊖ (var 2)) (var 0 ⊕ ⊖ (var 1 ⊕ var 2)) tt
    ∙ ap (λ (k : ℤ). b -ℤ k) (sym (total_more part xs i d h))

-- one entry more
pub entry_more : (xs : List ℤ) (i j : ℕ) → i < length xs → entry (take (suc i) xs) j ≡ entry (take i xs) j +ℤ entry xs i *ℤ same_place i j
entry_more [] i j h = absurd (omega arith)
entry_more (x ∷ xs) zero zero h = omega (arith, ints)
entry_more (x ∷ xs) zero (suc j) h = omega (arith, ints)
entry_more (x ∷ xs) (suc i) zero h = omega (arith, ints)
entry_more (x ∷ xs) (suc i) (suc j) h = entry_more xs i j (omega arith)

pub placed_zip : (ps : List ℕ) (xs : List ℤ) → placed ps xs ≡ zip ps xs
placed_zip [] xs = refl
placed_zip (p ∷ ps) [] = refl
placed_zip (p ∷ ps) (x ∷ xs) = ap (λ (ts : List Term). (p, x) ∷ ts) (placed_zip ps xs)

-- a number more, times a factor
pub number_more : (xs : List ℤ) (i j : ℕ) (b k c : ℤ) → i < length xs → c ≡ entry xs i → b +ℤ k *ℤ entry (take i xs) j +ℤ k *ℤ (c *ℤ same_place i j) ≡ b +ℤ k *ℤ entry (take (i + 1) xs) j
number_more xs i j b k c h e =
    ap (λ (z : ℤ). b +ℤ k *ℤ entry (take i xs) j +ℤ k *ℤ (z *ℤ same_place i j)) e
    ∙ ring (b ∷ k ∷ entry (take i xs) j ∷ entry xs i ∷ same_place i j ∷ []) (var 0 ⊕ var 1 ⊗ var 2 ⊕ var 1 ⊗ (var 3 ⊗ var 4)) (var 0 ⊕ var 1 ⊗ (var 2 ⊕ var 3 ⊗ var 4)) tt
    ∙ ap (λ (z : ℤ). b +ℤ k *ℤ z) (sym (entry_more xs i j h)) ∙ ap (λ (n : ℕ). b +ℤ k *ℤ entry (take n xs) j) (sym (add-one i))

-- a table of zeros
zero_entries : (n j : ℕ) → entry (replicate n (pos 0)) j ≡ pos 0
zero_entries zero j = refl
zero_entries (suc n) zero = refl
zero_entries (suc n) (suc j) = zero_entries n j

pub zeros : (n : ℕ) → Tabled (λ j. pos 0) (replicate n (pos 0))
zeros n = λ j h. ap (int_wrap w128) (zero_entries n j)
