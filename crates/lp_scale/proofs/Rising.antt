-- Terms that are scaled stand in the columns where they stood.
use Rattle.std.proofs.Common.{◌≡◌, ℕ, suc, ◌<◌, ◌≤◌, ℤ, List, [], ◌∷◌, Option, Some, None, refl, sym, subst}
use Rattle.std.specs.Option.{option_map, option_and_then}
use Rattle.lp_program.specs.Proper as program
use Rattle.lp_table.specs.Shape.{AreTermsRising}
use Rattle.base_num.specs.Each.{each_from}
use Rattle.lp_scale.specs.Exponents.{ColumnTerm}
use Rattle.lp_scale.specs.Appending.{scaled_term, scaled_terms}

each_rising : (f : ℕ → ColumnTerm → Option (ℕ × ℤ)) (least n k : ℕ) (ts : List ColumnTerm) (ys : List (ℕ × ℤ)) → ((k : ℕ) (t : ColumnTerm) (y : ℕ × ℤ) → f k t ≡ Some y → y.0 ≡ t.0) → program.AreRising least n ts → each_from f k ts ≡ Some ys → AreTermsRising least n ys
each_rising f least n k [] ys keeps r e = subst (AreTermsRising least n) (some_is e) tt
  where
    some_is : {A : Type 0} {x y : A} → Some x ≡ Some y → x ≡ y
    some_is h = cc
each_rising f least n k (t ∷ ts) ys keeps r e = by (f k t) (each_from f (suc k) ts) (keeps k t) (λ zs. each_rising f (suc t.0) n (suc k) ts zs keeps r.2) e
  where
    some_is : {A : Type 0} {x y : A} → Some x ≡ Some y → x ≡ y
    some_is h = cc

    by : (o : Option (ℕ × ℤ)) (tail : Option (List (ℕ × ℤ))) → ((y : ℕ × ℤ) → o ≡ Some y → y.0 ≡ t.0) → ((zs : List (ℕ × ℤ)) → tail ≡ Some zs → AreTermsRising (suc t.0) n zs) → option_and_then (λ y. option_map (λ zs. y ∷ zs) tail) o ≡ Some ys → AreTermsRising least n ys
    by None tail c a h = absurd (cc)
    by (Some y) None c a h = absurd (cc)
    by (Some y) (Some zs) c a h =
        let s = c y refl in
        subst (AreTermsRising least n) (some_is h) (subst (λ (j : ℕ). least ≤ j) (sym s) r.0, subst (λ (j : ℕ). j < n) (sym s) r.1, subst (λ (j : ℕ). AreTermsRising (suc j) n zs) (sym s) (a zs refl))

term_column : (fs : List ℤ) (e : ℤ) (t : ColumnTerm) (y : ℕ × ℤ) → scaled_term fs e t ≡ Some y → y.0 ≡ t.0
unfolding scaled_term
term_column fs e t y h = by _ h
  where
    by : (o : Option ℤ) → option_map (λ (a : ℤ). (t.0, a)) o ≡ Some y → y.0 ≡ t.0
    by None k = absurd (cc)
    by (Some a) k = cc

pub scaled_rising : (fs : List ℤ) (e : ℤ) (n : ℕ) (ts : List ColumnTerm) (ys : List (ℕ × ℤ)) → program.AreRising 0 n ts → scaled_terms fs e ts ≡ Some ys → AreTermsRising 0 n ys
unfolding scaled_terms
scaled_rising fs e n ts ys r h = each_rising (λ k t. scaled_term fs e t) 0 n 0 ts ys (λ k t y. term_column fs e t y) r h
