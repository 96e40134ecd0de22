-- Two lists side by side, and places that are the same or not.
use Rattle.std.proofs.Common.{◌≡◌, ℕ, zero, suc, ◌+◌, ◌<◌, ℤ, pos, ◌+ℤ◌, List, length, min, zip, take, get_or, map, refl, ap, ap₂, sym, ◌∙◌, add-one, arith}
use Rattle.std.proofs.lemmas.Slice.Zip.{get_or-zip, length-zip}
use Rattle.base_num.specs.Sums.{sum_to, total, entry, same_place}
use Rattle.base_num.proofs.Fronts.{total_more, sum_more}
use Rattle.problem.specs.declared.parts.Decision.{Decision}
use Rattle.std.proofs.lemmas.List.{get_or-map}

-- a sum over two lists with one pair more
pub totals_more : {A B : Type 0} (f : A × B → ℤ) (ks : List A) (vs : List B) (i n : ℕ) (x c : A) (y d : B) (s t : ℤ) → n ≡ min (length ks) (length vs) → i < n → x ≡ get_or ks i c → y ≡ get_or vs i d
    → s ≡ total f (take i (zip ks vs)) → t ≡ s +ℤ f (x, y) → t ≡ total f (take (i + 1) (zip ks vs))
totals_more {A} {B} f ks vs i n x c y d s t m h p q e k =
    let same : f (x, y) ≡ f (get_or (zip ks vs) i (c, d)) = ap₂ (λ (u : A) (v : B). f (u, v)) p q ∙ ap f (sym (get_or-zip ks vs i (c, d) (omega (arith, h, m)) (omega (arith, h, m)))) in
    k ∙ ap₂ ◌+ℤ◌ e same ∙ sym (total_more f (zip ks vs) i (c, d) (let l = length-zip ks vs in omega (arith, l, h, m)))

pub place_same : (i j : ℕ) → i ≡ j → pos 1 ≡ same_place i j
place_same zero zero e = refl
place_same zero (suc j) e = absurd (omega (arith, e))
place_same (suc i) zero e = absurd (omega (arith, e))
place_same (suc i) (suc j) e = place_same i j (omega (arith, e))

pub place_other : (i j : ℕ) → ¬ (i ≡ j) → pos 0 ≡ same_place i j
place_other zero zero n = absurd (n refl)
place_other zero (suc j) n = refl
place_other (suc i) zero n = refl
place_other (suc i) (suc j) n = place_other i j (λ e. n (ap suc e))

-- a sum with one number more
pub total_step : {A : Type 0} (f : A → ℤ) (xs : List A) (i : ℕ) (d : A) (s t : ℤ) → i < length xs → s ≡ total f (take i xs) → t ≡ s +ℤ f (get_or xs i d) → t ≡ total f (take (i + 1) xs)
total_step f xs i d s t h e k = k ∙ ap (λ (z : ℤ). z +ℤ f (get_or xs i d)) e ∙ sym (total_more f xs i d h)

pub sum_step : (f : ℕ → ℤ) (i : ℕ) (s t : ℤ) → s ≡ sum_to i f → t ≡ s +ℤ f i → t ≡ sum_to (i + 1) f
sum_step f i s t e k = k ∙ ap (λ (z : ℤ). z +ℤ f i) e ∙ sym (sum_more i f) ∙ ap (λ (n : ℕ). sum_to n f) (sym (add-one i))

-- the ends of a decision's box
pub low_at : (ds : List Decision) (j : ℕ) (d : Decision) → j < length ds → d ≡ get_or ds j d → d.low ≡ entry (map (λ (e : Decision). e.low) ds) j
low_at ds j d h e = ap (λ (k : Decision). k.low) e ∙ sym (get_or-map (λ (k : Decision). k.low) ds j d (pos 0) h)

pub high_at : (ds : List Decision) (j : ℕ) (d : Decision) → j < length ds → d ≡ get_or ds j d → d.high ≡ entry (map (λ (e : Decision). e.high) ds) j
high_at ds j d h e = ap (λ (k : Decision). k.high) e ∙ sym (get_or-map (λ (k : Decision). k.high) ds j d (pos 0) h)
