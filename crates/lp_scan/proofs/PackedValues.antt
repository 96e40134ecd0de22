-- The values of cuts that stand side by side are those of the rows that they stand for.
use Rattle.std.proofs.Common.{◌≡◌, ◌∙◌, ℕ, zero, suc, ◌+◌, ◌-◌, ◌^◌, ◌<◌, ◌≤◌, ℤ, pos, negsuc, ◌+ℤ◌, ◌*ℤ◌, neg_ℤ, nat_abs, ◌==◌, FitsSigned, Bool, true, false, cond, List, [], ◌∷◌, ◌++◌, length, length-append, take, drop, replicate, get_or, slice_get, All, Some, arith, refl, ap, ap₂, sym, subst}
use Rattle.std.specs.List.{flat_map}
use Rattle.std.specs.Option.{option_map}
use Rattle.std.specs.Int.{w64}
use Rattle.std.proofs.lemmas.Bool.{lt-ltb}
use Rattle.std.proofs.lemmas.Bool.Decides.{nat_tests}
use Rattle.std.proofs.lemmas.List.{drop_more, length-replicate, length-set}
use Rattle.std.proofs.Math.Seq.{take-append_seam}
use Rattle.base_num.specs.Sums.{entry, dot, floor_over}
use Rattle.base_num.proofs.Ring.{ring, var, num, ⊖, ◌⊕◌, ◌⊗◌}
use Rattle.base_num.proofs.Floors.{floor_exact}
use Rattle.lp_program.specs.declared.packed.Out.{Out}
use Rattle.lp_program.specs.Numbers.{one}
use Rattle.lp_program.specs.PackedCut.{PackedCut}
use Rattle.lp_program.specs.Covering.{value_of}
use Rattle.lp_program.specs.Packed.{at_scale, slope_term, packed_row}
use Rattle.lp_program.proofs.Behind.{slice_get-later}
use Rattle.lp_scale.specs.Walks.{walk}
use Rattle.lp_scale.specs.Exponents.{ColumnTerm}
use Rattle.lp_scale.specs.Waiting.{last_column, slopes_of, waits, waits_in}
use Rattle.lp_scan.specs.Values.{height_of, slope_of, plus_slope, cut_row_value, IsPlain, IsValueWithin}
use Rattle.lp_scan.specs.Packed.{short_or_zero, added, with_leaving, leaving_of}

-- a number that 64 bits hold stays
short_same : (z : ℤ) → FitsSigned w64 z → short_or_zero z ≡ z
short_same (pos n) h = ap (λ (b : Bool). cond b (pos n) (pos 0)) (lt-ltb n (2 ^ 63) (omega (arith, h)))
short_same (negsuc n) h = ap (λ (b : Bool). cond b (negsuc n) (pos 0)) (lt-ltb n (2 ^ 63) (omega (arith, h)))

-- the slope of a term that is written by it
slope_back : (s : ℤ) → slope_of (at_scale (neg_ℤ s)) ≡ s
slope_back s = ap (λ (z : ℤ). floor_over z (2 ^ 8)) (ring (s ∷ []) (⊖ (num (pos 256) ⊗ ⊖ (var 0))) (num (pos (2 ^ 8)) ⊗ var 0) tt) ∙ floor_exact (2 ^ 8) s (omega arith)

height_back : (h : ℤ) → height_of (Some (at_scale h)) ≡ h
height_back h = floor_exact (2 ^ 8) h (omega arith)

-- a slope of 0 adds nothing
no_step : (a s v : ℤ) → (nat_abs a == 0) ≡ true → s ≡ s +ℤ a *ℤ v
no_step a s v h = by a (grind (arith, nat_tests, h))
  where
    by : (b : ℤ) → nat_abs b ≡ 0 → s ≡ s +ℤ b *ℤ v
    by (pos zero) z = ring (s ∷ v ∷ []) (var 0) (var 0 ⊕ num (pos 0) ⊗ var 1) tt
    by (pos (suc n)) z = absurd (omega (arith, z))
    by (negsuc n) z = absurd (omega (arith, z))

-- the term of a slope adds the slope times what leaves as its state
term_step : (xs slopes : List ℤ) (o : Out) (s : ℤ) → FitsSigned w64 (entry xs o.decision) → plus_slope xs s (o.decision, at_scale (neg_ℤ (entry slopes o.state))) ≡ s +ℤ entry slopes o.state *ℤ short_or_zero (entry xs o.decision)
unfolding plus_slope
term_step xs slopes o s h = ap₂ (λ (a x : ℤ). s +ℤ a *ℤ x) (slope_back (entry slopes o.state)) (sym (short_same (entry xs o.decision) h))

-- a sum of products, where a number is added at a place
dot_added : (bs ls : List ℤ) (k : ℕ) (v : ℤ) → length bs ≤ length ls → dot bs (added k v ls) ≡ dot bs ls +ℤ entry bs k *ℤ v
dot_added [] ls k v h = ring (v ∷ []) (num (pos 0)) (num (pos 0) ⊕ num (pos 0) ⊗ var 0) tt
dot_added (b ∷ bs) [] k v h = absurd (omega (arith, h))
dot_added (b ∷ bs) (l ∷ ls) zero v h = ring (b ∷ l ∷ v ∷ dot bs ls ∷ []) (var 0 ⊗ (var 1 ⊕ var 2) ⊕ var 3) ((var 0 ⊗ var 1 ⊕ var 3) ⊕ var 0 ⊗ var 2) tt
dot_added (b ∷ bs) (l ∷ ls) (suc k) v h =
    ap (λ (z : ℤ). b *ℤ l +ℤ z) (dot_added bs ls k v (omega (arith, h)))
    ∙ ring (b ∷ l ∷ dot bs ls ∷ entry bs k ∷ v ∷ []) (var 0 ⊗ var 1 ⊕ (var 2 ⊕ var 3 ⊗ var 4)) ((var 0 ⊗ var 1 ⊕ var 2) ⊕ var 3 ⊗ var 4) tt

dot_zeros : (bs : List ℤ) (n : ℕ) → dot bs (replicate n (pos 0)) ≡ pos 0
dot_zeros [] n = refl
dot_zeros (b ∷ bs) zero = refl
dot_zeros (b ∷ bs) (suc n) = ap (λ (z : ℤ). b *ℤ pos 0 +ℤ z) (dot_zeros bs n) ∙ ring (b ∷ []) (var 0 ⊗ num (pos 0) ⊕ num (pos 0)) (num (pos 0)) tt

-- as far as the former list goes the latter counts
dot_front : (bs ls : List ℤ) (n : ℕ) → length bs ≤ n → dot bs (take n ls) ≡ dot bs ls
dot_front [] ls n h = refl
dot_front (b ∷ bs) ls zero h = absurd (omega (arith, h))
dot_front (b ∷ bs) [] (suc n) h = refl
dot_front (b ∷ bs) (l ∷ ls) (suc n) h = ap (λ (z : ℤ). b *ℤ l +ℤ z) (dot_front bs ls n (omega (arith, h)))

-- one product more
pub dot_more : (bs ls : List ℤ) (k : ℕ) (s p new whole : ℤ) → k < length bs → length bs ≡ length ls → whole ≡ s +ℤ dot (drop k bs) (drop k ls) → p ≡ entry bs k *ℤ entry ls k → new ≡ s +ℤ p → whole ≡ new +ℤ dot (drop (k + 1) bs) (drop (k + 1) ls)
dot_more bs ls k s p new whole l n w product is =
    let tail : ℤ = dot (drop (k + 1) bs) (drop (k + 1) ls) in
    w ∙ ap₂ (λ (us vs : List ℤ). s +ℤ dot us vs) (drop_more bs k (pos 0) l) (drop_more ls k (pos 0) (omega (arith, l, n)))
    ∙ ap (λ (z : ℤ). s +ℤ (z +ℤ tail)) (sym product)
    ∙ ring (s ∷ p ∷ tail ∷ []) (var 0 ⊕ (var 1 ⊕ var 2)) ((var 0 ⊕ var 1) ⊕ var 2) tt
    ∙ ap (λ (z : ℤ). z +ℤ tail) (sym is)

-- all slopes times their states, by terms and side by side
value_walk : (xs bs : List ℤ) (h : ℤ) (j k : ℕ) (ls : List ℤ) (outs : List Out) → length bs ≤ length ls → All (IsPlain xs) (flat_map (slope_term bs) outs) → walk (λ k s t. plus_slope xs s t) j (h +ℤ dot bs ls) (flat_map (slope_term bs) outs) ≡ h +ℤ dot bs (walk (λ k ls (o : Out). with_leaving xs ls o) k ls outs)
value_walk xs bs h j k ls [] n p = refl
value_walk xs bs h j k ls (o ∷ outs) n p = by (nat_abs (entry bs o.state) == 0) refl p (λ i q. value_walk xs bs h i (suc k) (with_leaving xs ls o) outs (omega (arith, n, length-set ls o.state (entry ls o.state +ℤ short_or_zero (entry xs o.decision)))) q)
  where
    a : ℤ
    a = entry bs o.state

    v : ℤ
    v = short_or_zero (entry xs o.decision)

    t : ColumnTerm
    t = (o.decision, at_scale (neg_ℤ a))

    tail : List ColumnTerm
    tail = flat_map (slope_term bs) outs

    sum : ℤ
    sum = h +ℤ dot bs ls

    more : ℤ
    more = h +ℤ dot bs (with_leaving xs ls o)

    adds : sum +ℤ a *ℤ v ≡ more
    adds = ring (h ∷ dot bs ls ∷ a ∷ v ∷ []) ((var 0 ⊕ var 1) ⊕ var 2 ⊗ var 3) (var 0 ⊕ (var 1 ⊕ var 2 ⊗ var 3)) tt ∙ ap (λ (z : ℤ). h +ℤ z) (sym (dot_added bs ls o.state v n))

    listed : ℕ → ℤ → List ColumnTerm → ℤ
    listed i z ts = walk (λ k s t. plus_slope xs s t) i z ts

    whole : ℤ
    whole = h +ℤ dot bs (walk (λ k ls (o : Out). with_leaving xs ls o) (suc k) (with_leaving xs ls o) outs)

    by : (b : Bool) → (nat_abs a == 0) ≡ b → All (IsPlain xs) (cond b [] (t ∷ []) ++ tail) → ((i : ℕ) → All (IsPlain xs) tail → listed i more tail ≡ whole) → listed j sum (cond b [] (t ∷ []) ++ tail) ≡ whole
    by true e p next = ap (λ (z : ℤ). listed j z tail) (no_step a sum v e ∙ adds) ∙ next j p
    by false e p next =
        let first : IsPlain xs t = p 0 t (omega arith) in
        ap (λ (z : ℤ). listed (suc j) z tail) (term_step xs bs o sum first.state ∙ adds) ∙ next (suc j) (λ i d l. p (suc i) d (omega (arith, l)))

-- the length but one of a list with one item behind it
but_one : {A : Type 0} (ts : List A) (t : A) → length (ts ++ t ∷ []) - 1 ≡ length ts
but_one ts t = omega (arith, length-append ts (t ∷ []))

front_terms : (ts : List ColumnTerm) (t : ColumnTerm) → slopes_of (ts ++ t ∷ []) ≡ ts
front_terms ts t = ap (λ (n : ℕ). take n (ts ++ t ∷ [])) (but_one ts t) ∙ take-append_seam ts (t ∷ [])

last_there : (ts : List ColumnTerm) (t : ColumnTerm) → last_column (ts ++ t ∷ []) ≡ Some t.0
last_there ts t =
    let none : length ts - length ts ≡ 0 = omega arith in
    ap (λ (n : ℕ). option_map (λ (u : ColumnTerm). u.0) (slice_get (ts ++ t ∷ []) n)) (but_one ts t)
    ∙ ap (option_map (λ (u : ColumnTerm). u.0)) (slice_get-later ts (t ∷ []) (length ts) (omega arith) ∙ ap (λ (n : ℕ). slice_get (t ∷ []) n) none)

-- the column of a cut's successor
pub packed_column : (outs : List Out) (column : ℕ) (c : PackedCut) → last_column (packed_row outs column c).terms ≡ Some column
packed_column outs column c = last_there (flat_map (slope_term c.slopes) outs) (column, one)

-- a cut waits where its column does
pub packed_waits : (ws : List Bool) (outs : List Out) (column : ℕ) (c : PackedCut) (b : Bool) → get_or ws column false ≡ b → waits ws (packed_row outs column c) ≡ b
unfolding waits
packed_waits ws outs column c b e = ap (waits_in ws) (packed_column outs column c) ∙ e

pub packed_same : (xs : List ℤ) (outs : List Out) (column : ℕ) (c : PackedCut) (n : ℕ) → length c.slopes ≡ n → n ≤ 50 → IsValueWithin xs (packed_row outs column c) → cut_row_value xs (packed_row outs column c) ≡ value_of c (take n (leaving_of xs outs))
unfolding cut_row_value leaving_of
packed_same xs outs column c n many few w =
    let ts : List ColumnTerm = flat_map (slope_term c.slopes) outs in
    let front : slopes_of (ts ++ (column, one) ∷ []) ≡ ts = front_terms ts (column, one) in
    let zeros : List ℤ = replicate 50 (pos 0) in
    let h : ℤ = c.height *ℤ pos (2 ^ 24) in
    let start : h ≡ h +ℤ dot c.slopes zeros = ring (h ∷ []) (var 0) (var 0 ⊕ num (pos 0)) tt ∙ ap (λ (z : ℤ). h +ℤ z) (sym (dot_zeros c.slopes 50)) in
    ap (λ (us : List ColumnTerm). walk (λ k s t. plus_slope xs s t) 0 (height_of (Some (at_scale c.height)) *ℤ pos (2 ^ 24)) us) front
    ∙ ap (λ (y : ℤ). walk (λ k s t. plus_slope xs s t) 0 (y *ℤ pos (2 ^ 24)) ts) (height_back c.height)
    ∙ ap (λ (y : ℤ). walk (λ k s t. plus_slope xs s t) 0 y ts) start
    ∙ value_walk xs c.slopes h 0 0 zeros outs (omega (arith, many, few, length-replicate 50 (pos 0))) (subst (All (IsPlain xs)) front w.slopes)
    ∙ ap (λ (z : ℤ). h +ℤ z) (sym (dot_front c.slopes (leaving_of xs outs) n (omega (arith, many))))
