-- The ends of the slopes of the first cuts of a list, and of one more.
use Rattle.std.proofs.Common.{◌≡◌, ◌∙◌, ⊎_elim, ℕ, ◌+◌, ◌<◌, ◌≤◌, ◌^◌, ℤ, pos, List, [], ◌∷◌, ◌++◌, length, get_or, set, max, nat_abs, All, ◌⊎◌, inl, inr, arith, ap, ap₂, sym, subst}
use Rattle.std.proofs.Math.Nat.{le-max_left, le-max_right, max-eq_left, max-eq_right, max-le}
use Rattle.std.proofs.Math.ListN.{get_or-append}
use Rattle.std.proofs.Math.Seq.{get_or-append_seam}
use Rattle.std.proofs.lemmas.Bool.{cases_lt}
use Rattle.std.proofs.lemmas.List.{length-append, get_or_past, get_or_default, get_or-set_same, get_or-set_other}
use Rattle.std.proofs.lemmas.List.Elements.{All-append, All-cons, All-nil}
use Rattle.base_num.specs.Sums.{entry}
use Rattle.lp_program.specs.PackedCut.{PackedCut}
use Rattle.lp_program.specs.Covering.{packed_cut_at}
use Rattle.lp_program.specs.SlopeEnds.{IsLevel, IsUndercut}
use Rattle.cut_pool.specs.SlopeRanges.{IsReachedFirst, AreEndsOfFirst}
use Rattle.cut_pool.specs.declared.slope_range.SlopeRange.{SlopeRange}
use Rattle.cut_pool.proofs.Covered.{last_or_before}

-- what holds of the numbers below another holds of that one too
pub for_more : (P : ℕ → Type 0) (k : ℕ) → ((j : ℕ) → j < k → P j) → P k → (j : ℕ) → j < k + 1 → P j
for_more P k h p j l = ⊎_elim (λ (a : j < k). h j a) (λ (e : j ≡ k). subst P (sym e) p) (last_or_before j k (omega (arith, l)))

-- a property of two lists of equal length, which holds of two zeros too
pub everywhere : (P : ℤ → ℤ → Type 0) (xs ys : List ℤ) → length xs ≡ length ys → P (pos 0) (pos 0) → ((j : ℕ) → j < length xs → P (entry xs j) (entry ys j)) → (j : ℕ) → P (entry xs j) (entry ys j)
everywhere P xs ys same none h j =
    ⊎_elim (λ (a : j < length xs). h j a)
    (λ (a : length xs ≤ j). subst (λ (x : ℤ). P x (entry ys j)) (sym (get_or_past xs j (pos 0) a)) (subst (P (pos 0)) (sym (get_or_past ys j (pos 0) (omega (arith, a, same)))) none))
    (cases_lt j (length xs))

-- the greater of two sizes
abbrev pub raised : ℤ → ℤ → ℤ
raised a b = pos (max (nat_abs a) (nat_abs b))

-- one more is raised
pub one_raised : (old now slopes : List ℤ) (k : ℕ) (b : ℤ) → k < length now → ((i : ℕ) → i < k → entry now i ≡ raised (entry old i) (entry slopes i)) → b ≡ raised (entry old k) (entry slopes k) → (i : ℕ) → i < k + 1 → entry (set now k b) i ≡ raised (entry old i) (entry slopes i)
one_raised old now slopes k b l done is i m =
    for_more (λ (n : ℕ). entry (set now k b) n ≡ raised (entry old n) (entry slopes n)) k
    (λ n h. get_or-set_other now k n b (pos 0) (λ e. omega (arith, e, h)) ∙ done n h)
    (get_or-set_same now k b (pos 0) l ∙ is) i m

-- the others stay
pub others_stay : (old now : List ℤ) (k : ℕ) (b : ℤ) → ((i : ℕ) → k ≤ i → entry now i ≡ entry old i) → (i : ℕ) → k + 1 ≤ i → entry (set now k b) i ≡ entry old i
others_stay old now k b rest i m = get_or-set_other now k i b (pos 0) (λ e. omega (arith, e, m)) ∙ rest i (omega (arith, m))

-- where one of the cuts has the size of the greatest slope of a state, with one cut more
reached_more : (all : List PackedCut) (count j : ℕ) (old new : ℤ) → new ≡ raised old (entry (packed_cut_at all count).slopes j) → (old ≡ pos 0) ⊎ IsReachedFirst all count j (nat_abs old) → (new ≡ pos 0) ⊎ IsReachedFirst all (count + 1) j (nat_abs new)
reached_more all count j old new is h = by (cases_lt (nat_abs old) (nat_abs own))
  where
    own : ℤ
    own = entry (packed_cut_at all count).slopes j

    stays : nat_abs own ≤ nat_abs old → new ≡ pos (nat_abs old)
    stays l = is ∙ ap pos (max-eq_left l)

    from : nat_abs own ≤ nat_abs old → (old ≡ pos 0) ⊎ IsReachedFirst all count j (nat_abs old) → (new ≡ pos 0) ⊎ IsReachedFirst all (count + 1) j (nat_abs new)
    from l (inl e) = inl (stays l ∙ ap (λ (z : ℤ). pos (nat_abs z)) e)
    from l (inr r) = inr (record { by = r.by; there = omega (arith, r.there); size = r.size ∙ sym (ap nat_abs (stays l)) })

    by : (nat_abs old < nat_abs own) ⊎ (nat_abs own ≤ nat_abs old) → (new ≡ pos 0) ⊎ IsReachedFirst all (count + 1) j (nat_abs new)
    by (inl l) = inr (record { by = count; there = omega arith; size = sym (ap nat_abs (is ∙ ap pos (max-eq_right (omega (arith, l))))) })
    by (inr l) = from l h

-- a cut that is undercut stays so with more places
undercut_more : (all : List PackedCut) (ps qs : List ℕ) (c : PackedCut) → IsUndercut all ps c → IsUndercut all (ps ++ qs) c
undercut_more all ps qs c u = record {
  by = u.by;
  there = omega (arith, u.there, length-append ps qs);
  digits = subst (λ (i : ℕ). (j n : ℕ) → nat_abs (entry c.slopes j) < 2 ^ n → nat_abs (entry (packed_cut_at all i).slopes j) < 2 ^ n) (sym (get_or-append ps qs 0 u.by u.there)) u.digits;
}

-- the cut at the last place is undercut by itself
undercut_own : (all : List PackedCut) (ps : List ℕ) (p : ℕ) → IsUndercut all (ps ++ p ∷ []) (packed_cut_at all p)
undercut_own all ps p = record {
  by = length ps;
  there = omega (arith, length-append ps (p ∷ []));
  digits = subst (λ (i : ℕ). (j n : ℕ) → nat_abs (entry (packed_cut_at all p).slopes j) < 2 ^ n → nat_abs (entry (packed_cut_at all i).slopes j) < 2 ^ n) (sym (get_or-append_seam ps p [] 0)) (λ j n h. h);
}

-- the ends with one cut more, which is level or undercut
pub ends_more : (all : List PackedCut) (count : ℕ) (old new : SlopeRange) → length (packed_cut_at all count).slopes ≡ length old.greatest.items → AreEndsOfFirst all count old → length new.greatest.items ≡ length old.greatest.items → ((j : ℕ) → j < length old.greatest.items → entry new.greatest.items j ≡ raised (entry old.greatest.items j) (entry (packed_cut_at all count).slopes j)) → All (λ s. nat_abs s < 2 ^ 57) (packed_cut_at all count).slopes → All (λ p. p < count + 1) new.least.items → ((k : ℕ) → k < count → IsLevel (packed_cut_at all k) ⊎ IsUndercut all old.least.items (packed_cut_at all k) → IsLevel (packed_cut_at all k) ⊎ IsUndercut all new.least.items (packed_cut_at all k)) → IsLevel (packed_cut_at all count) ⊎ IsUndercut all new.least.items (packed_cut_at all count) → AreEndsOfFirst all (count + 1) new
ends_more all count old new there e same is small places stay own = record {
  states = λ k l. for_more (λ (i : ℕ). length (packed_cut_at all i).slopes ≡ length new.greatest.items) count (λ i m. e.states i m ∙ sym same) (there ∙ sym same) k l;
  small = λ k d l.
      let m : k < length old.greatest.items = omega (arith, l, same) in
      let s : k < length (packed_cut_at all count).slopes = omega (arith, m, there) in
      let got = get_or_default new.greatest.items k d (pos 0) l ∙ is k m in
      subst (λ (z : ℤ). nat_abs z < 2 ^ 57) (sym got) (omega (arith, max-le (e.small k (pos 0) m) (small k (pos 0) s)));
  greatest = λ k j l. for_more (λ (i : ℕ). nat_abs (entry (packed_cut_at all i).slopes j) ≤ nat_abs (entry new.greatest.items j)) count
      (λ i m. omega (arith, e.greatest i j m, subst (λ (z : ℤ). nat_abs (entry old.greatest.items j) ≤ nat_abs z) (sym (each j)) (le-max_left (nat_abs (entry old.greatest.items j)) (nat_abs (entry (packed_cut_at all count).slopes j)))))
      (subst (λ (z : ℤ). nat_abs (entry (packed_cut_at all count).slopes j) ≤ nat_abs z) (sym (each j)) (le-max_right (nat_abs (entry old.greatest.items j)) (nat_abs (entry (packed_cut_at all count).slopes j))))
      k l;
  reached = λ j. reached_more all count j (entry old.greatest.items j) (entry new.greatest.items j) (each j) (e.reached j);
  there = places;
  least = λ k l. for_more (λ (i : ℕ). IsLevel (packed_cut_at all i) ⊎ IsUndercut all new.least.items (packed_cut_at all i)) count (λ i m. stay i m (e.least i m)) own k l;
}
  where
    each : (j : ℕ) → entry new.greatest.items j ≡ raised (entry old.greatest.items j) (entry (packed_cut_at all count).slopes j)
    each j =
        ⊎_elim (λ (a : j < length old.greatest.items). is j a)
        (λ (a : length old.greatest.items ≤ j).
        get_or_past new.greatest.items j (pos 0) (omega (arith, a, same))
        ∙ sym (ap₂ raised (get_or_past old.greatest.items j (pos 0) a) (get_or_past (packed_cut_at all count).slopes j (pos 0) (omega (arith, a, there)))))
        (cases_lt j (length old.greatest.items))

-- the places stay
pub known : (all : List PackedCut) (count : ℕ) (old new : SlopeRange) → length (packed_cut_at all count).slopes ≡ length old.greatest.items → AreEndsOfFirst all count old → length new.greatest.items ≡ length old.greatest.items → ((j : ℕ) → j < length old.greatest.items → entry new.greatest.items j ≡ raised (entry old.greatest.items j) (entry (packed_cut_at all count).slopes j)) → All (λ s. nat_abs s < 2 ^ 57) (packed_cut_at all count).slopes → new.least.items ≡ old.least.items → IsLevel (packed_cut_at all count) ⊎ IsUndercut all old.least.items (packed_cut_at all count) → AreEndsOfFirst all (count + 1) new
known all count old new there e same is small stay own =
    ends_more all count old new there e same is small
    (subst (λ (ps : List ℕ). All (λ p. p < count + 1) ps) (sym stay) (λ k d l. let m = e.there k d l in omega (arith, m)))
    (λ k l h. subst (λ (ps : List ℕ). IsLevel (packed_cut_at all k) ⊎ IsUndercut all ps (packed_cut_at all k)) (sym stay) h)
    (subst (λ (ps : List ℕ). IsLevel (packed_cut_at all count) ⊎ IsUndercut all ps (packed_cut_at all count)) (sym stay) own)

-- the place of the cut is put to the others
pub put : (all : List PackedCut) (count : ℕ) (old new : SlopeRange) → length (packed_cut_at all count).slopes ≡ length old.greatest.items → AreEndsOfFirst all count old → length new.greatest.items ≡ length old.greatest.items → ((j : ℕ) → j < length old.greatest.items → entry new.greatest.items j ≡ raised (entry old.greatest.items j) (entry (packed_cut_at all count).slopes j)) → All (λ s. nat_abs s < 2 ^ 57) (packed_cut_at all count).slopes → new.least.items ≡ old.least.items ++ count ∷ [] → AreEndsOfFirst all (count + 1) new
put all count old new there e same is small more =
    ends_more all count old new there e same is small
    (subst (λ (ps : List ℕ). All (λ p. p < count + 1) ps) (sym more) (All-append (λ p. p < count + 1) old.least.items (count ∷ []) (λ k d l. let m = e.there k d l in omega (arith, m)) (All-cons (λ p. p < count + 1) count [] (omega arith) (All-nil (λ p. p < count + 1)))))
    (λ k l h. subst (λ (ps : List ℕ). IsLevel (packed_cut_at all k) ⊎ IsUndercut all ps (packed_cut_at all k)) (sym more) (still k h))
    (subst (λ (ps : List ℕ). IsLevel (packed_cut_at all count) ⊎ IsUndercut all ps (packed_cut_at all count)) (sym more) (inr (undercut_own all old.least.items count)))
  where
    still : (k : ℕ) → IsLevel (packed_cut_at all k) ⊎ IsUndercut all old.least.items (packed_cut_at all k) → IsLevel (packed_cut_at all k) ⊎ IsUndercut all (old.least.items ++ count ∷ []) (packed_cut_at all k)
    still k (inl h) = inl h
    still k (inr h) = inr (undercut_more all old.least.items (count ∷ []) (packed_cut_at all k) h)

-- the ends of the first cuts of a list are those of the first cuts of a longer one
pub among : (all more : List PackedCut) (count : ℕ) (r : SlopeRange) → ((k : ℕ) → k < count → packed_cut_at all k ≡ packed_cut_at more k) → AreEndsOfFirst all count r → AreEndsOfFirst more count r
among all more count r same e = record {
  states = λ k l. subst (λ (c : PackedCut). length c.slopes ≡ length r.greatest.items) (same k l) (e.states k l);
  small = e.small;
  greatest = λ k j l. subst (λ (c : PackedCut). nat_abs (entry c.slopes j) ≤ nat_abs (entry r.greatest.items j)) (same k l) (e.greatest k j l);
  reached = λ j. again j (e.reached j);
  there = e.there;
  least = λ k l. subst (λ (c : PackedCut). IsLevel c ⊎ IsUndercut more r.least.items c) (same k l) (still (packed_cut_at all k) (e.least k l));
}
  where
    again : (j : ℕ) → (entry r.greatest.items j ≡ pos 0) ⊎ IsReachedFirst all count j (nat_abs (entry r.greatest.items j)) → (entry r.greatest.items j ≡ pos 0) ⊎ IsReachedFirst more count j (nat_abs (entry r.greatest.items j))
    again j (inl h) = inl h
    again j (inr h) = inr (record { by = h.by; there = h.there; size = subst (λ (c : PackedCut). nat_abs (entry c.slopes j) ≡ nat_abs (entry r.greatest.items j)) (same h.by h.there) h.size })

    still : (c : PackedCut) → IsLevel c ⊎ IsUndercut all r.least.items c → IsLevel c ⊎ IsUndercut more r.least.items c
    still c (inl h) = inl h
    still c (inr h) = inr (record {
      by = h.by;
      there = h.there;
      digits = subst (λ (d : PackedCut). (j n : ℕ) → nat_abs (entry c.slopes j) < 2 ^ n → nat_abs (entry d.slopes j) < 2 ^ n) (same (get_or r.least.items h.by 0) (e.there h.by 0 h.there)) h.digits;
    })
