-- Cuts that cover others.
use Rattle.std.proofs.Common.{◌≡◌, ◌∙◌, ℕ, zero, suc, ◌+◌, ◌<◌, ◌≤◌, ℤ, List, [], ◌∷◌, ◌++◌, length, map, get_or, All, ◌⊎◌, inl, inr, add-one, refl, ap, ap₂, sym, subst, arith}
use Rattle.std.proofs.Math.ListN.{get_or-append}
use Rattle.std.proofs.Math.Seq.{get_or-append_seam}
use Rattle.std.proofs.lemmas.List.{length-append}
use Rattle.std.proofs.lemmas.Int.{ints}
use Rattle.lp_program.specs.PackedCut.{PackedCut, no_packed_cut}
use Rattle.lp_program.specs.Covering.{value_of, packed_cut_at, IsBefore, Covers, IsCovered, AreRisingPlaces, CoverAll}
use Rattle.cut_pool.specs.Active.{CoverFirst, IsLeft, AreMarkedFirst, IsMarked, AreFirst, IsActive, AreTaken}
use Rattle.cut_pool.specs.declared.active_cuts.Active.{Active}

-- a place is below where they end
pub place_below : (least count k : ℕ) (ps : List ℕ) → AreRisingPlaces least count ps → k < length ps → get_or ps k 0 < count
place_below least count k [] r h = absurd (omega (arith, h))
place_below least count zero (p ∷ ps) r h = r.1
place_below least count (suc k) (p ∷ ps) r h = place_below (suc p) count k ps r.2 (omega (arith, h))

-- a later end
pub rising_up : (least count more : ℕ) (ps : List ℕ) → AreRisingPlaces least count ps → count ≤ more → AreRisingPlaces least more ps
rising_up least count more [] r h = tt
rising_up least count more (p ∷ ps) r h = (r.0, omega (arith, r.1, h), rising_up (suc p) count more ps r.2 h)

-- one place more
pub rising_more : (least p : ℕ) (ps : List ℕ) → AreRisingPlaces least p ps → least ≤ p → AreRisingPlaces least (suc p) (ps ++ p ∷ [])
rising_more least p [] r h = (h, omega arith, tt)
rising_more least p (q ∷ ps) r h = (r.0, omega (arith, r.1), rising_more (suc q) p ps r.2 (omega (arith, r.1)))

before_refl : (i : ℕ) (x : ℤ) → IsBefore i x i x
before_refl i x = inr (omega (arith, ints), omega arith)

before_trans : (i j k : ℕ) (x y z : ℤ) → IsBefore i x j y → IsBefore j y k z → IsBefore i x k z
before_trans i j k x y z (inl h) (inl g) = inl (omega (arith, ints, h, g))
before_trans i j k x y z (inl h) (inr g) = inl (omega (arith, ints, h, g.0))
before_trans i j k x y z (inr h) (inl g) = inl (omega (arith, ints, h.0, g))
before_trans i j k x y z (inr h) (inr g) = inr (omega (arith, ints, h.0, g.0), omega (arith, h.1, g.1))

pub covers_refl : (all : List PackedCut) (lows highs : List ℤ) (i : ℕ) → Covers all lows highs i i
covers_refl all lows highs i = λ xs inside. before_refl i (value_of (packed_cut_at all i) xs)

pub covers_trans : (all : List PackedCut) (lows highs : List ℤ) (i j k : ℕ) → Covers all lows highs i j → Covers all lows highs j k → Covers all lows highs i k
covers_trans all lows highs i j k a b = λ xs inside. before_trans i j k (value_of (packed_cut_at all i) xs) (value_of (packed_cut_at all j) xs) (value_of (packed_cut_at all k) xs) (a xs inside) (b xs inside)

-- a covered cut stays so with more places
pub covered_more : (all : List PackedCut) (lows highs : List ℤ) (ps qs : List ℕ) (j : ℕ) → IsCovered all lows highs ps j → IsCovered all lows highs (ps ++ qs) j
covered_more all lows highs ps qs j c = record {
  by = c.by;
  there = omega (arith, c.there, length-append ps qs);
  covers = subst (λ (i : ℕ). Covers all lows highs i j) (sym (get_or-append ps qs 0 c.by c.there)) c.covers;
}

-- the last place covers
pub covered_last : (all : List PackedCut) (lows highs : List ℤ) (ps : List ℕ) (p j : ℕ) → Covers all lows highs p j → IsCovered all lows highs (ps ++ p ∷ []) j
covered_last all lows highs ps p j c = record {
  by = length ps;
  there = omega (arith, length-append ps (p ∷ []));
  covers = subst (λ (i : ℕ). Covers all lows highs i j) (sym (get_or-append_seam ps p [] 0)) c;
}

-- the last place is covered
pub covered_own : (all : List PackedCut) (lows highs : List ℤ) (ps : List ℕ) (p : ℕ) → IsCovered all lows highs (ps ++ p ∷ []) p
covered_own all lows highs ps p = covered_last all lows highs ps p p (covers_refl all lows highs p)

-- a cut that a covered cut covers
pub covered_on : (all : List PackedCut) (lows highs : List ℤ) (ps : List ℕ) (i j : ℕ) → IsCovered all lows highs ps i → Covers all lows highs i j → IsCovered all lows highs ps j
covered_on all lows highs ps i j c d = record {
  by = c.by;
  there = c.there;
  covers = covers_trans all lows highs (get_or ps c.by 0) i j c.covers d;
}

-- the last of some numbers or one before it
pub last_or_before : (j k : ℕ) → j < suc k → (j < k) ⊎ (j ≡ k)
last_or_before zero zero h = inr refl
last_or_before zero (suc k) h = inl (omega arith)
last_or_before (suc j) zero h = absurd (omega (arith, h))
last_or_before (suc j) (suc k) h = further (last_or_before j k (omega (arith, h)))
  where
    further : ((j < k) ⊎ (j ≡ k)) → (suc j < suc k) ⊎ (suc j ≡ suc k)
    further (inl a) = inl (omega (arith, a))
    further (inr e) = inr (ap suc e)

-- with those that are left and the new one the first cuts and the new one are covered
pub covered_with : (all : List PackedCut) (lows highs : List ℤ) (room : List ℕ) (p q j : ℕ) → IsLeft all lows highs p room q → Covers all lows highs q j → IsCovered all lows highs (room ++ p ∷ []) j
covered_with all lows highs room p q j (inl a) c = covered_on all lows highs (room ++ p ∷ []) q j (covered_more all lows highs room (p ∷ []) q a) c
covered_with all lows highs room p q j (inr b) c = covered_on all lows highs (room ++ p ∷ []) q j (covered_last all lows highs room p q b) c

pub first_with : (all : List PackedCut) (lows highs : List ℤ) (ps room new : List ℕ) (p : ℕ) → CoverFirst all p ps lows highs → AreRisingPlaces 0 p room → ((k : ℕ) → k < length ps → IsLeft all lows highs p room (get_or ps k 0)) → new ≡ room ++ p ∷ [] → CoverFirst all (p + 1) new lows highs
first_with all lows highs ps room new p before rising left put = rw (add-one, put) (record {
  rising = rising_more 0 p room rising (omega arith);
  covered = λ j h. here j (last_or_before j p h);
})
  where
    here : (j : ℕ) → ((j < p) ⊎ (j ≡ p)) → IsCovered all lows highs (room ++ p ∷ []) j
    here j (inl a) = let c = before.covered j a in covered_with all lows highs room p (get_or ps c.by 0) j (left c.by c.there) c.covers
    here j (inr e) = subst (λ (n : ℕ). IsCovered all lows highs (room ++ p ∷ []) n) (sym e) (covered_own all lows highs room p)

-- no place goes, and the new one is put behind them
pub first_pushed : (all : List PackedCut) (lows highs : List ℤ) (ps : List ℕ) (p : ℕ) → CoverFirst all p ps lows highs → CoverFirst all (p + 1) (ps ++ p ∷ []) lows highs
first_pushed all lows highs ps p before = first_with all lows highs ps ps (ps ++ p ∷ []) p before before.rising (λ k h. inl (record {
  by = k;
  there = h;
  covers = covers_refl all lows highs (get_or ps k 0);
})) refl

-- the new one is covered already
pub first_covered : (all : List PackedCut) (lows highs : List ℤ) (ps : List ℕ) (p : ℕ) → CoverFirst all p ps lows highs → IsCovered all lows highs ps p → CoverFirst all (p + 1) ps lows highs
first_covered all lows highs ps p before own = rw add-one (record {
  rising = rising_up 0 p (suc p) ps before.rising (omega arith);
  covered = λ j h. here j (last_or_before j p h);
})
  where
    here : (j : ℕ) → ((j < p) ⊎ (j ≡ p)) → IsCovered all lows highs ps j
    here j (inl a) = before.covered j a
    here j (inr e) = subst (λ (n : ℕ). IsCovered all lows highs ps n) (sym e) own

-- cuts that cover the first ones cover all where there are no more
pub all_first : (all : List PackedCut) (lows highs : List ℤ) (ps : List ℕ) (n : ℕ) → CoverFirst all n ps lows highs → n ≡ length all → CoverAll all ps lows highs
all_first all lows highs ps n first e = record {
  rising = subst (λ (m : ℕ). AreRisingPlaces 0 m ps) e first.rising;
  covered = λ j h. first.covered j (omega (arith, h, e));
}

-- two lists have the same first cuts
abbrev pub AreSameTo : ℕ → List PackedCut → List PackedCut → Type 0
AreSameTo n all others = (i : ℕ) → i < n → packed_cut_at all i ≡ packed_cut_at others i

-- what covers the first cuts of a list covers those of each list with the same first cuts
pub first_among : (all others : List PackedCut) (lows highs : List ℤ) (ps : List ℕ) (n : ℕ) → AreSameTo n all others → CoverFirst all n ps lows highs → CoverFirst others n ps lows highs
first_among all others lows highs ps n same first = record {
  rising = first.rising;
  covered = λ j h. among j h (first.covered j h);
}
  where
    among : (j : ℕ) → j < n → IsCovered all lows highs ps j → IsCovered others lows highs ps j
    among j h own = record {
      by = own.by;
      there = own.there;
      covers = λ xs inside. subst (λ (d : PackedCut). IsBefore (get_or ps own.by 0) (value_of (packed_cut_at others (get_or ps own.by 0)) xs) j (value_of d xs)) (same j h)
          (subst (λ (d : PackedCut). IsBefore (get_or ps own.by 0) (value_of d xs) j (value_of (packed_cut_at all j) xs)) (same (get_or ps own.by 0) (place_below 0 n own.by ps first.rising own.there)) (own.covers xs inside));
    }

-- one cut more leaves the first cuts as they are
pub same_with : (all : List PackedCut) (c : PackedCut) → AreSameTo (length all) all (all ++ c ∷ [])
same_with all c = λ i h. sym (get_or-append all (c ∷ []) no_packed_cut i h)

-- the cover of cuts that are read
pub covered_read : (all : List PackedCut) (lows highs los his : List ℤ) (ps qs : List ℕ) (p : ℕ) → los ≡ lows → his ≡ highs → qs ≡ ps → CoverFirst all p ps lows highs → IsCovered all los his qs p → CoverFirst all (p + 1) ps lows highs
covered_read all lows highs los his ps qs p el eh eq before own = first_covered all lows highs ps p before (rw (el, eh, eq) at own)

pub with_read : (all : List PackedCut) (lows highs los his : List ℤ) (ps qs room new : List ℕ) (p : ℕ) → los ≡ lows → his ≡ highs → qs ≡ ps → CoverFirst all p ps lows highs → AreRisingPlaces 0 p room → ((k : ℕ) → k < length qs → IsLeft all los his p room (get_or qs k 0)) → new ≡ room ++ p ∷ [] → CoverFirst all (p + 1) new lows highs
with_read all lows highs los his ps qs room new p el eh eq before rising left put = first_with all lows highs ps room new p before rising (rw (el, eh, eq) at left) put

-- the cuts at places are the same in a list with the same first cuts
same_cuts : (all others : List PackedCut) (least n : ℕ) (ps : List ℕ) → AreSameTo n all others → AreRisingPlaces least n ps → map (packed_cut_at all) ps ≡ map (packed_cut_at others) ps
same_cuts all others least n [] same r = refl
same_cuts all others least n (p ∷ ps) same r = ap₂ (λ (x : PackedCut) (xs : List PackedCut). x ∷ xs) (same p r.1) (same_cuts all others (suc p) n ps same r.2)

-- rising places are below where they end
pub all_below : (least count : ℕ) (ps : List ℕ) → AreRisingPlaces least count ps → All (λ (p : ℕ). p < count) ps
all_below least count [] r k d l = absurd (omega (arith, l))
all_below least count (p ∷ ps) r zero d l = r.1
all_below least count (p ∷ ps) r (suc k) d l = all_below (suc p) count ps r.2 k d (omega (arith, l))

-- the cuts of a list are the first of a list with the same first cuts
pub active_among : (all others : List PackedCut) (n : ℕ) (a : Active) → n ≡ length all → AreSameTo n all others → IsActive all a → AreFirst others n a
active_among all others n a e same is =
    let rising : AreRisingPlaces 0 n a.places.items = subst (λ (m : ℕ). AreRisingPlaces 0 m a.places.items) (sym e) is.cover.rising in
    let few : a.marked_count ≤ n = omega (arith, is.mark.few, e) in
    record {
      cover = first_among all others a.lows.items a.highs.items a.places.items n same (record {
        rising = rising;
        covered = λ j h. is.cover.covered j (omega (arith, h, e));
      });
      same = is.same ∙ same_cuts all others 0 n a.places.items same rising;
      coarse = is.coarse;
      mark = record {
        few = few;
        cover = first_among all others a.lows.items a.highs.items a.marked.items a.marked_count (λ i h. same i (omega (arith, h, few))) is.mark.cover;
      };
    }

-- with as many as there are they cover all
pub are_active : (all : List PackedCut) (n : ℕ) (a : Active) → AreFirst all n a → n ≡ length all → IsActive all a
are_active all n a first e = record {
  cover = all_first all a.lows.items a.highs.items a.places.items n first.cover e;
  same = first.same;
  coarse = first.coarse;
  mark = subst (λ (m : ℕ). AreMarkedFirst all m a) e first.mark;
}

-- the places of the mark are those of cuts
pub marked_below : (all : List PackedCut) (a : Active) (ps : List ℕ) → IsMarked all a → a.marked_count ≡ length all → ps ≡ a.marked.items → All (λ (p : ℕ). p < length all) ps
marked_below all a ps mark e same = rw same (all_below 0 (length all) a.marked.items (subst (λ (n : ℕ). AreRisingPlaces 0 n a.marked.items) e (mark e).rising))

-- the cuts at the places that are taken cover the first cuts and one more
pub places_taken : (all : List PackedCut) (p : ℕ) (qs : List ℕ) (old mid new : Active) → AreFirst all p old → CoverFirst all (p + 1) qs old.lows.items old.highs.items → mid.lows.items ≡ old.lows.items → mid.highs.items ≡ old.highs.items → mid.marked.items ≡ old.marked.items → mid.marked_count ≡ old.marked_count → AreTaken all qs mid new → AreFirst all (p + 1) new
places_taken all p qs old mid new before cover lows highs marked count taken = record {
  cover = rw (taken.places, taken.lows, taken.highs, lows, highs) cover;
  same = taken.same;
  coarse = taken.coarse;
  mark = record {
    few = omega (arith, taken.marked_count, count, before.mark.few);
    cover = rw (taken.marked, taken.marked_count, taken.lows, taken.highs, lows, highs, marked, count) before.mark.cover;
  };
}
