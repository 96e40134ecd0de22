-- What is left where one entry of a list goes.
use Rattle.std.proofs.Common.{◌≡◌, ◌∙◌, ℕ, zero, suc, ◌+◌, ◌*◌, ◌<◌, ◌≤◌, ◌^◌, ℤ, pos, ◌+ℤ◌, ◌*ℤ◌, ◌≤ℤ◌, List, [], ◌∷◌, ◌++◌, length, map, take, drop, get_or, nat_abs, All, ◌⊎◌, inl, inr, ap, ap₂, sym, subst, refl, arith}
use Rattle.std.specs.List.{remove}
use Rattle.std.proofs.lemmas.List.{length-append, length-drop, length-take-le, take-append-le, drop-append-le, drop-take, take-take, drop-drop}
use Rattle.std.proofs.lemmas.List.Edits.{length-remove, get_or-remove_below, get_or-remove_above}
use Rattle.std.proofs.lemmas.List.Elements.{All-append, All-take, All-drop}
use Rattle.base_num.specs.Sums.{entry}
use Rattle.lp_program.specs.PackedCut.{PackedCut, no_packed_cut, cuts_of, ArePacked}
use Rattle.lp_program.specs.Coarse.{AreHeights, AreSteeps}
use Rattle.lp_program.specs.Covering.{packed_cut_at, AreRisingPlaces, Covers}
use Rattle.cut_pool.specs.Active.{IsLeft}
use Rattle.cut_pool.proofs.Covered.{covers_refl, covers_trans}
use Rattle.cut_pool.proofs.MoreCuts.{times_up}

map_remove : (f : ℕ → PackedCut) (ps : List ℕ) (k : ℕ) → k < length ps → map f (remove ps k) ≡ remove (map f ps) k
map_remove f [] k h = absurd (omega (arith, h))
map_remove f (p ∷ ps) zero h = refl
map_remove f (p ∷ ps) (suc k) h = ap (λ (cs : List PackedCut). f p ∷ cs) (map_remove f ps k (omega (arith, h)))

-- the copies of the cuts at the places that are left
pub copies_removed : (all : List PackedCut) (ps : List ℕ) (old new : List PackedCut) (k : ℕ) → k < length ps → old ≡ map (packed_cut_at all) ps → new ≡ remove old k → new ≡ map (packed_cut_at all) (remove ps k)
copies_removed all ps old new k h same put = put ∙ ap (λ (cs : List PackedCut). remove cs k) same ∙ sym (map_remove (packed_cut_at all) ps k h)

-- places that rise from an earlier one on
rising_down : (least more count : ℕ) (ps : List ℕ) → AreRisingPlaces more count ps → least ≤ more → AreRisingPlaces least count ps
rising_down least more count [] r h = tt
rising_down least more count (p ∷ ps) r h = (omega (arith, r.0, h), r.1, r.2)

pub rising_removed : (least count k : ℕ) (ps : List ℕ) → AreRisingPlaces least count ps → k < length ps → AreRisingPlaces least count (remove ps k)
rising_removed least count k [] r h = absurd (omega (arith, h))
rising_removed least count zero (p ∷ ps) r h = rising_down least (suc p) count ps r.2 (omega (arith, r.0))
rising_removed least count (suc k) (p ∷ ps) r h = (r.0, r.1, rising_removed (suc p) count k ps r.2 (omega (arith, h)))

-- each cut of the list is left
pub left_own : (all : List PackedCut) (lows highs : List ℤ) (ps : List ℕ) (p k : ℕ) → k < length ps → IsLeft all lows highs p ps (get_or ps k 0)
left_own all lows highs ps p k h = inl (record {
  by = k;
  there = h;
  covers = covers_refl all lows highs (get_or ps k 0);
})

-- a number is before another, the same, or behind it
before_or_not : (j k : ℕ) → (j < k) ⊎ ((j ≡ k) ⊎ (k < j))
before_or_not zero zero = inr (inl refl)
before_or_not zero (suc k) = inl (omega arith)
before_or_not (suc j) zero = inr (inr (omega arith))
before_or_not (suc j) (suc k) = further (before_or_not j k)
  where
    further : ((j < k) ⊎ ((j ≡ k) ⊎ (k < j))) → (suc j < suc k) ⊎ ((suc j ≡ suc k) ⊎ (suc k < suc j))
    further (inl a) = inl (omega (arith, a))
    further (inr (inl e)) = inr (inl (ap suc e))
    further (inr (inr b)) = inr (inr (omega (arith, b)))

-- the place that covers a cut stays, or it goes and the new cut covers it
still_left : (all : List PackedCut) (lows highs : List ℤ) (ps : List ℕ) (p k q b : ℕ) → k < length ps → Covers all lows highs p (get_or ps k 0) → b < length ps → Covers all lows highs (get_or ps b 0) q → (b < k) ⊎ ((b ≡ k) ⊎ (k < b)) → IsLeft all lows highs p (remove ps k) q
still_left all lows highs ps p k q b h c there d (inl less) = inl (record {
  by = b;
  there = omega (arith, less, h, length-remove ps k h);
  covers = subst (λ (i : ℕ). Covers all lows highs i q) (sym (get_or-remove_below ps k 0 b less h)) d;
})
still_left all lows highs ps p k q b h c there d (inr (inl e)) = inr (covers_trans all lows highs p (get_or ps k 0) q c (subst (λ (i : ℕ). Covers all lows highs (get_or ps i 0) q) e d))
still_left all lows highs ps p k q zero h c there d (inr (inr more)) = absurd (omega (arith, more))
still_left all lows highs ps p k q (suc b) h c there d (inr (inr more)) = inl (record {
  by = b;
  there = omega (arith, there, length-remove ps k h);
  covers = subst (λ (i : ℕ). Covers all lows highs i q) (sym (get_or-remove_above ps k 0 b (omega (arith, more)) h ∙ ap (λ (i : ℕ). get_or ps i 0) (omega arith))) d;
})

pub left_removed : (all : List PackedCut) (lows highs : List ℤ) (ps : List ℕ) (p k q : ℕ) → k < length ps → Covers all lows highs p (get_or ps k 0) → IsLeft all lows highs p ps q → IsLeft all lows highs p (remove ps k) q
left_removed all lows highs ps p k q h c (inl a) = still_left all lows highs ps p k q a.by h c a.there a.covers (before_or_not a.by k)
left_removed all lows highs ps p k q h c (inr b) = inr b

-- what is so for each cut and its number stays so without one cut and its number
pairs_without : (P : PackedCut → ℕ → Type 0) (cuts : List PackedCut) (ns : List ℕ) (k : ℕ) → length ns ≡ length cuts → k < length cuts → ((i : ℕ) → i < length cuts → P (get_or cuts i no_packed_cut) (get_or ns i 0)) → (i : ℕ) → i < length (remove cuts k) → P (get_or (remove cuts k) i no_packed_cut) (get_or (remove ns k) i 0)
pairs_without P [] ns k e h all i l = absurd (omega (arith, h))
pairs_without P (c ∷ cs) [] k e h all i l = absurd (omega (arith, e))
pairs_without P (c ∷ cs) (n ∷ ns) zero e h all i l = all (suc i) (omega (arith, l))
pairs_without P (c ∷ cs) (n ∷ ns) (suc k) e h all zero l = all zero (omega arith)
pairs_without P (c ∷ cs) (n ∷ ns) (suc k) e h all (suc i) l = pairs_without P cs ns k (omega (arith, e)) (omega (arith, h)) (λ j m. all (suc j) (omega (arith, m))) i (omega (arith, l))

same_count : (cuts : List PackedCut) (ns : List ℕ) (k : ℕ) → length ns ≡ length cuts → k < length cuts → length (remove ns k) ≡ length (remove cuts k)
same_count cuts ns k e h = omega (arith, e, length-remove cuts k h, length-remove ns k (omega (arith, e, h)))

pub heights_removed : (shift k : ℕ) (base : ℤ) (cuts : List PackedCut) (hs new : List ℕ) → k < length cuts → AreHeights shift base cuts hs → (k < length hs → new ≡ remove hs k) → AreHeights shift base (remove cuts k) new
heights_removed shift k base cuts hs new h are put = rw (put (omega (arith, h, are.count))) (record {
  count = same_count cuts hs k are.count h;
  above = pairs_without (λ (c : PackedCut) (n : ℕ). (c.height *ℤ pos (2 ^ 24)) ≤ℤ ((base +ℤ pos n) *ℤ pos (2 ^ shift))) cuts hs k are.count h are.above;
})

pub steeps_removed : (shift k j : ℕ) (cuts : List PackedCut) (ss new : List ℕ) → k < length cuts → AreSteeps shift cuts j ss → (k < length ss → new ≡ remove ss k) → AreSteeps shift (remove cuts k) j new
steeps_removed shift k j cuts ss new h are put = rw (put (omega (arith, h, are.count))) (record {
  count = same_count cuts ss k are.count h;
  falls = pairs_without (λ (c : PackedCut) (n : ℕ). (entry c.slopes j +ℤ pos (n * 2 ^ shift)) ≤ℤ pos 0) cuts ss k are.count h are.falls;
})

-- what is so for all entries is so for those that are left
pub All-remove : {X : Type 0} (P : X → Type 0) (k : ℕ) (xs : List X) → All P xs → All P (remove xs k)
All-remove P k xs all = All-append P (take k xs) (drop (suc k) xs) (All-take P k xs all) (All-drop P (suc k) xs all)

-- the numbers of the slopes of a cut
pub slopes_fit : (n k : ℕ) (hs bs : List ℤ) → length bs ≡ length hs * n → k < length hs → k * n + n ≤ length bs
slopes_fit n k hs bs e h = omega (arith, e, times_up (k + 1) (length hs) n (omega (arith, h)))

-- the cuts without one of them
cuts_of_removed : (n k : ℕ) (hs bs : List ℤ) → length bs ≡ length hs * n → k < length hs → cuts_of n (remove hs k) (take (k * n) bs ++ drop (k * n + n) bs) ≡ remove (cuts_of n hs bs) k
cuts_of_removed n k [] bs e h = absurd (omega (arith, h))
cuts_of_removed n zero (g ∷ hs) bs e h =
    let none : zero * n ≡ zero = omega arith in
    ap (cuts_of n hs) (ap₂ (λ (i j : ℕ). take i bs ++ drop j bs) none (omega (arith, none)))
cuts_of_removed n (suc k) (g ∷ hs) bs e h =
    let whole : suc k * n ≡ n + k * n = omega arith in
    let fit : suc k * n + n ≤ length bs = slopes_fit n (suc k) (g ∷ hs) bs e h in
    let fits : n ≤ length (take (suc k * n) bs) = omega (arith, whole, fit, length-take-le (suc k * n) bs (omega (arith, fit))) in
    let rest : List ℤ = drop (suc k * n + n) bs in
    let less : drop n (take (suc k * n) bs) ≡ take (k * n) (drop n bs) = ap (λ (m : ℕ). drop n (take m bs)) whole ∙ drop-take n (k * n) bs in
    let more : rest ≡ drop (k * n + n) (drop n bs) = ap (λ (m : ℕ). drop m bs) (omega (arith, whole)) ∙ sym (drop-drop (k * n + n) n bs) in
    ap₂ (λ (ss : List ℤ) (tail : List PackedCut). record { height = g; slopes = ss } ∷ tail)
    (take-append-le n (take (suc k * n) bs) rest fits ∙ take-take n (suc k * n) bs (omega (arith, whole)))
    (ap (cuts_of n (remove hs k)) (drop-append-le n (take (suc k * n) bs) rest fits ∙ ap₂ (λ (xs ys : List ℤ). xs ++ ys) less more)
    ∙ cuts_of_removed n k hs (drop n bs) (omega (arith, e, length-drop n bs)) (omega (arith, h)))

pub seen_removed : (n k : ℕ) (hs bs gs ss : List ℤ) (old : List PackedCut) → length bs ≡ length hs * n → k < length hs → gs ≡ remove hs k → ss ≡ take (k * n) bs ++ drop (k * n + n) bs → cuts_of n hs bs ≡ old → cuts_of n gs ss ≡ remove old k
seen_removed n k hs bs gs ss old e h heights slopes same = rw (heights, slopes) (cuts_of_removed n k hs bs e h ∙ ap (λ (cs : List PackedCut). remove cs k) same)

pub packed_removed : (n k : ℕ) (hs bs gs ss : List ℤ) → ArePacked n hs bs → k < length hs → gs ≡ remove hs k → ss ≡ take (k * n) bs ++ drop (k * n + n) bs → ArePacked n gs ss
packed_removed n k hs bs gs ss p h heights slopes =
    let fewer : length (remove hs k) + 1 ≡ length hs = length-remove hs k h in
    let fit : k * n + n ≤ length bs = slopes_fit n k hs bs p.count h in
    let all : length hs * n ≡ length (remove hs k) * n + n = ap (λ (m : ℕ). m * n) (sym fewer) ∙ omega arith in
    rw (heights, slopes) (record {
      few = omega (arith, p.few, fewer);
      states = p.states;
      count = omega (arith, length-append (take (k * n) bs) (drop (k * n + n) bs), length-take-le (k * n) bs (omega (arith, fit)), length-drop (k * n + n) bs, fit, p.count, all);
      heights = All-remove (λ z. nat_abs z < 2 ^ 100) k hs p.heights;
      slopes = All-append (λ s. nat_abs s < 2 ^ 57) (take (k * n) bs) (drop (k * n + n) bs) (All-take (λ s. nat_abs s < 2 ^ 57) (k * n) bs p.slopes) (All-drop (λ s. nat_abs s < 2 ^ 57) (k * n + n) bs p.slopes);
    })
