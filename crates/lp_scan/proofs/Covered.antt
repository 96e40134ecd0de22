-- Find the greatest of cuts by some of them, by which all are covered.
use Rattle.std.proofs.Common.{◌≡◌, ◌∙◌, ◌⊎◌, inl, inr, ⊎_elim, ℕ, zero, suc, ◌+◌, ◌<◌, ◌≤◌, ℤ, ◌<ℤ◌, ◌≤ℤ◌, Bool, true, false, cond, int_lt, List, [], ◌∷◌, length, get_or, All, Option, Some, None, arith, refl, ap, ap₂, sym, subst}
use Rattle.std.proofs.lemmas.Bool.{cases_lt}
use Rattle.std.proofs.lemmas.Grind.{common_steps}
use Rattle.std.proofs.lemmas.Int.{ints}
use Rattle.lp_program.specs.PackedCut.{PackedCut}
use Rattle.lp_program.specs.Covering.{value_of, packed_cut_at, AreInside, IsBefore, IsCovered, AreRisingPlaces, CoverAll}
use Rattle.lp_scale.specs.Walks.{walk, count_from}
use Rattle.lp_scan.specs.Bounds.{IsFirst}
use Rattle.lp_scan.specs.Values.{Valued, is_value_greater, greater_valued}

-- go on from what holds below a number, and of that
pub for_more : (P : ℕ → Type 0) (k : ℕ) → ((j : ℕ) → j < k → P j) → P k → (j : ℕ) → j < k + 1 → P j
for_more P k h p j l = ⊎_elim (λ (a : j < k). h j a) (λ (a : k ≤ j). let e : k ≡ j = omega (arith, a, l) in subst P e p) (cases_lt j k)

pub both : (P : ℤ → ℤ → Type 0) (a b c d : ℤ) → a ≡ b → c ≡ d → P a c → P b d
both P a b c d e g h = subst (λ (x : ℤ). P x d) e (subst (P a) g h)

pub above : (x y : ℤ) → int_lt x y ≡ true → x <ℤ y
above x y e = grind (arith, ints, common_steps, e)

pub not_above : (x y : ℤ) → int_lt x y ≡ false → y ≤ℤ x
not_above x y e = grind (arith, ints, common_steps, e)

-- find the greatest so far of the values at some places
abbrev greatest_at : (ℕ → ℤ) → ℕ → ℕ → Option Valued → List ℕ → Option Valued
greatest_at f first k b ps = walk (λ k b (p : ℕ). greater_valued b (first + p, f p)) k b ps

-- say that no value is above the greatest so far
abbrev Stays : (ℕ → ℤ) → Option Valued → List ℕ → Option Valued → Type 0
Stays f b ps r = (r ≡ b) × All (λ (p : ℕ). is_value_greater b (f p) ≡ false) ps

-- say that a place is one of a list
record IsAmong (ps : List ℕ) (p : ℕ) : Type 0 where
  index : ℕ
  there : index < length ps
  is : get_or ps index 0 ≡ p

held : (P : ℕ → Type 0) (ps : List ℕ) (p : ℕ) → IsAmong ps p → All P ps → P p
held P ps p a h = subst P a.is (h a.index 0 a.there)

among_more : (q : ℕ) (ps : List ℕ) (p : ℕ) → IsAmong ps p → IsAmong (q ∷ ps) p
among_more q ps p a = let l = a.there in record { index = suc a.index; there = omega (arith, l); is = a.is }

-- say that the value at one of the places is above it, and before all
record Comes (f : ℕ → ℤ) (first : ℕ) (b : Option Valued) (ps : List ℕ) (r : Option Valued) : Type 0 where
  place : ℕ
  among : IsAmong ps place
  is : r ≡ Some (first + place, f place)
  more : is_value_greater b (f place) ≡ true
  before : All (λ (q : ℕ). IsBefore place (f place) q (f q)) ps

rising_more : (least count : ℕ) (ps : List ℕ) → AreRisingPlaces least count ps → All (λ (q : ℕ). least ≤ q) ps
rising_more least count [] h k d l = absurd (omega (arith, l))
rising_more least count (p ∷ ps) h zero d l = h.0
rising_more least count (p ∷ ps) h (suc k) d l = let a = h.0 in let r = rising_more (suc p) count ps h.2 k d (omega (arith, l)) in omega (arith, a, r)

-- rise from a value that is above the greatest so far to a greater one
greater_trans : (b : Option Valued) (x y : ℤ) → is_value_greater b x ≡ true → x <ℤ y → is_value_greater b y ≡ true
greater_trans None x y h l = refl
greater_trans (Some v) x y h l = let a = above v.1 x h in grind (arith, ints, common_steps, a, l)

greater_not : (b : Option Valued) (x y : ℤ) → is_value_greater b x ≡ false → is_value_greater b y ≡ true → x <ℤ y
greater_not None x y h g = absurd (cc)
greater_not (Some v) x y h g = let a = not_above v.1 x h in let c = above v.1 y g in omega (arith, ints, a, c)

-- rise to one that is not the lesser
greater_more : (b : Option Valued) (x y : ℤ) → is_value_greater b x ≡ true → x ≤ℤ y → is_value_greater b y ≡ true
greater_more None x y h l = refl
greater_more (Some v) x y h l = let a = above v.1 x h in grind (arith, ints, common_steps, a, l)

-- come to the first of the greatest by a walk over places that rise
by_places : (f : ℕ → ℤ) (first least count k : ℕ) (b : Option Valued) (ps : List ℕ) → AreRisingPlaces least count ps → Stays f b ps (greatest_at f first k b ps) ⊎ Comes f first b ps (greatest_at f first k b ps)
by_places f first least count k b [] h = inl (refl, λ k d l. absurd (omega (arith, l)))
by_places f first least count k b (p ∷ ps) h = by (is_value_greater b (f p)) refl (λ c. by_places f first (suc p) count (suc k) c ps h.2)
  where
    later : All (λ (q : ℕ). suc p ≤ q) ps
    later = rising_more (suc p) count ps h.2

    by : (g : Bool) → is_value_greater b (f p) ≡ g → ((c : Option Valued) → Stays f c ps (greatest_at f first (suc k) c ps) ⊎ Comes f first c ps (greatest_at f first (suc k) c ps)) → Stays f b (p ∷ ps) (greatest_at f first (suc k) (cond g (Some (first + p, f p)) b) ps) ⊎ Comes f first b (p ∷ ps) (greatest_at f first (suc k) (cond g (Some (first + p, f p)) b) ps)
    by true e next = ⊎_elim
        (λ (s : Stays f (Some (first + p, f p)) ps (greatest_at f first (suc k) (Some (first + p, f p)) ps)). inr (record {
          place = p;
          among = record { index = 0; there = omega arith; is = refl };
          is = s.0;
          more = e;
          before = here s.1;
        }))
        (λ (c : Comes f first (Some (first + p, f p)) ps (greatest_at f first (suc k) (Some (first + p, f p)) ps)). let u = above (f p) (f c.place) c.more in inr (record {
          place = c.place;
          among = among_more p ps c.place c.among;
          is = c.is;
          more = greater_trans b (f p) (f c.place) e u;
          before = there c.place u c.before;
        }))
        (next (Some (first + p, f p)))
      where
        here : All (λ (q : ℕ). is_value_greater (Some (first + p, f p)) (f q) ≡ false) ps → All (λ (q : ℕ). IsBefore p (f p) q (f q)) (p ∷ ps)
        here s zero d l = inr (omega (arith, ints), omega arith)
        here s (suc i) d l = let m = later i d (omega (arith, l)) in inr (not_above (f p) (f (get_or ps i d)) (s i d (omega (arith, l))), omega (arith, m))

        there : (q : ℕ) → f p <ℤ f q → All (λ (j : ℕ). IsBefore q (f q) j (f j)) ps → All (λ (j : ℕ). IsBefore q (f q) j (f j)) (p ∷ ps)
        there q u s zero d l = inl u
        there q u s (suc i) d l = s i d (omega (arith, l))
    by false e next = ⊎_elim
        (λ (s : Stays f b ps (greatest_at f first (suc k) b ps)). inl (s.0, none s.1))
        (λ (c : Comes f first b ps (greatest_at f first (suc k) b ps)). let u = greater_not b (f p) (f c.place) e c.more in inr (record {
          place = c.place;
          among = among_more p ps c.place c.among;
          is = c.is;
          more = c.more;
          before = there c.place u c.before;
        }))
        (next b)
      where
        none : All (λ (q : ℕ). is_value_greater b (f q) ≡ false) ps → All (λ (q : ℕ). is_value_greater b (f q) ≡ false) (p ∷ ps)
        none s zero d l = e
        none s (suc i) d l = s i d (omega (arith, l))

        there : (q : ℕ) → f p <ℤ f q → All (λ (j : ℕ). IsBefore q (f q) j (f j)) ps → All (λ (j : ℕ). IsBefore q (f q) j (f j)) (p ∷ ps)
        there q u s zero d l = inl u
        there q u s (suc i) d l = s i d (omega (arith, l))

-- name a place by which another is covered
record Covering (f : ℕ → ℤ) (ps : List ℕ) (j : ℕ) : Type 0 where
  place : ℕ
  among : IsAmong ps place
  before : IsBefore place (f place) j (f j)

pub not_less : (i j : ℕ) (x y : ℤ) → IsBefore i x j y → y ≤ℤ x
not_less i j x y h = ⊎_elim (λ (a : y <ℤ x). omega (arith, ints, a)) (λ (a : (y ≤ℤ x) × (i ≤ j)). a.0) h

-- a cut comes before itself
pub itself : (p : ℕ) (x : ℤ) → IsBefore p x p x
itself p x = inr (omega (arith, ints), omega arith)

-- find one place for three cuts, each before the next and the last before the first
one_place : (p q r : ℕ) (x y z : ℤ) → IsBefore p x q y → IsBefore q y r z → IsBefore r z p x → p ≡ q
one_place p q r x y z a b c =
    let a0 = not_less p q x y a in
    let b0 = not_less q r y z b in
    let c0 = not_less r p z x c in
    let a1 : p ≤ q = ⊎_elim (λ (u : y <ℤ x). absurd (omega (arith, ints, u, b0, c0))) (λ (u : (y ≤ℤ x) × (p ≤ q)). u.1) a in
    let b1 : q ≤ r = ⊎_elim (λ (u : z <ℤ y). absurd (omega (arith, ints, u, a0, c0))) (λ (u : (z ≤ℤ y) × (q ≤ r)). u.1) b in
    let c1 : r ≤ p = ⊎_elim (λ (u : x <ℤ z). absurd (omega (arith, ints, u, a0, b0))) (λ (u : (x ≤ℤ z) × (r ≤ p)). u.1) c in
    omega (arith, a1, b1, c1)

-- find the same greatest by all places and by those that cover them
same_greatest : (f : ℕ → ℤ) (b : Option Valued) (first : ℕ) (all ps : List ℕ) (r s : Option Valued) → All (IsAmong all) ps → All (Covering f ps) all → Stays f b all r ⊎ Comes f first b all r → Stays f b ps s ⊎ Comes f first b ps s → r ≡ s
same_greatest f b first all ps r s inside cover (inl x) (inl y) = x.0 ∙ sym y.0
same_greatest f b first all ps r s inside cover (inl x) (inr y) =
    let no : is_value_greater b (f y.place) ≡ false = held (λ (p : ℕ). is_value_greater b (f p) ≡ false) all y.place (held (IsAmong all) ps y.place y.among inside) x.1 in
    let yes = y.more in
    absurd (cc)
same_greatest f b first all ps r s inside cover (inr x) (inl y) =
    let c : Covering f ps x.place = held (Covering f ps) all x.place x.among cover in
    let yes : is_value_greater b (f c.place) ≡ true = greater_more b (f x.place) (f c.place) x.more (not_less c.place x.place (f c.place) (f x.place) c.before) in
    let no : is_value_greater b (f c.place) ≡ false = held (λ (p : ℕ). is_value_greater b (f p) ≡ false) ps c.place c.among y.1 in
    absurd (cc)
same_greatest f b first all ps r s inside cover (inr x) (inr y) =
    let c : Covering f ps x.place = held (Covering f ps) all x.place x.among cover in
    let h : IsBefore x.place (f x.place) y.place (f y.place) = held (λ (q : ℕ). IsBefore x.place (f x.place) q (f q)) all y.place (held (IsAmong all) ps y.place y.among inside) x.before in
    let g : IsBefore y.place (f y.place) c.place (f c.place) = held (λ (q : ℕ). IsBefore y.place (f y.place) q (f q)) ps c.place c.among y.before in
    let e : x.place ≡ y.place = one_place x.place y.place c.place (f x.place) (f y.place) (f c.place) h g c.before in
    x.is ∙ ap (λ (p : ℕ). Some (first + p, f p)) e ∙ sym y.is

count_rises : (j n count : ℕ) → j + n ≤ count → AreRisingPlaces j count (count_from j n)
count_rises j zero count h = tt
count_rises j (suc n) count h = (omega arith, omega (arith, h), count_rises (suc j) n count (omega (arith, h)))

count_length : (j n : ℕ) → length (count_from j n) ≡ n
count_length j zero = refl
count_length j (suc n) = ap suc (count_length (suc j) n)

count_at : (j n k d : ℕ) → k < n → get_or (count_from j n) k d ≡ j + k
count_at j zero k d h = absurd (omega (arith, h))
count_at j (suc n) zero d h = omega arith
count_at j (suc n) (suc k) d h = let r = count_at (suc j) n k d (omega (arith, h)) in omega (arith, r)

count_own : (n k d : ℕ) → k < n → get_or (count_from 0 n) k d ≡ k
count_own n k d h = let r = count_at 0 n k d h in omega (arith, r)

-- turn a walk over cuts into one over their places
all_places : (xs : List ℤ) (f : ℕ → ℤ) (first j k : ℕ) (b : Option Valued) (cs : List PackedCut) → ((i : ℕ) → i < length cs → f (j + i) ≡ value_of (packed_cut_at cs i) xs) → walk (λ i b (c : PackedCut). greater_valued b (i, value_of c xs)) (first + j) b cs ≡ greatest_at f first k b (count_from j (length cs))
all_places xs f first j k b [] h = refl
all_places xs f first j k b (c ∷ cs) h =
    let n : suc (first + j) ≡ first + suc j = omega arith in
    let here : j + 0 ≡ j = omega arith in
    let v : value_of c xs ≡ f j = sym (h 0 (omega arith)) ∙ ap f here in
    ap₂ (λ (i : ℕ) (x : ℤ). walk (λ i b (c : PackedCut). greater_valued b (i, value_of c xs)) i (greater_valued b (first + j, x)) cs) n v
    ∙ all_places xs f first (suc j) (suc k) (greater_valued b (first + j, f j)) cs (λ i l. let e : suc j + i ≡ j + suc i = omega arith in ap f e ∙ h (suc i) (omega (arith, l)))

places_below : (least count : ℕ) (ps : List ℕ) → AreRisingPlaces least count ps → All (λ (q : ℕ). q < count) ps
places_below least count [] h k d l = absurd (omega (arith, l))
places_below least count (p ∷ ps) h zero d l = h.1
places_below least count (p ∷ ps) h (suc k) d l = places_below (suc p) count ps h.2 k d (omega (arith, l))

pub covering_below : (cs : List PackedCut) (ps : List ℕ) (lows highs : List ℤ) → CoverAll cs ps lows highs → All (λ (p : ℕ). p < length cs) ps
covering_below cs ps lows highs h = places_below 0 (length cs) ps h.rising

all_inside : (n : ℕ) (ps : List ℕ) → All (λ (p : ℕ). p < n) ps → All (IsAmong (count_from 0 n)) ps
all_inside n ps h k d l =
    let m = h k d l in
    record { index = get_or ps k d; there = omega (arith, m, count_length 0 n); is = count_own n (get_or ps k d) 0 m }

all_covered : (xs : List ℤ) (cs : List PackedCut) (ps : List ℕ) (lows highs : List ℤ) → CoverAll cs ps lows highs → AreInside lows highs xs → All (Covering (λ p. value_of (packed_cut_at cs p) xs) ps) (count_from 0 (length cs))
all_covered xs cs ps lows highs h box k d l =
    let m : k < length cs = omega (arith, l, count_length 0 (length cs)) in
    let c : IsCovered cs lows highs ps k = h.covered k m in
    subst (Covering (λ p. value_of (packed_cut_at cs p) xs) ps) (sym (count_own (length cs) k d m)) (record { place = get_or ps c.by 0; among = record { index = c.by; there = c.there; is = refl }; before = c.covers xs box })

-- find the same greatest by all cuts and by those that cover them
pub covered_same : (xs : List ℤ) (first : ℕ) (b : Option Valued) (cs : List PackedCut) (ps : List ℕ) (lows highs : List ℤ) → CoverAll cs ps lows highs → AreInside lows highs xs → walk (λ k b (p : ℕ). greater_valued b (first + p, value_of (packed_cut_at cs p) xs)) 0 b ps ≡ walk (λ i b (c : PackedCut). greater_valued b (i, value_of c xs)) first b cs
covered_same xs first b cs ps lows highs h box =
    let f : ℕ → ℤ = λ p. value_of (packed_cut_at cs p) xs in
    let n : ℕ = length cs in
    let all : List ℕ = count_from 0 n in
    let start : first + 0 ≡ first = omega arith in
    let whole = by_places f first 0 n 0 b all (count_rises 0 n n (omega arith)) in
    let part = by_places f first 0 n 0 b ps h.rising in
    sym (same_greatest f b first all ps _ _ (all_inside n ps (covering_below cs ps lows highs h)) (all_covered xs cs ps lows highs h box) whole part)
    ∙ sym (all_places xs f first 0 0 b cs (λ i l. let e : 0 + i ≡ i = omega arith in ap f e))
    ∙ ap (λ (i : ℕ). walk (λ i b (c : PackedCut). greater_valued b (i, value_of c xs)) i b cs) start

-- find the first of the greatest by a walk from no cut
pub first_of_all : (xs : List ℤ) (cs : List PackedCut) (best : Valued) → IsFirst cs xs (length cs) best → Some best ≡ walk (λ i b (c : PackedCut). greater_valued b (i, value_of c xs)) 0 None cs
first_of_all xs cs best h =
    let f : ℕ → ℤ = λ p. value_of (packed_cut_at cs p) xs in
    let n : ℕ = length cs in
    let all : List ℕ = count_from 0 n in
    let rises = count_rises 0 n n (omega arith) in
    let own : IsAmong all best.0 = record { index = best.0; there = omega (arith, h.there, count_length 0 n); is = count_own n best.0 0 h.there } in
    let found : Some best ≡ greatest_at f 0 0 None all = ⊎_elim
    (λ (s : Stays f None all (greatest_at f 0 0 None all)). let no : true ≡ false = held (λ (p : ℕ). is_value_greater None (f p) ≡ false) all best.0 own s.1 in absurd (cc))
    (λ (c : Comes f 0 None all (greatest_at f 0 0 None all)).
    let there : c.place < n = held (λ (p : ℕ). p < n) all c.place c.among (places_below 0 n all rises) in
    let first : IsBefore best.0 (f best.0) c.place (f c.place) = subst (λ (x : ℤ). IsBefore best.0 x c.place (f c.place)) h.value (h.first c.place there) in
    let back : IsBefore c.place (f c.place) best.0 (f best.0) = held (λ (q : ℕ). IsBefore c.place (f c.place) q (f q)) all best.0 own c.before in
    let e : best.0 ≡ c.place = one_place best.0 c.place best.0 (f best.0) (f c.place) (f best.0) first back (itself best.0 (f best.0)) in
    let same : best.0 ≡ 0 + c.place = omega (arith, e) in
    ◌∙◌ {b = Some (0 + c.place, f c.place)} (ap₂ (λ (i : ℕ) (x : ℤ). Some (i, x)) same (h.value ∙ ap f e)) (sym c.is))
    (by_places f 0 0 n 0 None all rises) in
    ◌∙◌ {b = greatest_at f 0 0 None all} found (sym (all_places xs f 0 0 0 None cs (λ i l. let e : 0 + i ≡ i = omega arith in ap f e)))
