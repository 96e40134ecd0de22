-- The span of the tops of cuts by the ends of their slopes.
use Rattle.std.proofs.Common.{◌≡◌, ◌∙◌, ⊎_elim, int_lt, ℕ, zero, suc, ◌-◌, ◌^◌, ◌<◌, ◌≤◌, ℤ, pos, ◌+ℤ◌, ◌≤ℤ◌, nat_abs, Bool, true, false, cond, List, [], ◌∷◌, length, get_or, Option, Some, None, All, ◌⊎◌, inl, inr, arith, refl, ap, ap₂, sym, subst}
use Rattle.std.specs.Bool.{⊤}
use Rattle.std.specs.Int.{int_max}
use Rattle.std.proofs.lemmas.Grind.{common_steps}
use Rattle.std.specs.Ordering.{int_eq}
use Rattle.std.proofs.lemmas.Bool.{cases_lt}
use Rattle.std.proofs.lemmas.Bool.Decides.{nat_tests}
use Rattle.std.proofs.lemmas.Int.{ints, clamps}
use Rattle.std.proofs.lemmas.Nat.{leading_length}
use Rattle.base_num.specs.Sums.{entry}
use Rattle.lp_program.specs.PackedCut.{PackedCut, no_packed_cut, IsSmallCut}
use Rattle.lp_program.specs.Covering.{packed_cut_at}
use Rattle.lp_program.specs.SlopeEnds.{IsLevel, IsUndercut, IsReached, AreSlopeEnds}
use Rattle.lp_program.specs.declared.packed.SlopeEnds.{SlopeEnds}
use Rattle.lp_table.specs.Numbers.{bits_of}
use Rattle.lp_scale.specs.declared.spans.Span.{Span}
use Rattle.lp_scale.specs.Spans.{grown}
use Rattle.lp_scale.specs.Packed.{greater_digits, most_digits, grown_above_zero}
use Rattle.lp_scale.proofs.Fencing.{rises}
use Rattle.lp_scale.proofs.Digits.{few_digits}
use Rattle.lp_scale.proofs.Standing.{small_slope, entry_small, greatest_from, steps}

-- ---- spans within spans
-- a number is in a span
abbrev IsIn : Option Span → ℤ → Type 0
IsIn None x = ⊥
IsIn (Some s) x = (s.least ≤ℤ x) × (x ≤ℤ s.greatest)

-- a number is 0 or in a span
abbrev Holds : Option Span → ℤ → Type 0
Holds s x = (x ≡ pos 0) ⊎ IsIn s x

-- a span is within another
abbrev Within : Option Span → Option Span → Type 0
Within None t = ⊤
Within (Some a) None = ⊥
Within (Some a) (Some b) = (b.least ≤ℤ a.least) × (a.greatest ≤ℤ b.greatest)

within_same : (s : Option Span) → Within s s
within_same None = tt
within_same (Some a) = (omega (arith, ints), omega (arith, ints))

within_on : (r s t : Option Span) → Within r s → Within s t → Within r t
within_on None s t h g = tt
within_on (Some a) None t h g = absurd h
within_on (Some a) (Some b) None h g = absurd g
within_on (Some a) (Some b) (Some c) h g = (omega (arith, ints, h.0, g.0), omega (arith, ints, h.1, g.1))

in_more : (s t : Option Span) (x : ℤ) → IsIn s x → Within s t → IsIn t x
in_more None t x h w = absurd h
in_more (Some a) None x h w = absurd w
in_more (Some a) (Some b) x h w = (omega (arith, ints, h.0, w.0), omega (arith, ints, h.1, w.1))

-- a number between two that are in a span
in_between : (s : Option Span) (x y z : ℤ) → IsIn s x → IsIn s z → x ≤ℤ y → y ≤ℤ z → IsIn s y
in_between None x y z h g l m = absurd h
in_between (Some a) x y z h g l m = (omega (arith, ints, h.0, l), omega (arith, ints, g.1, m))

-- two spans that are within one another are the same
same_spans : (s t : Option Span) → Within s t → Within t s → s ≡ t
same_spans None None h g = refl
same_spans None (Some b) h g = absurd g
same_spans (Some a) None h g = absurd h
same_spans (Some a) (Some b) h g =
    let least : a.least ≡ b.least = omega (arith, ints, h.0, g.0) in
    let greatest : a.greatest ≡ b.greatest = omega (arith, ints, h.1, g.1) in
    ap₂ (λ (x y : ℤ). Some (record { least = x; greatest = y })) least greatest

in_grown : (s : Option Span) (x : ℤ) → IsIn (grown s x) x
in_grown None x = (omega (arith, ints), omega (arith, ints))
in_grown (Some a) x = (omega (arith, ints, clamps), omega (arith, ints, clamps))

within_grown : (s : Option Span) (x : ℤ) → Within s (grown s x)
within_grown None x = tt
within_grown (Some a) x = (omega (arith, ints, clamps), omega (arith, ints, clamps))

grown_within : (s t : Option Span) (x : ℤ) → Within s t → IsIn t x → Within (grown s x) t
grown_within s None x h g = absurd g
grown_within None (Some b) x h g = (g.0, g.1)
grown_within (Some a) (Some b) x h g = (omega (arith, ints, clamps, h.0, g.0), omega (arith, ints, clamps, h.1, g.1))

-- ---- with one top more
grows : (s : Option Span) (x : ℤ) → Within s (grown_above_zero s x)
grows s x = by (int_eq x (pos 0))
  where
    by : (b : Bool) → Within s (cond b s (grown s x))
    by true = within_same s
    by false = within_grown s x

holds : (s : Option Span) (x : ℤ) → Holds (grown_above_zero s x) x
holds s x = by (int_eq x (pos 0)) refl
  where
    by : (b : Bool) → int_eq x (pos 0) ≡ b → Holds (cond b s (grown s x)) x
    by true e = inl (grind (arith, ints, nat_tests))
    by false e = inr (in_grown s x)

stays_within : (s t : Option Span) (x : ℤ) → Within s t → Holds t x → Within (grown_above_zero s x) t
stays_within s t x h g = by (int_eq x (pos 0)) refl
  where
    by : (b : Bool) → int_eq x (pos 0) ≡ b → Within (cond b s (grown s x)) t
    by true e = h
    by false e = ⊎_elim (λ (z : x ≡ pos 0). absurd (grind (arith, ints, nat_tests, z))) (λ (i : IsIn t x). grown_within s t x h i) g

-- ---- with many
-- the span with the numbers of some items
abbrev pub with_all : {A : Type 0} → (A → ℤ) → ℕ → Option Span → List A → Option Span
with_all f i s xs = steps (λ t x. grown_above_zero t (f x)) i s xs

all_grow : {A : Type 0} (f : A → ℤ) (i : ℕ) (s : Option Span) (xs : List A) → Within s (with_all f i s xs)
all_grow f i s [] = within_same s
all_grow f i s (x ∷ xs) = within_on s (grown_above_zero s (f x)) (with_all f (suc i) (grown_above_zero s (f x)) xs) (grows s (f x)) (all_grow f (suc i) (grown_above_zero s (f x)) xs)

all_hold : {A : Type 0} (f : A → ℤ) (i : ℕ) (s : Option Span) (xs : List A) (k : ℕ) (d : A) → k < length xs → Holds (with_all f i s xs) (f (get_or xs k d))
all_hold f i s [] k d l = absurd (omega (arith, l))
all_hold f i s (x ∷ xs) zero d l = ⊎_elim (λ (z : f x ≡ pos 0). inl z) (λ (h : IsIn (grown_above_zero s (f x)) (f x)). inr (in_more (grown_above_zero s (f x)) (with_all f (suc i) (grown_above_zero s (f x)) xs) (f x) h (all_grow f (suc i) (grown_above_zero s (f x)) xs))) (holds s (f x))
all_hold f i s (x ∷ xs) (suc k) d l = all_hold f (suc i) (grown_above_zero s (f x)) xs k d (omega (arith, l))

all_within : {A : Type 0} (f : A → ℤ) (i : ℕ) (s t : Option Span) (xs : List A) (d : A) → Within s t → ((k : ℕ) → k < length xs → Holds t (f (get_or xs k d))) → Within (with_all f i s xs) t
all_within f i s t [] d h g = h
all_within f i s t (x ∷ xs) d h g = all_within f (suc i) (grown_above_zero s (f x)) t xs d (stays_within s t (f x) h (g 0 (omega arith))) (λ k l. g (suc k) (omega (arith, l)))

-- ---- digits
below_own : (y : ℤ) → nat_abs y < 2 ^ 57 → nat_abs y < 2 ^ bits_of y
below_own y h =
    let t = leading_length 128 (nat_abs y) (omega (arith, h)) in
    let e : bits_of y ≡ t.0 = omega (arith, t.1) in
    subst (λ (n : ℕ). nat_abs y < 2 ^ n) (sym e) t.2

reaches : (m lift y : ℤ) → 0 < nat_abs y → (lift +ℤ pos (bits_of y)) ≤ℤ greater_digits m lift y
reaches m lift y h = by (int_eq y (pos 0)) refl
  where
    by : (b : Bool) → int_eq y (pos 0) ≡ b → (lift +ℤ pos (bits_of y)) ≤ℤ cond b m (int_max m (lift +ℤ pos (bits_of y)))
    by true e = absurd (grind (arith, ints, nat_tests, h))
    by false e = omega (arith, ints, clamps)

one_no_more : (m n lift x y : ℤ) → nat_abs y < 2 ^ 57 → ((i : ℕ) → nat_abs y < 2 ^ i → nat_abs x < 2 ^ i) → m ≤ℤ n → greater_digits m lift x ≤ℤ greater_digits n lift y
one_no_more m n lift x y small h l = by (int_eq x (pos 0)) refl
  where
    by : (b : Bool) → int_eq x (pos 0) ≡ b → cond b m (int_max m (lift +ℤ pos (bits_of x))) ≤ℤ greater_digits n lift y
    by true e = (let a = rises n lift y in omega (arith, ints, l, a))
    by false e =
        let p : 0 < nat_abs x = grind (arith, ints, nat_tests) in
        let q : 0 < nat_abs y = ⊎_elim (λ (z : nat_abs y < 2 ^ 0). let w = h 0 z in absurd (omega (arith, p, w))) (λ (z : 2 ^ 0 ≤ nat_abs y). omega (arith, z)) (cases_lt (nat_abs y) (2 ^ 0)) in
        let few : bits_of x ≤ bits_of y = few_digits x (bits_of y) (omega arith) (h (bits_of y) (below_own y small)) in
        let a = rises n lift y in
        let b = reaches n lift y q in
        omega (arith, ints, clamps, few, a, b, l)

no_more_from : (xs bs : List ℤ) (k : ℕ) (m n : ℤ) (lifts : List (ℕ × ℤ)) → small_slope bs → ((j i : ℕ) → nat_abs (entry bs j) < 2 ^ i → nat_abs (entry xs j) < 2 ^ i) → m ≤ℤ n → greatest_from xs k m lifts ≤ℤ greatest_from bs k n lifts
no_more_from xs bs k m n [] small h l = l
no_more_from xs bs k m n (u ∷ us) small h l = no_more_from xs bs (suc k) (greater_digits m u.1 (entry xs u.0)) (greater_digits n u.1 (entry bs u.0)) us small h (one_no_more m n u.1 (entry xs u.0) (entry bs u.0) (entry_small bs u.0 small) (h u.0) l)

no_more : (xs bs : List ℤ) (lifts : List (ℕ × ℤ)) → small_slope bs → ((j i : ℕ) → nat_abs (entry bs j) < 2 ^ i → nat_abs (entry xs j) < 2 ^ i) → most_digits lifts xs ≤ℤ most_digits lifts bs
no_more xs bs lifts small h = no_more_from xs bs 0 (pos 0) (pos 0) lifts small h (omega (arith, ints))

level_from : (ss : List ℤ) (k : ℕ) (m : ℤ) (lifts : List (ℕ × ℤ)) → ((j : ℕ) → entry ss j ≡ pos 0) → greatest_from ss k m lifts ≡ m
level_from ss k m [] h = refl
level_from ss k m (u ∷ us) h = ap (λ (z : ℤ). greatest_from ss (suc k) (greater_digits m u.1 z) us) (h u.0) ∙ level_from ss (suc k) m us h

-- ---- the greatest top is that of a cut
-- a number is 0, or no more than what one of the cuts has
abbrev IsHad : List PackedCut → ℤ → (ℕ → ℤ) → Type 0
IsHad cuts m f = (m ≡ pos 0) ⊎ ((q : ℕ) × (q < length cuts) × (m ≤ℤ f q))

had_step : (cuts : List PackedCut) (gs : List ℤ) (m : ℤ) (f : ℕ → ℤ) (u : ℕ × ℤ) → (entry gs u.0 ≡ pos 0) ⊎ IsReached cuts u.0 (nat_abs (entry gs u.0)) → IsHad cuts m f → IsHad cuts (greater_digits m u.1 (entry gs u.0)) (λ q. greater_digits (f q) u.1 (entry (packed_cut_at cuts q).slopes u.0))
had_step cuts gs m f u r h = by (int_eq (entry gs u.0) (pos 0)) refl
  where
    next : ℕ → ℤ
    next q = greater_digits (f q) u.1 (entry (packed_cut_at cuts q).slopes u.0)

    kept : (y : ℤ) → y ≤ℤ m → IsHad cuts m f → (y ≡ m) → IsHad cuts y next
    kept y l (inl z) e = inl (e ∙ z)
    kept y l (inr w) e = inr (w.0, w.1, (let a = rises (f w.0) u.1 (entry (packed_cut_at cuts w.0).slopes u.0) in let b = w.2 in omega (arith, ints, a, b, l)))

    own : (y : ℤ) → y ≤ℤ (u.1 +ℤ pos (bits_of (entry gs u.0))) → 0 < nat_abs (entry gs u.0) → (entry gs u.0 ≡ pos 0) ⊎ IsReached cuts u.0 (nat_abs (entry gs u.0)) → IsHad cuts y next
    own y l p (inl z) = absurd (let a = ap nat_abs z in omega (arith, a, p))
    own y l p (inr w) =
        let same : bits_of (entry (packed_cut_at cuts w.by).slopes u.0) ≡ bits_of (entry gs u.0) = ap (λ (n : ℕ). 128 - lib.Count.count_leading_zeros 128 n) w.size in
        let a = reaches (f w.by) u.1 (entry (packed_cut_at cuts w.by).slopes u.0) (omega (arith, p, w.size)) in
        inr (w.by, w.there, omega (arith, ints, a, l, same))

    choose : (c d : ℤ) → (y : ℤ) → y ≡ int_max c d → ((c ≤ℤ d) × (y ≡ d)) ⊎ ((d ≤ℤ c) × (y ≡ c))
    choose c d y e = by (int_lt c d) refl
      where
        by : (b : Bool) → int_lt c d ≡ b → ((c ≤ℤ d) × (y ≡ d)) ⊎ ((d ≤ℤ c) × (y ≡ c))
        by true h =
            let l : c ≤ℤ d = grind (arith, ints, common_steps, h) in
            inl (l, omega (arith, ints, clamps, l, e))
        by false h =
            let l : d ≤ℤ c = grind (arith, ints, common_steps, h) in
            inr (l, omega (arith, ints, clamps, l, e))

    by : (b : Bool) → int_eq (entry gs u.0) (pos 0) ≡ b → IsHad cuts (cond b m (int_max m (u.1 +ℤ pos (bits_of (entry gs u.0))))) next
    by true e = kept m (omega (arith, ints)) h refl
    by false e =
        let p : 0 < nat_abs (entry gs u.0) = grind (arith, ints, nat_tests) in
        ⊎_elim (λ (a : (m ≤ℤ (u.1 +ℤ pos (bits_of (entry gs u.0)))) × _). own _ (omega (arith, ints, a.1)) p r) (λ (a : ((u.1 +ℤ pos (bits_of (entry gs u.0))) ≤ℤ m) × _). kept _ (omega (arith, ints, a.1)) h a.1) (choose m (u.1 +ℤ pos (bits_of (entry gs u.0))) _ refl)

had_from : (cuts : List PackedCut) (gs : List ℤ) (k : ℕ) (m : ℤ) (f : ℕ → ℤ) (lifts : List (ℕ × ℤ)) → ((j : ℕ) → (entry gs j ≡ pos 0) ⊎ IsReached cuts j (nat_abs (entry gs j))) → IsHad cuts m f → IsHad cuts (greatest_from gs k m lifts) (λ q. greatest_from (packed_cut_at cuts q).slopes k (f q) lifts)
had_from cuts gs k m f [] r h = h
had_from cuts gs k m f (u ∷ us) r h = had_from cuts gs (suc k) (greater_digits m u.1 (entry gs u.0)) (λ q. greater_digits (f q) u.1 (entry (packed_cut_at cuts q).slopes u.0)) us r (had_step cuts gs m f u (r u.0) h)

-- ---- the span by the ends
-- the top of a cut
abbrev pub top_at : List (ℕ × ℤ) → List PackedCut → ℕ → ℤ
top_at lifts cuts p = most_digits lifts (packed_cut_at cuts p).slopes

pub by_ends : (lifts : List (ℕ × ℤ)) (cuts : List PackedCut) (e : SlopeEnds) (span : Option Span) → AreSlopeEnds cuts e → All IsSmallCut cuts → All (λ p. pos 1 ≤ℤ top_at lifts cuts p) e.least.now → grown_above_zero (with_all (top_at lifts cuts) 0 span e.least.now) (most_digits lifts e.greatest.now) ≡ with_all (λ (c : PackedCut). most_digits lifts c.slopes) 0 span cuts
by_ends lifts cuts e span ends small above = same_spans found whole inside outside
  where
    tops : PackedCut → ℤ
    tops c = most_digits lifts c.slopes

    few : Option Span
    few = with_all (top_at lifts cuts) 0 span e.least.now

    most : ℤ
    most = most_digits lifts e.greatest.now

    found : Option Span
    found = grown_above_zero few most

    whole : Option Span
    whole = with_all tops 0 span cuts

    below : (k : ℕ) → k < length cuts → tops (packed_cut_at cuts k) ≤ℤ most
    below k l = no_more (packed_cut_at cuts k).slopes e.greatest.now lifts ends.small (λ j i h. let a = ends.greatest k j l in omega (arith, a, h))

    certain : (s : Option Span) (x : ℤ) → pos 1 ≤ℤ x → Holds s x → IsIn s x
    certain s x p h = ⊎_elim (λ (z : x ≡ pos 0). absurd (omega (arith, ints, p, z))) (λ (i : IsIn s x). i) h

    undercut : (k : ℕ) → k < length cuts → IsUndercut cuts e.least.now (packed_cut_at cuts k) → Holds found (tops (packed_cut_at cuts k))
    undercut k l u =
        let p : ℕ = get_or e.least.now u.by 0 in
        let some = above u.by 0 u.there in
        let first = no_more (packed_cut_at cuts p).slopes (packed_cut_at cuts k).slopes lifts (small k no_packed_cut l).slopes u.digits in
        let last = below k l in
        let low = in_more few found (top_at lifts cuts p) (certain few (top_at lifts cuts p) some (all_hold (top_at lifts cuts) 0 span e.least.now u.by 0 u.there)) (grows few most) in
        let high = certain found most (omega (arith, ints, some, first, last)) (holds few most) in
        inr (in_between found (top_at lifts cuts p) (tops (packed_cut_at cuts k)) most low high first last)

    outside : Within whole found
    outside = all_within tops 0 span found cuts no_packed_cut (within_on span few found (all_grow (top_at lifts cuts) 0 span e.least.now) (grows few most))
        (λ k l. ⊎_elim (λ (v : IsLevel (packed_cut_at cuts k)). inl (level_from (packed_cut_at cuts k).slopes 0 (pos 0) lifts v)) (undercut k l) (ends.least k l))

    is_had : IsHad cuts most (λ q. tops (packed_cut_at cuts q)) → Holds whole most
    is_had (inl z) = inl z
    is_had (inr w) =
        let a = below w.0 w.1 in
        let b = w.2 in
        let same : tops (packed_cut_at cuts w.0) ≡ most = omega (arith, ints, a, b) in
        subst (Holds whole) same (all_hold tops 0 span cuts w.0 no_packed_cut w.1)

    inside : Within found whole
    inside = stays_within few whole most
        (all_within (top_at lifts cuts) 0 span whole e.least.now 0 (all_grow tops 0 span cuts) (λ k l. all_hold tops 0 span cuts (get_or e.least.now k 0) no_packed_cut (ends.there k 0 l)))
        (is_had (had_from cuts e.greatest.now 0 (pos 0) (λ q. pos 0) lifts ends.reached (inl refl)))
