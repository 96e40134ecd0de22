-- Cuts that are known to leave a span as it is.
use Rattle.std.proofs.Common.{◌≡◌, SFits, ℕ, zero, suc, ◌+◌, ◌^◌, ◌<◌, ◌≤◌, ℤ, pos, negsuc, ◌+ℤ◌, ◌-ℤ◌, ◌≤ℤ◌, nat_abs, nat_le, Bool, true, false, cond, List, [], ◌∷◌, length, take, get_or, set, slice_get, min, ◌==◌, Some, All, arith, refl, ap, sym, subst, ◌∙◌}
use Rattle.std.specs.Int.{int_min, int_max}
use Rattle.std.specs.Ordering.{int_eq}
use Rattle.std.proofs.lemmas.Bool.Decides.{nat_tests}
use Rattle.std.proofs.lemmas.Int.{ints, clamps}
use Rattle.std.proofs.lemmas.Nat.{leading_top, pow_pos}
use Rattle.std.proofs.lemmas.List.{get_or_past}
use Rattle.std.proofs.lemmas.List.Elements.{All-head, All-tail, All-weaker, All-more}
use mir.Syntax.{w32}
use Rattle.base_num.specs.Sums.{entry}
use Rattle.lp_table.specs.Numbers.{bits_of}
use Rattle.lp_scale.specs.declared.spans.Span.{Span}
use Rattle.lp_scale.specs.Spans.{grown, IsBetween}
use Rattle.lp_scale.specs.Packed.{greater_digits, most_digits, grown_above_zero}
use Rattle.lp_scale.specs.Fences.{near, AreBelowLimits, AreLimits, ReachesDigits, Keeps}
use Rattle.lp_scale.proofs.Digits.{below_power, some_digits, few_digits}
use Rattle.lp_scale.proofs.Standing.{small_slope, entry_small, greatest_from}

-- ---- numbers of 32 bits
pub few_fit : (x : ℤ) → pos 0 ≤ℤ x → x ≤ℤ pos 640 → SFits w32 x
few_fit (pos n) h k = let small : n < 2 ^ 31 = omega (arith, ints, k) in record { sfits = small }
few_fit (negsuc n) h k = absurd (omega (arith, ints, h))

-- ---- at most the greatest
near_most : (z : ℤ) → near z ≤ 57
near_most z = omega (arith, ints, clamps)

-- a slope below the limit of its state raises nothing
below_one : (most top lift slope : ℤ) → top ≤ℤ most → nat_abs slope < 2 ^ 57 → nat_abs slope < 2 ^ near (most -ℤ lift) → greater_digits top lift slope ≤ℤ most
below_one most top lift slope h small below = by (int_eq slope (pos 0)) refl
  where
    by : (b : Bool) → int_eq slope (pos 0) ≡ b → cond b top (int_max top (lift +ℤ pos (bits_of slope))) ≤ℤ most
    by true e = h
    by false e =
        let p : 0 < nat_abs slope = grind (arith, ints, nat_tests) in
        let n = near_most (most -ℤ lift) in
        let few : bits_of slope ≤ near (most -ℤ lift) = few_digits slope (near (most -ℤ lift)) (omega (arith, n)) below in
        let some : 1 ≤ bits_of slope = some_digits slope p small in
        omega (arith, ints, clamps, few, some, h)

-- a state's slope, that of one past the end too
below_limit : (limits : List ℕ) (slopes : List ℤ) (j n : ℕ) → AreBelowLimits limits slopes → get_or limits j 1 ≤ 2 ^ n → nat_abs (entry slopes j) < 2 ^ n
below_limit limits slopes j n below l = by (nat_le (length slopes) j) refl
  where
    by : (b : Bool) → nat_le (length slopes) j ≡ b → nat_abs (entry slopes j) < 2 ^ n
    by true e =
        let past : length slopes ≤ j = grind (arith, nat_tests) in
        let none = get_or_past slopes j (pos 0) past in
        omega (arith, ap nat_abs none, pow_pos n)
    by false e =
        let there : j < length slopes = grind (arith, nat_tests) in
        omega (arith, below j there, l)

below_most : (most : ℤ) (limits : List ℕ) (slopes : List ℤ) (k : ℕ) (top : ℤ) (lifts : List (ℕ × ℤ)) → small_slope slopes → AreBelowLimits limits slopes → AreLimits most lifts limits → top ≤ℤ most → greatest_from slopes k top lifts ≤ℤ most
below_most most limits slopes k top [] small below are h = h
below_most most limits slopes k top (l ∷ lifts) small below are h =
    let P : ℕ × ℤ → Type 0 = λ (l : ℕ × ℤ). get_or limits l.0 1 ≤ 2 ^ near (most -ℤ l.1) in
    below_most most limits slopes (suc k) (greater_digits top l.1 (entry slopes l.0)) lifts small below (All-tail P l lifts are)
    (below_one most top l.1 (entry slopes l.0) h (entry_small slopes l.0 small) (below_limit limits slopes l.0 (near (most -ℤ l.1)) below (All-head P l lifts are)))

-- ---- at least the least
pub rises : (top lift slope : ℤ) → top ≤ℤ greater_digits top lift slope
rises top lift slope = by (int_eq slope (pos 0))
  where
    by : (b : Bool) → top ≤ℤ cond b top (int_max top (lift +ℤ pos (bits_of slope)))
    by true = omega (arith, ints)
    by false = omega (arith, ints, clamps)

all_rise : (slopes : List ℤ) (k : ℕ) (least top : ℤ) (lifts : List (ℕ × ℤ)) → least ≤ℤ top → least ≤ℤ greatest_from slopes k top lifts
all_rise slopes k least top [] h = h
all_rise slopes k least top (l ∷ lifts) h =
    let r = rises top l.1 (entry slopes l.0) in
    all_rise slopes (suc k) least (greater_digits top l.1 (entry slopes l.0)) lifts (omega (arith, ints, h, r))

-- a slope of some size has so many digits
reached_one : (least top lift slope : ℤ) → nat_abs slope < 2 ^ 57 → 2 ^ near ((least -ℤ pos 1) -ℤ lift) ≤ nat_abs slope → least ≤ℤ greater_digits top lift slope
reached_one least top lift slope small reach = by (int_eq slope (pos 0)) refl
  where
    n : ℕ
    n = near ((least -ℤ pos 1) -ℤ lift)

    by : (b : Bool) → int_eq slope (pos 0) ≡ b → least ≤ℤ cond b top (int_max top (lift +ℤ pos (bits_of slope)))
    by true e =
        let z : nat_abs slope ≡ 0 = grind (arith, ints, nat_tests) in
        absurd (omega (arith, z, reach, pow_pos n))
    by false e =
        let p : 0 < nat_abs slope = grind (arith, ints, nat_tests) in
        let t = leading_top 128 (nat_abs slope) p (omega (arith, small)) in
        let x : n < suc t.0 = below_power (nat_abs slope) n (suc t.0) reach t.3 in
        let y : n < 57 = below_power (nat_abs slope) n 57 reach small in
        let bits : n + 1 ≤ bits_of slope = omega (arith, x, t.1) in
        omega (arith, ints, clamps, bits, y)

-- the lead of a place
pub lead_reaches : (lifts : List (ℕ × ℤ)) (least : ℤ) (place state size : ℕ) (lift : ℤ) → slice_get lifts place ≡ Some (state, lift) → size ≡ 2 ^ near ((least -ℤ pos 1) -ℤ lift) → ReachesDigits lifts least state size
lead_reaches lifts least place state size lift e s slopes small reach = by lifts place e (pos 0) 0
  where
    by : (ls : List (ℕ × ℤ)) (i : ℕ) → slice_get ls i ≡ Some (state, lift) → (top : ℤ) (k : ℕ) → least ≤ℤ greatest_from slopes k top ls
    by [] i e top k = absurd (cc)
    by (l ∷ ls) zero e top k =
        let f : l ≡ (state, lift) = cc in
        subst (λ (x : ℕ × ℤ). least ≤ℤ greatest_from slopes k top (x ∷ ls)) (sym f)
        (all_rise slopes (suc k) least (greater_digits top lift (entry slopes state)) ls (reached_one least top lift (entry slopes state) (entry_small slopes state small) (subst (λ (n : ℕ). n ≤ nat_abs (entry slopes state)) s reach)))
    by (l ∷ ls) (suc i) e top k = by ls i e (greater_digits top l.1 (entry slopes l.0)) (suc k)

-- no slope reaches 2^57
pub none_reaches : (slopes : List ℤ) (state : ℕ) → small_slope slopes → 2 ^ 57 ≤ nat_abs (entry slopes state) → ⊥
none_reaches slopes state small h = let s = entry_small slopes state small in omega (arith, s, h)

-- ---- a number within a span
pub within_kept : (s : Span) (top : ℤ) → s.least ≤ℤ top → top ≤ℤ s.greatest → grown_above_zero (Some s) top ≡ Some s
within_kept s top h k = by (int_eq top (pos 0))
  where
    least : int_min s.least top ≡ s.least
    least = omega (arith, ints, clamps, h)

    greatest : int_max s.greatest top ≡ s.greatest
    greatest = omega (arith, ints, clamps, k)

    by : (b : Bool) → cond b (Some s) (grown (Some s) top) ≡ Some s
    by true = refl
    by false = ap (λ (x : ℤ). Some (record { least = x; greatest = int_max s.greatest top })) least ∙ ap (λ (x : ℤ). Some (record { least = s.least; greatest = x })) greatest

-- limits and a lead keep the span that they were made of
pub fence_keeps : (lifts : List (ℕ × ℤ)) (s : Span) (limits : List ℕ) (state size : ℕ) → IsBetween (pos 0) (pos 640) s → AreLimits s.greatest lifts limits → ReachesDigits lifts s.least state size → Keeps lifts (Some s) limits state size
fence_keeps lifts s limits state size b are reaches slopes small below reach =
    within_kept s (most_digits lifts slopes) (reaches slopes small reach) (below_most s.greatest limits slopes 0 (pos 0) lifts small below are b.low_greatest)

-- ---- slopes, one after the other
abbrev pub BelowBefore : ℕ → List ℕ → List ℤ → Type 0
BelowBefore k limits slopes = (j : ℕ) → j < k → nat_abs (entry slopes j) < get_or limits j 1

pub below_more : (k : ℕ) (limits : List ℕ) (slopes : List ℤ) → BelowBefore k limits slopes → nat_abs (entry slopes k) < get_or limits k 1 → BelowBefore (k + 1) limits slopes
below_more k limits slopes h e j l = by (j == k) refl
  where
    by : (b : Bool) → (j == k) ≡ b → nat_abs (entry slopes j) < get_or limits j 1
    by true f =
        let same : j ≡ k = grind (arith, nat_tests) in
        subst (λ (i : ℕ). nat_abs (entry slopes i) < get_or limits i 1) (sym same) e
    by false f =
        let less : j < k = grind (arith, nat_tests) in
        h j less

-- ---- limits, one after the other
-- a limit that is lowered
lowered_at : (limits : List ℕ) (state j limit : ℕ) → get_or (set limits state (min (get_or limits state 1) limit)) j 1 ≤ get_or limits j 1
lowered_at [] state j limit = omega arith
lowered_at (x ∷ xs) zero zero limit = omega arith
lowered_at (x ∷ xs) zero (suc j) limit = omega arith
lowered_at (x ∷ xs) (suc state) zero limit = omega arith
lowered_at (x ∷ xs) (suc state) (suc j) limit = lowered_at xs state j limit

lowered_here : (limits : List ℕ) (state limit : ℕ) → 1 ≤ limit → get_or (set limits state (min (get_or limits state 1) limit)) state 1 ≤ limit
lowered_here [] state limit h = h
lowered_here (x ∷ xs) zero limit h = omega arith
lowered_here (x ∷ xs) (suc state) limit h = lowered_here xs state limit h

pub limits_more : (most : ℤ) (lifts : List (ℕ × ℤ)) (limits now : List ℕ) (k state limit : ℕ) (lift : ℤ) → k < length lifts → AreLimits most (take k lifts) limits → state ≡ (get_or lifts k (0, pos 0)).0 → lift ≡ (get_or lifts k (0, pos 0)).1
    → limit ≡ 2 ^ near (most -ℤ lift) → now ≡ set limits state (min (get_or limits state 1) limit) → AreLimits most (take (k + 1) lifts) now
limits_more most lifts limits now k state limit lift there are s l e n =
    let P : List ℕ → ℕ × ℤ → Type 0 = λ ls (x : ℕ × ℤ). get_or ls x.0 1 ≤ 2 ^ near (most -ℤ x.1) in
    let next : List ℕ = set limits state (min (get_or limits state 1) limit) in
    let old : All (P next) (take k lifts) = All-weaker (P limits) (P next) (λ x h. omega (arith, h, lowered_at limits state x.0 limit)) (take k lifts) are in
    let some : 1 ≤ limit = omega (arith, e, pow_pos (near (most -ℤ lift))) in
    let here : get_or next state 1 ≤ 2 ^ near (most -ℤ lift) = omega (arith, e, lowered_here limits state limit some) in
    let last : P next (get_or lifts k (0, pos 0)) = subst (λ (j : ℕ). get_or next j 1 ≤ 2 ^ near (most -ℤ (get_or lifts k (0, pos 0)).1)) s (subst (λ (z : ℤ). get_or next state 1 ≤ 2 ^ near (most -ℤ z)) l here) in
    subst (λ (ls : List ℕ). AreLimits most (take (k + 1) lifts) ls) (sym n) (All-more (P next) lifts k (0, pos 0) there old last)
