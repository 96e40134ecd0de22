-- An amount that is added at a place of some multipliers is added at the same place of their pairs.
use Rattle.std.proofs.Common.{◌≡◌, ◌∙◌, ℕ, zero, suc, ◌+◌, ◌<◌, ◌≤◌, ◌^◌, Bool, true, false, List, [], ◌∷◌, ◌++◌, length, get_or, map, nat_lt, if◌then◌else◌, refl, ap, sym, arith}
use Rattle.std.proofs.lemmas.Bool.Decides.{nat_tests}
use Rattle.std.proofs.lemmas.List.{length-map}
use Rattle.theory.specs.Certificates.{multipliers}
use Rattle.plan_answer.specs.Settling.{greatest_place_from, place_of_greatest, place_of_missing, raised_place, pairs_from, raised_pair, raised_first, topped}
use Rattle.plan_answer.proofs.SettledPairs.{place-inside, positive_first}

abbrev seconds : List (ℕ × ℕ) → List ℕ
seconds ss = map (λ (s : ℕ × ℕ). s.1) ss

-- the place of the greatest of multipliers from the place k on, and the number of that of their pairs, from j on: each is
-- that of the best before them, or that of the same multiplier behind k and j
data Alike (place number best first most k j : ℕ) (vs : List ℕ) : Type 0 where
  before : place ≡ best → number ≡ first → (most ≡ 0 → pairs_from k vs ≡ []) → Alike place number best first most k j vs
  behind : (p q : ℕ) → place ≡ k + p → number ≡ j + q → q < length (pairs_from k vs) → ((more : ℕ) → pairs_from k (raised_place vs p more) ≡ raised_pair (pairs_from k vs) q more) → Alike place number best first most k j vs

-- one multiplier of 0 in front
zero_in_front : (place number best first most k j : ℕ) (vs : List ℕ) → Alike place number best first most (suc k) j vs → Alike place number best first most k j (zero ∷ vs)
zero_in_front place number best first most k j vs (before e f none) = before e f none
zero_in_front place number best first most k j vs (behind p q e f inside same) = behind (suc p) q (omega (arith, e)) f inside same

-- one positive multiplier in front that is not above the best before it
less_in_front : (place number best first most k j v : ℕ) (vs : List ℕ) → 0 < most → Alike place number best first most (suc k) (suc j) vs → Alike place number best first most k j (suc v ∷ vs)
less_in_front place number best first most k j v vs h (before e f none) = before e f (λ z. absurd (omega (arith, h, z)))
less_in_front place number best first most k j v vs h (behind p q e f inside same) = behind (suc p) (suc q) (omega (arith, e)) (omega (arith, f)) (omega (arith, inside)) (λ more. ap (λ (ss : List (ℕ × ℕ)). (k, suc v) ∷ ss) (same more))

-- one that is above it
more_in_front : (place number best first most k j v : ℕ) (vs : List ℕ) → Alike place number k j (suc v) (suc k) (suc j) vs → Alike place number best first most k j (suc v ∷ vs)
more_in_front place number best first most k j v vs (before e f none) = behind 0 0 (omega (arith, e)) (omega (arith, f)) (omega arith) (λ more. positive_first k (suc v + more) vs (omega arith))
more_in_front place number best first most k j v vs (behind p q e f inside same) = behind (suc p) (suc q) (omega (arith, e)) (omega (arith, f)) (omega (arith, inside)) (λ more. ap (λ (ss : List (ℕ × ℕ)). (k, suc v) ∷ ss) (same more))

alike : (best first most k j : ℕ) (vs : List ℕ) → Alike (greatest_place_from best most k vs) (greatest_place_from first most j (seconds (pairs_from k vs))) best first most k j vs
alike best first most k j [] = before refl refl (λ z. refl)
alike best first most k j (zero ∷ vs) =
    let none : nat_lt most 0 ≡ false = grind (arith, nat_tests) in
    rw none
    (zero_in_front (greatest_place_from best most (suc k) vs) (greatest_place_from first most j (seconds (pairs_from (suc k) vs))) best first most k j vs (alike best first most (suc k) j vs))
alike best first most k j (suc v ∷ vs) = by (nat_lt most (suc v)) refl (alike k j (suc v) (suc k) (suc j) vs) (alike best first most (suc k) (suc j) vs)
  where
    by : (t : Bool) → nat_lt most (suc v) ≡ t → Alike (greatest_place_from k (suc v) (suc k) vs) (greatest_place_from j (suc v) (suc j) (seconds (pairs_from (suc k) vs))) k j (suc v) (suc k) (suc j) vs
        → Alike (greatest_place_from best most (suc k) vs) (greatest_place_from first most (suc j) (seconds (pairs_from (suc k) vs))) best first most (suc k) (suc j) vs
        → Alike (if t then greatest_place_from k (suc v) (suc k) vs else greatest_place_from best most (suc k) vs) (if t then greatest_place_from j (suc v) (suc j) (seconds (pairs_from (suc k) vs)) else greatest_place_from first most (suc j) (seconds (pairs_from (suc k) vs))) best first most k j (suc v ∷ vs)
    by true e more less = more_in_front (greatest_place_from k (suc v) (suc k) vs) (greatest_place_from j (suc v) (suc j) (seconds (pairs_from (suc k) vs))) best first most k j v vs more
    by false e more less = less_in_front (greatest_place_from best most (suc k) vs) (greatest_place_from first most (suc j) (seconds (pairs_from (suc k) vs))) best first most k j v vs (grind (arith, nat_tests)) less

-- the first pair apart
pub pairs_from-cons : (k v : ℕ) (vs : List ℕ) → pairs_from k (v ∷ vs) ≡ pairs_from k (v ∷ []) ++ pairs_from (suc k) vs
pairs_from-cons k zero vs = refl
pairs_from-cons k (suc v) vs = refl

-- nothing more leaves multipliers of 0 as they are
none_more : (vs : List ℕ) (more : ℕ) → 0 < length vs → more ≡ 0 → pairs_from 0 vs ≡ [] → pairs_from 0 (raised_place vs 0 more) ≡ []
none_more [] more h z e = absurd (omega arith)
none_more (zero ∷ vs) more h z e = ap (λ (n : ℕ). pairs_from 0 ((0 + n) ∷ vs)) z ∙ e
none_more (suc v ∷ vs) more h z e = absurd cc

-- the amount that goes to the greatest
raised_place-greatest : (vs : List ℕ) (more : ℕ) → 0 < length vs → (pairs_from 0 vs ≡ [] → more ≡ 0) → pairs_from 0 (raised_place vs (place_of_greatest vs) more) ≡ raised_pair (pairs_from 0 vs) (place_of_greatest (seconds (pairs_from 0 vs))) more
raised_place-greatest vs more h few = by (alike 0 0 0 0 0 vs)
  where
    by : Alike (place_of_greatest vs) (place_of_greatest (seconds (pairs_from 0 vs))) 0 0 0 0 0 vs → pairs_from 0 (raised_place vs (place_of_greatest vs) more) ≡ raised_pair (pairs_from 0 vs) (place_of_greatest (seconds (pairs_from 0 vs))) more
    by (before e f none) =
        ap (λ (i : ℕ). pairs_from 0 (raised_place vs i more)) e ∙ none_more vs more h (few (none refl)) (none refl)
        ∙ sym (ap (λ (ss : List (ℕ × ℕ)). raised_pair ss (place_of_greatest (seconds ss)) more) (none refl))
    by (behind p q e f inside same) =
        ap (λ (i : ℕ). pairs_from 0 (raised_place vs i more)) (omega (arith, e)) ∙ same more
        ∙ ap (λ (i : ℕ). raised_pair (pairs_from 0 vs) i more) (omega (arith, f))

-- the amount that goes to the first cut
first_in_front : (k more : ℕ) (vs : List ℕ) → raised_first (pairs_from (suc k) vs) more ≡ (0, more) ∷ pairs_from (suc k) vs
first_in_front k more [] = refl
first_in_front k more (zero ∷ vs) = first_in_front (suc k) more vs
first_in_front k more (suc v ∷ vs) = refl

raised_place-first : (vs : List ℕ) (more : ℕ) → 0 < length vs → 0 < more → pairs_from 0 (raised_place vs 0 more) ≡ raised_first (pairs_from 0 vs) more
raised_place-first [] more h some = absurd (omega arith)
raised_place-first (zero ∷ vs) more h some = ap (λ (n : ℕ). pairs_from 0 (n ∷ vs)) (omega arith) ∙ positive_first 0 more vs some ∙ sym (first_in_front 0 more vs)
raised_place-first (suc v ∷ vs) more h some = positive_first 0 (suc v + more) vs (omega arith)

pub topped-pairs : (vs : List ℕ) (more : ℕ) → 0 < length vs → pairs_from 0 (raised_place vs (place_of_missing more vs) more) ≡ topped (pairs_from 0 vs) more
topped-pairs vs more h = by (nat_lt (length (pairs_from 0 vs)) more) refl
  where
    by : (b : Bool) → nat_lt (length (pairs_from 0 vs)) more ≡ b
        → pairs_from 0 (raised_place vs (if b then 0 else place_of_greatest vs) more) ≡ (if b then raised_first (pairs_from 0 vs) more else raised_pair (pairs_from 0 vs) (place_of_greatest (seconds (pairs_from 0 vs))) more)
    by true e = raised_place-first vs more h (grind (arith, nat_tests))
    by false e = raised_place-greatest vs more h (λ none. let few : length (pairs_from 0 vs) ≡ 0 = ap (λ (ss : List (ℕ × ℕ)). length ss) none in grind (arith, nat_tests))

-- the greatest is there, and there is room for what is missing to a target of 64 bits
pub greatest_there : (ss slice : List (ℕ × ℕ)) (i : ℕ) → 0 < length ss → slice ≡ ss → i ≡ place_of_greatest (seconds slice) → i < length ss
greatest_there ss slice i h is at =
    let many : length (seconds ss) ≡ length ss = length-map ss (λ (s : ℕ × ℕ). s.1) in
    rw (at, is) (omega (arith, many, place-inside (seconds ss) (omega (arith, h, many))))

pair_at_most : (ss : List (ℕ × ℕ)) (i : ℕ) → (get_or ss i (0, 0)).1 ≤ multipliers ss
pair_at_most [] i = omega arith
pair_at_most (s ∷ ss) zero = omega arith
pair_at_most (s ∷ ss) (suc i) = omega (arith, pair_at_most ss i)

pub room_at : (ss slice : List (ℕ × ℕ)) (i more : ℕ) → slice ≡ ss → multipliers ss + more < 2 ^ 64 → (get_or slice i (0, 0)).1 + more < 2 ^ 64
room_at ss slice i more is h = rw is (omega (arith, h, pair_at_most ss i))
