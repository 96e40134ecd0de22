-- The pairs of a successor: their places rise, their multipliers are positive and sum to the target.
use Rattle.std.proofs.Common.{◌≡◌, ◌∙◌, ℕ, zero, suc, ◌+◌, ◌-◌, ◌*◌, ◌<◌, ◌≤◌, min, Bool, true, false, List, [], ◌∷◌, length, get_or, replicate, nat_lt, if◌then◌else◌, All, refl, ap, ap₂, arith}
use Rattle.std.proofs.lemmas.List.{length-set, get_or_past}
use Rattle.std.proofs.lemmas.List.Elements.{All-nil, All-cons, All-head, All-weaker}
use Rattle.theory.specs.declared.cut.Cut.{Cut}
use Rattle.theory.specs.Problem.{S, Successor}
use Rattle.theory.specs.Pools.{pool}
use Rattle.theory.specs.Certificates.{Rising, multipliers, PairsRight}
use Rattle.lp_program.specs.declared.fixed.Fx.{Fx}
use Rattle.lp_program.specs.Numbers.{zero_fx}
use Rattle.plan_answer.specs.Settling.{cut_multiplier, cut_multipliers, capped, missing, greatest_place_from, place_of_greatest, place_of_missing, raised_place, shared, pairs_from, settled_pairs}

-- lengths
pub length-cut_multipliers : (duals : List Fx) (k count : ℕ) → length (cut_multipliers duals k count) ≡ count
length-cut_multipliers duals k zero = refl
length-cut_multipliers duals k (suc count) = ap suc (length-cut_multipliers duals (suc k) count)

pub length-capped : (left : ℕ) (vs : List ℕ) → length (capped left vs) ≡ length vs
length-capped left [] = refl
length-capped left (v ∷ vs) = ap suc (length-capped (left - v) vs)

pub length-shared : (target : ℕ) (vs : List ℕ) → length (shared target vs) ≡ length vs
length-shared target vs =
    let place = place_of_missing (missing target vs) (capped target vs) in
    length-set (capped target vs) place (get_or (capped target vs) place 0 + missing target vs) ∙ length-capped target vs

-- sums
abbrev pub total : List ℕ → ℕ
total [] = 0
total (v ∷ vs) = v + total vs

min_rest : (v left : ℕ) → min v left + (left - v) ≡ left
min_rest v left = omega arith

pub total-capped : (left : ℕ) (vs : List ℕ) → total (capped left vs) + missing left vs ≡ left
total-capped left [] = omega arith
total-capped left (v ∷ vs) = let tail : total (capped (left - v) vs) + missing (left - v) vs ≡ left - v = total-capped (left - v) vs in omega (arith, tail, min_rest v left)

pub total-raised_place : (vs : List ℕ) (k more : ℕ) → k < length vs → total (raised_place vs k more) ≡ total vs + more
total-raised_place [] k more h = absurd (omega arith)
total-raised_place (v ∷ vs) zero more h = omega arith
total-raised_place (v ∷ vs) (suc k) more h = let tail : total (raised_place vs k more) ≡ total vs + more = total-raised_place vs k more (omega arith) in omega (arith, tail)

-- where something is missing, each has kept all
missing_at_most : (left : ℕ) (vs : List ℕ) → missing left vs ≤ left
missing_at_most left [] = omega arith
missing_at_most left (v ∷ vs) = omega (arith, missing_at_most (left - v) vs)

pub kept_all : (left : ℕ) (vs : List ℕ) → 0 < missing left vs → capped left vs ≡ vs
kept_all left [] h = refl
kept_all left (v ∷ vs) h =
    let own : min v left ≡ v = omega (arith, h, missing_at_most (left - v) vs) in
    ap₂ (λ (w : ℕ) (ws : List ℕ). w ∷ ws) own (kept_all (left - v) vs h)

-- the greatest is there
pub greatest-inside : (best most k : ℕ) (vs : List ℕ) → best < k + length vs → greatest_place_from best most k vs < k + length vs
greatest-inside best most k [] h = h
greatest-inside best most k (v ∷ vs) h = by (nat_lt most v) (greatest-inside k v (suc k) vs (omega arith)) (greatest-inside best most (suc k) vs (omega arith))
  where
    by : (b : Bool) → greatest_place_from k v (suc k) vs < suc k + length vs → greatest_place_from best most (suc k) vs < suc k + length vs → (if b then greatest_place_from k v (suc k) vs else greatest_place_from best most (suc k) vs) < k + suc (length vs)
    by true one other = omega arith
    by false one other = omega arith

pub place-inside : (vs : List ℕ) → 0 < length vs → place_of_greatest vs < length vs
place-inside vs h = omega (arith, greatest-inside 0 0 0 vs (omega arith))

-- so is the place of what is missing
pub missing-inside : (more : ℕ) (vs : List ℕ) → 0 < length vs → place_of_missing more vs < length vs
missing-inside more vs h = by (nat_lt (length (pairs_from 0 vs)) more)
  where
    by : (b : Bool) → (if b then 0 else place_of_greatest vs) < length vs
    by true = h
    by false = place-inside vs h

pub total-shared : (target : ℕ) (vs : List ℕ) → 0 < length vs → total (shared target vs) ≡ target
total-shared target vs h =
    total-raised_place (capped target vs) (place_of_missing (missing target vs) (capped target vs)) (missing target vs) (missing-inside (missing target vs) (capped target vs) (omega (arith, h, length-capped target vs)))
    ∙ total-capped target vs

-- pairs
abbrev From : ℕ → ℕ × ℕ → Type 0
From k s = k ≤ s.0

abbrev Below : ℕ → ℕ × ℕ → Type 0
Below k s = s.0 < k

abbrev Positive : ℕ × ℕ → Type 0
Positive s = 0 < s.1

all_from : (k : ℕ) (vs : List ℕ) → All (From k) (pairs_from k vs)
all_from k [] = All-nil (From k)
all_from k (zero ∷ vs) = All-weaker (From (suc k)) (From k) (λ s h. omega arith) (pairs_from (suc k) vs) (all_from (suc k) vs)
all_from k (suc v ∷ vs) = All-cons (From k) (k, suc v) (pairs_from (suc k) vs) (omega arith) (All-weaker (From (suc k)) (From k) (λ s h. omega arith) (pairs_from (suc k) vs) (all_from (suc k) vs))

all_below : (k : ℕ) (vs : List ℕ) → All (Below (k + length vs)) (pairs_from k vs)
all_below k [] = All-nil (Below (k + 0))
all_below k (zero ∷ vs) = All-weaker (Below (suc k + length vs)) (Below (k + suc (length vs))) (λ s h. omega arith) (pairs_from (suc k) vs) (all_below (suc k) vs)
all_below k (suc v ∷ vs) = All-cons (Below (k + suc (length vs))) (k, suc v) (pairs_from (suc k) vs) (omega arith) (All-weaker (Below (suc k + length vs)) (Below (k + suc (length vs))) (λ s h. omega arith) (pairs_from (suc k) vs) (all_below (suc k) vs))

all_positive : (k : ℕ) (vs : List ℕ) → All Positive (pairs_from k vs)
all_positive k [] = All-nil Positive
all_positive k (zero ∷ vs) = all_positive (suc k) vs
all_positive k (suc v ∷ vs) = All-cons Positive (k, suc v) (pairs_from (suc k) vs) (omega arith) (all_positive (suc k) vs)

-- a positive multiplier in front
pub positive_first : (k v : ℕ) (vs : List ℕ) → 0 < v → pairs_from k (v ∷ vs) ≡ (k, v) ∷ pairs_from (suc k) vs
positive_first k zero vs h = absurd (omega arith)
positive_first k (suc v) vs h = refl

rising-cons : (s : ℕ × ℕ) (ss : List (ℕ × ℕ)) → All (From (suc s.0)) ss → Rising ss → Rising (s ∷ ss)
rising-cons s [] a h = tt
rising-cons s (n ∷ ss) a h = (All-head (From (suc s.0)) n ss a, h)

rising : (k : ℕ) (vs : List ℕ) → Rising (pairs_from k vs)
rising k [] = tt
rising k (zero ∷ vs) = rising (suc k) vs
rising k (suc v ∷ vs) = rising-cons (k, suc v) (pairs_from (suc k) vs) (all_from (suc k) vs) (rising (suc k) vs)

pub multipliers-pairs_from : (k : ℕ) (vs : List ℕ) → multipliers (pairs_from k vs) ≡ total vs
multipliers-pairs_from k [] = refl
multipliers-pairs_from k (zero ∷ vs) = omega (arith, multipliers-pairs_from (suc k) vs)
multipliers-pairs_from k (suc v ∷ vs) = ap (λ n. suc v + n) (multipliers-pairs_from (suc k) vs)

-- a successor that has cuts
pub pairs_right : (pools : List (List Cut)) (l : Successor) (duals : List Fx) → 0 < length (pool pools l.node) → PairsRight pools (l, settled_pairs (S * l.weight) (length (pool pools l.node)) duals)
pairs_right pools l duals h =
    let count = length (pool pools l.node) in
    let vs = cut_multipliers duals 0 count in
    let ws = shared (S * l.weight) vs in
    let few : length ws ≡ count = length-shared (S * l.weight) vs ∙ length-cut_multipliers duals 0 count in
    record {
      rising = rising 0 ws;
      there = All-weaker (Below (0 + length ws)) (Below count) (λ s q. omega (arith, few)) (pairs_from 0 ws) (all_below 0 ws);
      positive = all_positive 0 ws;
      sum = multipliers-pairs_from 0 ws ∙ total-shared (S * l.weight) vs (omega (arith, length-cut_multipliers duals 0 count));
    }

-- cuts whose duals are missing
pub zero_multipliers : (duals : List Fx) (k count : ℕ) → (0 < count → length duals ≤ k) → cut_multipliers duals k count ≡ replicate count 0
zero_multipliers duals k zero h = refl
zero_multipliers duals k (suc count) h =
    let none : get_or duals k zero_fx ≡ zero_fx = get_or_past duals k zero_fx (h (omega arith)) in
    ap₂ (λ (v : ℕ) (vs : List ℕ). v ∷ vs) (ap (λ (f : Fx). cut_multiplier f.0) none) (zero_multipliers duals (suc k) count (λ i. omega (arith, h (omega arith))))

pub capped-zeros : (left count : ℕ) → capped left (replicate count 0) ≡ replicate count 0
capped-zeros left zero = refl
capped-zeros left (suc count) =
    let same : left - 0 ≡ left = omega arith in
    let none : min 0 left ≡ 0 = omega arith in
    rw (same, none) (ap (λ (vs : List ℕ). 0 ∷ vs) (capped-zeros left count))

pub missing-zeros : (left count : ℕ) → missing left (replicate count 0) ≡ left
missing-zeros left zero = refl
missing-zeros left (suc count) =
    let same : left - 0 ≡ left = omega arith in
    ap (λ (n : ℕ). missing n (replicate count 0)) same ∙ missing-zeros left count

greatest-zeros : (best k count : ℕ) → greatest_place_from best 0 k (replicate count 0) ≡ best
greatest-zeros best k zero = refl
greatest-zeros best k (suc count) = greatest-zeros best (suc k) count

pub pairs-zeros : (k count : ℕ) → pairs_from k (replicate count 0) ≡ []
pairs-zeros k zero = refl
pairs-zeros k (suc count) = pairs-zeros (suc k) count

missing_first : (more count : ℕ) → place_of_missing more (replicate (suc count) 0) ≡ 0
missing_first more count = by (nat_lt (length (pairs_from 0 (replicate (suc count) 0))) more)
  where
    by : (b : Bool) → (if b then 0 else place_of_greatest (replicate (suc count) 0)) ≡ 0
    by true = refl
    by false = greatest-zeros 0 0 (suc count)

shared-zeros : (target count : ℕ) → shared target (replicate (suc count) 0) ≡ target ∷ replicate count 0
shared-zeros target count =
    let zeros : List ℕ = replicate (suc count) 0 in
    let same : 0 + target ≡ target = omega arith in
    ap₂ (λ (vs : List ℕ) (more : ℕ). raised_place vs (place_of_missing more vs) more) (capped-zeros target (suc count)) (missing-zeros target (suc count))
    ∙ ap (λ (place : ℕ). raised_place zeros place target) (missing_first target count) ∙ ap (λ (n : ℕ). n ∷ replicate count 0) same

-- without duals the first cut takes all
pub no_duals-pairs : (target count : ℕ) → 0 < target → 0 < count → settled_pairs target count [] ≡ (0, target) ∷ []
no_duals-pairs target zero h i = absurd (omega arith)
no_duals-pairs target (suc count) h i =
    ap (λ (vs : List ℕ). pairs_from 0 (shared target vs)) (zero_multipliers [] 0 (suc count) (λ i. omega arith)) ∙ ap (pairs_from 0) (shared-zeros target count)
    ∙ positive_first 0 target (replicate count 0) h ∙ ap (λ (ss : List (ℕ × ℕ)). (0, target) ∷ ss) (pairs-zeros 1 count)
