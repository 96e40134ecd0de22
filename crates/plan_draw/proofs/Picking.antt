-- A word picks an index among the weights, and a stop weight behind them is picked where no other is.
use Rattle.std.proofs.Common.{◌≡◌, ℕ, zero, suc, ◌+◌, ◌*◌, ◌^◌, ◌<◌, ◌≤◌, Bool, true, false, List, [], ◌∷◌, ◌++◌, length, sum, nat_lt, if◌then◌else◌, refl, sym, ap, ◌∙◌, arith}
use Rattle.std.proofs.Math.Nat.{div-lt_iff_lt-mul, mul-le-mul_right}
use Rattle.std.proofs.lemmas.Bool.Decides.{nat_tests}
use Rattle.std.proofs.lemmas.Bool.{ltb-true}
use Rattle.std.proofs.lemmas.List.Sums.{sum_by-cons}
use Rattle.base_num.proofs.Tests.{and_first, and_second}
use Rattle.problem.specs.Limits.{are_weights}
use Rattle.plan_draw.specs.Picked.{first_above, level_of, picked, stop_weight}

sum-cons : (w : ℕ) (ws : List ℕ) → sum (w ∷ ws) ≡ w + sum ws
sum-cons w ws = sum_by-cons (λ k. k) w ws

-- a word's level is below the total
pub level_below : (total word : ℕ) → word < 2 ^ 32 → 0 < total → level_of total word < total
level_below total word h some =
    let least : (word + 1) * total ≤ 2 ^ 32 * total = mul-le-mul_right total (omega arith) in
    (div-lt_iff_lt-mul {k = 2 ^ 32} {x = word * total} {y = total} (omega arith)).1 (omega (arith, least))

-- there are no more weights than their sum
pub few_weights : (ws : List ℕ) → are_weights ws ≡ true → length ws ≤ sum ws
few_weights [] e = omega arith
few_weights (w ∷ ws) e =
    let here : 0 < w = ltb-true 0 w (and_first (nat_lt 0 w) (are_weights ws) e) in
    let tail : length ws ≤ sum ws = few_weights ws (and_second (nat_lt 0 w) (are_weights ws) e) in
    omega (arith, sum-cons w ws)

-- a level below the whole sum is exceeded
pub above_in_range : (level before i : ℕ) (ws : List ℕ) → before ≤ level → level < before + sum ws → first_above level before i ws < i + length ws
above_in_range level before i [] h k = absurd (omega arith)
above_in_range level before i (w ∷ ws) h k = by (λ l. above_in_range level (before + w) (suc i) ws l (omega (arith, sum-cons w ws))) (nat_lt level (before + w)) refl
  where
    by : (before + w ≤ level → first_above level (before + w) (suc i) ws < suc i + length ws) → (b : Bool) → nat_lt level (before + w) ≡ b → (if b then i else first_above level (before + w) (suc i) ws) < i + length (w ∷ ws)
    by tail true e = omega arith
    by tail false e = let l : before + w ≤ level = grind (arith, nat_tests) in omega (arith, tail l)

-- a stop weight is at the place behind the weights
pub above_stop : (level before i stop : ℕ) (ws : List ℕ) → level < before + sum ws + stop → first_above level before i (ws ++ stop_weight stop) ≡ first_above level before i ws
above_stop level before i zero [] h = refl
above_stop level before i (suc n) [] h = grind (arith, nat_tests)
above_stop level before i stop (w ∷ ws) h = ap (λ k. if nat_lt level (before + w) then i else k) (above_stop level (before + w) (suc i) stop ws (omega (arith, sum-cons w ws)))

pub sum_stop : (ws : List ℕ) (stop : ℕ) → sum (ws ++ stop_weight stop) ≡ sum ws + stop
sum_stop [] zero = refl
sum_stop [] (suc n) = omega arith
sum_stop (w ∷ ws) stop = omega (arith, sum_stop ws stop, sum-cons w ws, sum-cons w (ws ++ stop_weight stop))

-- the index that a word picks with a stop weight
pub picked_stop : (ws : List ℕ) (stop word : ℕ) → word < 2 ^ 32 → 0 < sum ws → first_above (level_of (sum ws + stop) word) 0 0 ws ≡ picked (ws ++ stop_weight stop) word
unfolding picked
picked_stop ws stop word h some =
    let below : level_of (sum ws + stop) word < sum ws + stop = level_below (sum ws + stop) word h (omega arith) in
    sym (above_stop (level_of (sum ws + stop) word) 0 0 stop ws (omega (arith, below)))
    ∙ ap (λ (total : ℕ). first_above (level_of total word) 0 0 (ws ++ stop_weight stop)) (sym (sum_stop ws stop))

pub picked_in_range : (ws : List ℕ) (word : ℕ) → word < 2 ^ 32 → 0 < length ws → are_weights ws ≡ true → picked ws word < length ws
unfolding picked
picked_in_range ws word h some e =
    let below : level_of (sum ws) word < sum ws = level_below (sum ws) word h (omega (arith, few_weights ws e)) in
    let inside : first_above (level_of (sum ws) word) 0 0 ws < 0 + length ws = above_in_range (level_of (sum ws) word) 0 0 ws (omega arith) (omega (arith, below)) in
    omega (arith, inside)
