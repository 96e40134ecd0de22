-- An allowed move leaves small amounts, and decisions in their boxes.
use Rattle.std.proofs.Common.{◌≡◌, ◌∙◌, ℕ, ◌<◌, ◌≤◌, ◌^◌, Bool, true, false, ℤ, pos, ◌+ℤ◌, ◌*ℤ◌, ◌≤ℤ◌, nat_abs, List, length, get_or, nat_lt, nat_eq, refl, sym, ap₂, subst, arith}
use Rattle.std.specs.Prelude.{int_lt, int_le, ◌&&◌}
use Rattle.std.proofs.lemmas.Bool.Decides.{nat_tests}
use Rattle.std.proofs.lemmas.Grind.{common_steps}
use Rattle.std.proofs.lemmas.Int.{ints}
use Rattle.std.proofs.lemmas.List.{length-set, get_or-set_same, get_or-set_other, get_or_past}
use Rattle.base_num.specs.Sums.{entry}
use Rattle.problem.specs.Validated.{Validated, is_validated}
use Rattle.theory.specs.Problem.{S, node_at}
use Rattle.theory.specs.Tree.{InBox}
use Rattle.theory.specs.View.{problem_of}
use Rattle.plan_forward.proofs.Boxes.{boxes-validated}
use Rattle.plan_mend.specs.declared.search.Search.{Search}
use Rattle.plan_mend.specs.Moves.{Frame, may_move, moved_decision}

-- a number in a box that is no point
pub record Allowed (low high number : ℤ) : Type 0 where
  pub room : int_lt low high ≡ true
  pub above : (pos S *ℤ low) ≤ℤ number
  pub below : number ≤ℤ (pos S *ℤ high)

pub allowed : (f : Frame) (s : Search) (j : ℕ) (v : ℤ) → may_move f s j v ≡ true → Allowed (entry f.lows j) (entry f.highs j) (entry s.numbers j +ℤ v)
allowed f s j v e = record { room = grind (arith, common_steps, e); above = grind (arith, ints, common_steps, e); below = grind (arith, ints, common_steps, e) }

pub may_is : (f : Frame) (s : Search) (j : ℕ) (v low high number : ℤ) → low ≡ entry f.lows j → high ≡ entry f.highs j → number ≡ entry s.numbers j +ℤ v → get_or s.held j true ≡ false
    → (int_lt low high && (int_le (pos S *ℤ low) number && int_le number (pos S *ℤ high))) ≡ may_move f s j v
may_is f s j v low high number a b n h = rw (a, b, n, h) refl

no_room : int_lt (pos 0) (pos 0) ≡ true → ⊥
no_room e = cc

-- a number in a box of small bounds is small, and so is the way between two of them
small_number : (x l u : ℤ) → (pos S *ℤ l) ≤ℤ x → x ≤ℤ (pos S *ℤ u) → nat_abs l ≤ 2 ^ 40 → nat_abs u ≤ 2 ^ 40 → nat_abs x ≤ 2 ^ 64
unfolding S
small_number x l u a b c d = omega (arith, ints, a, b, c, d)

small_way : (x v : ℤ) → nat_abs x ≤ 2 ^ 64 → nat_abs (x +ℤ v) ≤ 2 ^ 64 → nat_abs v ≤ 2 ^ 66
small_way x v a b = omega (arith, ints, a, b)

-- decisions in their boxes with one of them moved
module _ (lows highs u : List ℤ) (j : ℕ) (v : ℤ) (inside : InBox S lows highs u) (there : j < length lows) (a : Allowed (entry lows j) (entry highs j) (entry u j +ℤ v)) where
  there_too : j < length u
  there_too = omega (arith, there, inside.count)

  at_moved : (P : ℕ → ℤ → Type 0) (k : ℕ) → P j (entry u j +ℤ v) → P k (entry u k) → P k (entry (moved_decision u j v) k)
  at_moved P k here other = by (nat_eq k j) refl
    where
      by : (b : Bool) → nat_eq k j ≡ b → P k (entry (moved_decision u j v) k)
      by true e = let same : k ≡ j = grind (arith, nat_tests) in subst (λ (i : ℕ). P i (entry (moved_decision u j v) i)) (sym same) (subst (P j) (sym (get_or-set_same u j (entry u j +ℤ v) (pos 0) there_too)) here)
      by false e = subst (P k) (sym (get_or-set_other u j k (entry u j +ℤ v) (pos 0) (λ same. absurd (grind (arith, nat_tests))))) other

  pub moved_inside : InBox S lows highs (moved_decision u j v)
  moved_inside = record {
    count = length-set u j (entry u j +ℤ v) ∙ inside.count;
    above = λ k l. at_moved (λ i z. (pos S *ℤ entry lows i) ≤ℤ z) k a.above (inside.above k l);
    below = λ k l. at_moved (λ i z. z ≤ℤ (pos S *ℤ entry highs i)) k a.below (inside.below k l);
  }

-- the decisions of a node
module _ (p : Validated) (e : is_validated p ≡ true) (m : ℕ) (h : m < length p.parts.nodes) (same : length (node_at (problem_of p) m).decision_high ≡ length (node_at (problem_of p) m).decision_low)
    (u : List ℤ) (inside : InBox S (node_at (problem_of p) m).decision_low (node_at (problem_of p) m).decision_high u) (j : ℕ) where
  small_there : j < length (node_at (problem_of p) m).decision_low → (z : ℤ) → (pos S *ℤ entry (node_at (problem_of p) m).decision_low j) ≤ℤ z → z ≤ℤ (pos S *ℤ entry (node_at (problem_of p) m).decision_high j) → nat_abs z ≤ 2 ^ 64
  small_there l z a b =
      let box = boxes-validated p m e h j l in
      small_number z (entry (node_at (problem_of p) m).decision_low j) (entry (node_at (problem_of p) m).decision_high j) a b box.low box.high

  pub number_small : nat_abs (entry u j) ≤ 2 ^ 64
  number_small = by (nat_lt j (length (node_at (problem_of p) m).decision_low)) refl
    where
      by : (b : Bool) → nat_lt j (length (node_at (problem_of p) m).decision_low) ≡ b → nat_abs (entry u j) ≤ 2 ^ 64
      by true e = let l : j < length (node_at (problem_of p) m).decision_low = grind (arith, nat_tests) in small_there l (entry u j) (inside.above j l) (inside.below j l)
      by false e =
          let past : length u ≤ j = grind (arith, nat_tests, inside.count) in
          let none : entry u j ≡ pos 0 = get_or_past u j (pos 0) past in
          omega (arith, ints, none)

  module _ (v : ℤ) (a : Allowed (entry (node_at (problem_of p) m).decision_low j) (entry (node_at (problem_of p) m).decision_high j) (entry u j +ℤ v)) where
    pub is_there : j < length (node_at (problem_of p) m).decision_low
    is_there = by (nat_lt j (length (node_at (problem_of p) m).decision_low)) refl
      where
        by : (b : Bool) → nat_lt j (length (node_at (problem_of p) m).decision_low) ≡ b → j < length (node_at (problem_of p) m).decision_low
        by true e = grind (arith, nat_tests)
        by false e =
            let low_past : length (node_at (problem_of p) m).decision_low ≤ j = grind (arith, nat_tests) in
            let high_past : length (node_at (problem_of p) m).decision_high ≤ j = omega (arith, low_past, same) in
            let low : entry (node_at (problem_of p) m).decision_low j ≡ pos 0 = get_or_past (node_at (problem_of p) m).decision_low j (pos 0) low_past in
            let high : entry (node_at (problem_of p) m).decision_high j ≡ pos 0 = get_or_past (node_at (problem_of p) m).decision_high j (pos 0) high_past in
            absurd (no_room (sym (ap₂ (λ (y z : ℤ). int_lt y z) low high) ∙ a.room))

    pub amount_small : nat_abs v ≤ 2 ^ 66
    amount_small = small_way (entry u j) v number_small (small_there is_there (entry u j +ℤ v) a.above a.below)

    pub stays_inside : InBox S (node_at (problem_of p) m).decision_low (node_at (problem_of p) m).decision_high (moved_decision u j v)
    stays_inside = moved_inside (node_at (problem_of p) m).decision_low (node_at (problem_of p) m).decision_high u j v inside is_there a
