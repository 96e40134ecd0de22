-- The duals that are not 0: those of a list, and then those of pairs.
use Rattle.std.proofs.Common.{◌≡◌, ◌∙◌, ℕ, zero, suc, ◌+◌, ◌-◌, ◌<◌, ◌≤◌, min, Bool, true, false, nat_lt, nat_le, ◌&&◌, List, [], ◌∷◌, ◌++◌, length, take, drop, if◌then◌else◌, refl, ap, ap₂, sym, arith}
use Rattle.std.proofs.lemmas.Bool.Decides.{nat_tests}
use Rattle.std.proofs.lemmas.List.{length-take, length-drop, get_or-take, get_or-drop}
use Rattle.lp_program.specs.declared.fixed.Fx.{Fx}
use Rattle.lp_program.specs.Numbers.{zero_fx}
use Rattle.lp_program.specs.Duals.{dual_among, joined, RiseWithin, AreDuals, is_zero, with_dual, dual_in, not_zero, kept, all_kept}
use Rattle.lp_program.proofs.SpreadDuals.{at_first, past_first, none_before, joined_first, joined_at, is_below, not_below}

pub with_dual_append : (k : ℕ) (f : Fx) (xs ys : List (ℕ × Fx)) → with_dual k f (xs ++ ys) ≡ with_dual k f xs ++ ys
with_dual_append k f xs ys = by (is_zero f)
  where
    by : (t : Bool) → (if t then xs ++ ys else (k, f) ∷ (xs ++ ys)) ≡ (if t then xs else (k, f) ∷ xs) ++ ys
    by true = refl
    by false = refl

pub same_not_zero : (g h : ℕ → Fx) (k n : ℕ) → ((i : ℕ) → k ≤ i → i < k + n → g i ≡ h i) → not_zero g k n ≡ not_zero h k n
same_not_zero g h k zero s = refl
same_not_zero g h k (suc n) s =
    ap₂ (with_dual k) (s k (omega arith) (omega arith)) (same_not_zero g h (suc k) n (λ i a b. s i (omega (arith, a)) (omega (arith, b))))

none_not_zero : (g : ℕ → Fx) (k n : ℕ) → ((i : ℕ) → k ≤ i → i < k + n → g i ≡ zero_fx) → not_zero g k n ≡ []
none_not_zero g k zero z = refl
none_not_zero g k (suc n) z =
    ap (λ (f : Fx). with_dual k f (not_zero g (suc k) n)) (z k (omega arith) (omega arith))
    ∙ none_not_zero g (suc k) n (λ i a b. z i (omega (arith, a)) (omega (arith, b)))

split_not_zero : (g : ℕ → Fx) (k a b : ℕ) → not_zero g k (a + b) ≡ not_zero g k a ++ not_zero g (k + a) b
split_not_zero g k zero b = let e : 0 + b ≡ b = omega arith in let f : k ≡ k + 0 = omega arith in ap₂ (not_zero g) f e
split_not_zero g k (suc a) b =
    let e : suc a + b ≡ suc (a + b) = omega arith in
    let f : suc k + a ≡ k + suc a = omega arith in
    ap (not_zero g k) e
    ∙ ap (with_dual k (g k)) (split_not_zero g (suc k) a b ∙ ap (λ (j : ℕ). not_zero g (suc k) a ++ not_zero g j b) f)
    ∙ with_dual_append k (g k) (not_zero g (suc k) a) (not_zero g (k + suc a) b)

-- the dual of a row so many behind another
abbrev dual_after : List (ℕ × Fx) → ℕ → ℕ → Fx
dual_after ps from i = dual_among ps (from + i)

kept_here : (from count : ℕ) (p : ℕ × Fx) → from ≤ p.0 → p.0 - from < count → kept from count p ≡ with_dual (p.0 - from) p.1 []
kept_here from count p h l = let e : (nat_le from p.0 && nat_lt (p.0 - from) count) ≡ true = grind (arith, nat_tests) in ap (λ (t : Bool). if t then with_dual (p.0 - from) p.1 [] else []) e

kept_before : (from count : ℕ) (p : ℕ × Fx) → p.0 < from → kept from count p ≡ []
kept_before from count p h = let e : (nat_le from p.0 && nat_lt (p.0 - from) count) ≡ false = grind (arith, nat_tests) in ap (λ (t : Bool). if t then with_dual (p.0 - from) p.1 [] else []) e

kept_beyond : (from count : ℕ) (p : ℕ × Fx) → count ≤ p.0 - from → kept from count p ≡ []
kept_beyond from count p h = let e : (nat_le from p.0 && nat_lt (p.0 - from) count) ≡ false = grind (arith, nat_tests) in ap (λ (t : Bool). if t then with_dual (p.0 - from) p.1 [] else []) e

module _ (from count high : ℕ) where
  -- pairs of rows from `from + k` on
  kept_behind : (ps : List (ℕ × Fx)) (low k : ℕ) → RiseWithin low high ps → k ≤ count → from + k ≤ low → all_kept from count ps ≡ not_zero (dual_after ps from) k (count - k)
  kept_behind [] low k h few l = sym (none_not_zero (dual_after [] from) k (count - k) (λ i a b. refl))
  kept_behind (p ∷ ps) low k h few l = by (kept_behind ps (suc p.0)) (nat_lt (p.0 - from) count) refl
    where
      there : p.0 ≡ from + (p.0 - from)
      there = omega (arith, h.0, l)

      far : k ≤ (p.0 - from)
      far = omega (arith, h.0, l)

      none : (i : ℕ) → i < (p.0 - from) → dual_after (p ∷ ps) from i ≡ zero_fx
      none i b =
          past_first p ps (from + i) (λ e. absurd (omega (arith, there, e, b)))
          ∙ none_before (suc p.0) high ps (from + i) h.2 (omega (arith, there, b))

      by : ((j : ℕ) → RiseWithin (suc p.0) high ps → j ≤ count → from + j ≤ suc p.0 → all_kept from count ps ≡ not_zero (dual_after ps from) j (count - j))
          → (t : Bool) → nat_lt (p.0 - from) count ≡ t → all_kept from count (p ∷ ps) ≡ not_zero (dual_after (p ∷ ps) from) k (count - k)
      by behind true e =
          let within : (p.0 - from) < count = is_below (p.0 - from) count e in
          let m : ℕ = count - suc (p.0 - from) in
          let parts : count - k ≡ ((p.0 - from) - k) + suc m = omega (arith, within, far) in
          let place : k + ((p.0 - from) - k) ≡ (p.0 - from) = omega (arith, far) in
          let left : all_kept from count (p ∷ ps) ≡ with_dual (p.0 - from) p.1 (not_zero (dual_after ps from) (suc (p.0 - from)) m) =
          ap (λ (xs : List (ℕ × Fx)). xs ++ all_kept from count ps) (kept_here from count p (omega (arith, h.0, l)) within)
          ∙ sym (with_dual_append (p.0 - from) p.1 [] (all_kept from count ps))
          ∙ ap (with_dual (p.0 - from) p.1) (behind (suc (p.0 - from)) h.2 (omega (arith, within)) (omega (arith, there))) in
          let right : not_zero (dual_after (p ∷ ps) from) k (count - k) ≡ with_dual (p.0 - from) p.1 (not_zero (dual_after ps from) (suc (p.0 - from)) m) =
          ap (not_zero (dual_after (p ∷ ps) from) k) parts
          ∙ split_not_zero (dual_after (p ∷ ps) from) k ((p.0 - from) - k) (suc m)
          ∙ ap₂ (λ (xs : List (ℕ × Fx)) (j : ℕ). xs ++ not_zero (dual_after (p ∷ ps) from) j (suc m)) (none_not_zero (dual_after (p ∷ ps) from) k ((p.0 - from) - k) (λ i a b. none i (omega (arith, b, place)))) place
          ∙ ap₂ (with_dual (p.0 - from)) (at_first p ps (from + (p.0 - from)) there) (same_not_zero (dual_after (p ∷ ps) from) (dual_after ps from) (suc (p.0 - from)) m (λ i a b. past_first p ps (from + i) (λ same. absurd (omega (arith, there, same, a))))) in
          left ∙ sym right
      by behind false e =
          let beyond : count ≤ (p.0 - from) = not_below (p.0 - from) count e in
          let nothing : count - count ≡ 0 = omega arith in
          let left : all_kept from count (p ∷ ps) ≡ [] =
          ap (λ (xs : List (ℕ × Fx)). xs ++ all_kept from count ps) (kept_beyond from count p beyond)
          ∙ behind count h.2 (omega arith) (omega (arith, there, beyond))
          ∙ ap (not_zero (dual_after ps from) count) nothing in
          left ∙ sym (none_not_zero (dual_after (p ∷ ps) from) k (count - k) (λ i a b. none i (omega (arith, b, beyond, few))))

  -- pairs of any rows
  kept_all : (ps : List (ℕ × Fx)) (low : ℕ) → RiseWithin low high ps → all_kept from count ps ≡ not_zero (dual_after ps from) 0 count
  kept_all [] low h = sym (none_not_zero (dual_after [] from) 0 count (λ i a b. refl))
  kept_all (p ∷ ps) low h = by (kept_all ps (suc p.0) h.2) (nat_lt p.0 from) refl
    where
      by : all_kept from count ps ≡ not_zero (dual_after ps from) 0 count → (t : Bool) → nat_lt p.0 from ≡ t → all_kept from count (p ∷ ps) ≡ not_zero (dual_after (p ∷ ps) from) 0 count
      by behind true e =
          let less : p.0 < from = is_below p.0 from e in
          ap (λ (xs : List (ℕ × Fx)). xs ++ all_kept from count ps) (kept_before from count p less)
          ∙ behind
          ∙ sym (same_not_zero (dual_after (p ∷ ps) from) (dual_after ps from) 0 count (λ i a b. past_first p ps (from + i) (λ same. absurd (omega (arith, less, same)))))
      by behind false e =
          let whole : count - 0 ≡ count = omega arith in
          kept_behind (p ∷ ps) from 0 (not_below p.0 from e, h.1, h.2) (omega arith) (omega arith) ∙ ap (not_zero (dual_after (p ∷ ps) from) 0) whole

module _ (first : List Fx) (ps : List (ℕ × Fx)) (n from count : ℕ) (are : AreDuals first ps n) where
  abbrev part : List Fx
  part = take count (drop from first)

  long : length part ≡ min count (length first - from)
  long = length-take count (drop from first) ∙ ap (min count) (length-drop from first)

  abbrev duals : ℕ → Fx
  duals = dual_in (drop from (joined first ps n))

  of_first : (i : ℕ) → i < length part → duals i ≡ dual_in part i
  of_first i h =
      get_or-drop from (joined first ps n) i zero_fx ∙ joined_first first ps n (from + i) (omega (arith, h, long))
      ∙ sym (get_or-take count (drop from first) i zero_fx (omega (arith, h, long)) ∙ get_or-drop from first i zero_fx)

  of_others : (i : ℕ) → length part ≤ i → i < count → duals i ≡ dual_after ps from i
  of_others i h l = get_or-drop from (joined first ps n) i zero_fx ∙ joined_at first ps n are (from + i) (omega (arith, h, l, long))

  others : all_kept from count ps ≡ not_zero (dual_after ps from) (length part) (count - length part)
  others = by (nat_lt from (length first)) refl
    where
      by : (t : Bool) → nat_lt from (length first) ≡ t → all_kept from count ps ≡ not_zero (dual_after ps from) (length part) (count - length part)
      by true e = kept_behind from count n ps (length first) (length part) are.rise (omega (arith, long)) (omega (arith, long, is_below from (length first) e))
      by false e =
          let none : 0 ≡ length part = omega (arith, long, not_below from (length first) e) in
          let whole : count ≡ count - length part = omega (arith, none) in
          kept_all from count n ps (length first) are.rise ∙ ap₂ (not_zero (dual_after ps from)) none whole

  -- the duals of some rows that are not 0
  pub listed_and_kept : not_zero (dual_in part) 0 (length part) ++ all_kept from count ps ≡ not_zero duals 0 count
  listed_and_kept =
      let whole : count ≡ length part + (count - length part) = omega (arith, long) in
      let begin : 0 + length part ≡ length part = omega arith in
      let left = same_not_zero duals (dual_in part) 0 (length part) (λ i a b. of_first i (omega (arith, b))) in
      let right = same_not_zero duals (dual_after ps from) (length part) (count - length part) (λ i a b. of_others i a (omega (arith, b, long))) in
      sym (ap (not_zero duals 0) whole ∙ split_not_zero duals 0 (length part) (count - length part)
      ∙ ap (λ (j : ℕ). not_zero duals 0 (length part) ++ not_zero duals j (count - length part)) begin
      ∙ ap₂ (λ (xs ys : List (ℕ × Fx)). xs ++ ys) left (right ∙ sym others))
