-- Sharing out a target over the duals of cuts, and the pairs that come of it.
use Rattle.std.proofs.Common.{◌≡◌, ◌∙◌, ℕ, zero, suc, ◌+◌, ◌-◌, ◌<◌, ◌≤◌, ◌^◌, min, nat_le, nat_lt, ◌&&◌, ℤ, List, [], ◌∷◌, ◌++◌, length, get_or, drop, Bool, true, false, if◌then◌else◌, refl, sym, ap, ap₂, add-one, arith}
use Rattle.std.proofs.lemmas.Bool.Decides.{nat_tests}
use Rattle.std.proofs.lemmas.List.{append_assoc, append-nil, drop_more}
use Rattle.problem.specs.declared.parts.Row.{Row}
use Rattle.theory.specs.Certificates.{multipliers}
use Rattle.lp_program.specs.declared.fixed.Fx.{Fx}
use Rattle.lp_program.specs.Numbers.{zero_fx}
use Rattle.lp_program.specs.Duals.{dual_in, not_zero, is_zero, with_dual, kept, all_kept}
use Rattle.lp_program.proofs.SpreadDuals.{zero_is}
use Rattle.plan_answer.specs.SharedTargets.{kept_pairs, left_over}
use Rattle.plan_answer.specs.Settling.{row_dual, row_multiplier_over, row_multipliers_over, cut_multiplier, cut_multipliers, capped, missing, pairs_from, topped, settled_pairs}
use Rattle.plan_answer.proofs.SettledPairs.{length-cut_multipliers, length-capped, total-capped, multipliers-pairs_from}
use Rattle.plan_answer.proofs.ToppedPairs.{pairs_from-cons, topped-pairs}

nothing : (f : Fx) → f ≡ zero_fx → cut_multiplier f.0 ≡ 0
nothing f e = ap (λ (g : Fx). cut_multiplier g.0) e

-- sharing out over the duals of all cuts is sharing out over those that are not 0
module _ (duals : List Fx) where
  pub kept_shares : (left k n : ℕ) → kept_pairs left (not_zero (dual_in duals) k n) ≡ pairs_from k (capped left (cut_multipliers duals k n))
  kept_shares left k zero = refl
  kept_shares left k (suc n) = by (λ (tail : ℕ). kept_shares tail (suc k) n) (is_zero (dual_in duals k)) refl
    where
      by : ((tail : ℕ) → kept_pairs tail (not_zero (dual_in duals) (suc k) n) ≡ pairs_from (suc k) (capped tail (cut_multipliers duals (suc k) n)))
          → (t : Bool) → is_zero (dual_in duals k) ≡ t
          → kept_pairs left (if t then not_zero (dual_in duals) (suc k) n else (k, dual_in duals k) ∷ not_zero (dual_in duals) (suc k) n)
          ≡ pairs_from k (min (cut_multiplier (row_dual duals k)) left ∷ capped (left - cut_multiplier (row_dual duals k)) (cut_multipliers duals (suc k) n))
      by behind true e =
          let none : cut_multiplier (row_dual duals k) ≡ 0 = nothing (dual_in duals k) (zero_is (dual_in duals k) e) in
          let least : 0 ≡ min (cut_multiplier (row_dual duals k)) left = omega (arith, none) in
          let tail : left ≡ left - cut_multiplier (row_dual duals k) = omega (arith, none) in
          behind left ∙ ap₂ (λ (v r : ℕ). pairs_from k (v ∷ capped r (cut_multipliers duals (suc k) n))) least tail
      by behind false e =
          let v : ℕ = cut_multiplier (row_dual duals k) in
          ap (λ (ss : List (ℕ × ℕ)). pairs_from k (min v left ∷ []) ++ ss) (behind (left - v))
          ∙ sym (pairs_from-cons k (min v left) (capped (left - v) (cut_multipliers duals (suc k) n)))

  pub left_of_all : (left k n : ℕ) → left_over left (not_zero (dual_in duals) k n) ≡ missing left (cut_multipliers duals k n)
  left_of_all left k zero = refl
  left_of_all left k (suc n) = by (λ (tail : ℕ). left_of_all tail (suc k) n) (is_zero (dual_in duals k)) refl
    where
      by : ((tail : ℕ) → left_over tail (not_zero (dual_in duals) (suc k) n) ≡ missing tail (cut_multipliers duals (suc k) n))
          → (t : Bool) → is_zero (dual_in duals k) ≡ t
          → left_over left (if t then not_zero (dual_in duals) (suc k) n else (k, dual_in duals k) ∷ not_zero (dual_in duals) (suc k) n)
          ≡ missing (left - cut_multiplier (row_dual duals k)) (cut_multipliers duals (suc k) n)
      by behind true e =
          let none : cut_multiplier (row_dual duals k) ≡ 0 = nothing (dual_in duals k) (zero_is (dual_in duals k) e) in
          let tail : left ≡ left - cut_multiplier (row_dual duals k) = omega (arith, none) in
          behind left ∙ ap (λ (r : ℕ). missing r (cut_multipliers duals (suc k) n)) tail
      by behind false e = behind (left - cut_multiplier (row_dual duals k))

-- the multiplier of one row more
pub row_more : (divisor i : ℕ) (rows : List Row) (duals : List Fx) (row : Row) (found new all : List ℤ) (multiplier : ℤ) → i < length rows → row ≡ get_or rows i row
    → multiplier ≡ row_multiplier_over divisor row (row_dual duals i) → new ≡ found ++ multiplier ∷ []
    → found ++ row_multipliers_over divisor i (drop i rows) duals ≡ all → new ++ row_multipliers_over divisor (i + 1) (drop (i + 1) rows) duals ≡ all
row_more divisor i rows duals row found new all multiplier h is e more w =
    let later : List ℤ = row_multipliers_over divisor (i + 1) (drop (i + 1) rows) duals in
    let behind : row_multipliers_over divisor i (drop i rows) duals ≡ multiplier ∷ later =
    ap (λ (rs : List Row). row_multipliers_over divisor i rs duals) (drop_more rows i row h)
    ∙ ap₂ (λ (m : ℤ) (j : ℕ). m ∷ row_multipliers_over divisor j (drop (i + 1) rows) duals) (ap (λ (r : Row). row_multiplier_over divisor r (row_dual duals i)) (sym is) ∙ sym e) (sym (add-one i)) in
    ap (λ (ms : List ℤ). ms ++ later) more ∙ append_assoc found (multiplier ∷ []) later ∙ ap (λ (ms : List ℤ). found ++ ms) (sym behind) ∙ w

-- sharing out over duals one behind the other
kept_more : (left : ℕ) (ps qs : List (ℕ × Fx)) → kept_pairs left (ps ++ qs) ≡ kept_pairs left ps ++ kept_pairs (left_over left ps) qs
kept_more left [] qs = refl
kept_more left (p ∷ ps) qs =
    let own : List (ℕ × ℕ) = pairs_from p.0 (min (cut_multiplier p.1.0) left ∷ []) in
    let tail : ℕ = left - cut_multiplier p.1.0 in
    ap (λ (ss : List (ℕ × ℕ)). own ++ ss) (kept_more tail ps qs) ∙ sym (append_assoc own (kept_pairs tail ps) (kept_pairs (left_over tail ps) qs))

left_of_more : (left : ℕ) (ps qs : List (ℕ × Fx)) → left_over left (ps ++ qs) ≡ left_over (left_over left ps) qs
left_of_more left [] qs = refl
left_of_more left (p ∷ ps) qs = left_of_more (left - cut_multiplier p.1.0) ps qs

-- the dual of a cut in front of others; a dual of 0 keeps nothing
kept_with : (left k : ℕ) (f : Fx) (ps : List (ℕ × Fx)) → kept_pairs left (with_dual k f ps) ≡ pairs_from k (min (cut_multiplier f.0) left ∷ []) ++ kept_pairs (left - cut_multiplier f.0) ps
kept_with left k f ps = by (is_zero f) refl
  where
    by : (t : Bool) → is_zero f ≡ t → kept_pairs left (if t then ps else (k, f) ∷ ps) ≡ pairs_from k (min (cut_multiplier f.0) left ∷ []) ++ kept_pairs (left - cut_multiplier f.0) ps
    by true e =
        let none : cut_multiplier f.0 ≡ 0 = nothing f (zero_is f e) in
        let least : 0 ≡ min (cut_multiplier f.0) left = omega (arith, none) in
        let tail : left ≡ left - cut_multiplier f.0 = omega (arith, none) in
        ap₂ (λ (v r : ℕ). pairs_from k (v ∷ []) ++ kept_pairs r ps) least tail
    by false e = refl

left_with : (left k : ℕ) (f : Fx) (ps : List (ℕ × Fx)) → left_over left (with_dual k f ps) ≡ left_over (left - cut_multiplier f.0) ps
left_with left k f ps = by (is_zero f) refl
  where
    by : (t : Bool) → is_zero f ≡ t → left_over left (if t then ps else (k, f) ∷ ps) ≡ left_over (left - cut_multiplier f.0) ps
    by true e =
        let none : cut_multiplier f.0 ≡ 0 = nothing f (zero_is f e) in
        let tail : left ≡ left - cut_multiplier f.0 = omega (arith, none) in
        ap (λ (r : ℕ). left_over r ps) tail
    by false e = refl

-- one cut more of a list of duals
pub one_listed : (pairs new : List (ℕ × ℕ)) (left now k : ℕ) (duals : List Fx) (f : Fx) (all : List (ℕ × ℕ)) (tail : ℕ) → k < length duals → f ≡ get_or duals k zero_fx
    → new ≡ pairs ++ pairs_from k (min (cut_multiplier f.0) left ∷ []) → now ≡ left - cut_multiplier f.0
    → (pairs ++ kept_pairs left (not_zero (dual_in duals) k (length duals - k)) ≡ all) × (left_over left (not_zero (dual_in duals) k (length duals - k)) ≡ tail)
    → (new ++ kept_pairs now (not_zero (dual_in duals) (k + 1) (length duals - (k + 1))) ≡ all) × (left_over now (not_zero (dual_in duals) (k + 1) (length duals - (k + 1))) ≡ tail)
one_listed pairs new left now k duals f all tail h is e g w =
    let next : k + 1 ≡ suc k = omega arith in
    let more : length duals - k ≡ suc (length duals - (k + 1)) = omega (arith, h) in
    let later : List (ℕ × Fx) = not_zero (dual_in duals) (suc k) (length duals - (k + 1)) in
    let own : List (ℕ × ℕ) = pairs_from k (min (cut_multiplier f.0) left ∷ []) in
    let split : not_zero (dual_in duals) k (length duals - k) ≡ with_dual k f later = ap (not_zero (dual_in duals) k) more ∙ ap (λ (x : Fx). with_dual k x later) (sym is) in
    let rest : not_zero (dual_in duals) (k + 1) (length duals - (k + 1)) ≡ later = ap (λ (j : ℕ). not_zero (dual_in duals) j (length duals - (k + 1))) next in (
      ap₂ (λ (ss : List (ℕ × ℕ)) (n : ℕ). ss ++ kept_pairs n (not_zero (dual_in duals) (k + 1) (length duals - (k + 1)))) e g
          ∙ ap (λ (ps : List (ℕ × Fx)). (pairs ++ own) ++ kept_pairs (left - cut_multiplier f.0) ps) rest
          ∙ append_assoc pairs own (kept_pairs (left - cut_multiplier f.0) later)
          ∙ sym (ap (λ (ps : List (ℕ × Fx)). pairs ++ kept_pairs left ps) split ∙ ap (λ (ss : List (ℕ × ℕ)). pairs ++ ss) (kept_with left k f later)) ∙ w.0,
      ap₂ left_over g rest ∙ sym (ap (left_over left) split ∙ left_with left k f later) ∙ w.1,
    )

-- the dual of a row that is one of so many
pub one_within : (left from count : ℕ) (p : ℕ × Fx) → from ≤ p.0 → p.0 - from < count
    → (pairs_from (p.0 - from) (min (cut_multiplier p.1.0) left ∷ []) ≡ kept_pairs left (kept from count p)) × (left - cut_multiplier p.1.0 ≡ left_over left (kept from count p))
one_within left from count p h l =
    let among : (nat_le from p.0 && nat_lt (p.0 - from) count) ≡ true = grind (arith, nat_tests) in
    let is : kept from count p ≡ with_dual (p.0 - from) p.1 [] = ap (λ (t : Bool). if t then with_dual (p.0 - from) p.1 [] else []) among in (
      sym (ap (kept_pairs left) is ∙ kept_with left (p.0 - from) p.1 [] ∙ append-nil (pairs_from (p.0 - from) (min (cut_multiplier p.1.0) left ∷ []))),
      sym (ap (left_over left) is ∙ left_with left (p.0 - from) p.1 []),
    )

-- one row more
pub one_stored : (pairs new : List (ℕ × ℕ)) (left now i : ℕ) (stored : List (ℕ × Fx)) (d : ℕ × Fx) (from count : ℕ) (all : List (ℕ × ℕ)) (tail : ℕ) → i < length stored
    → new ≡ pairs ++ kept_pairs left (kept from count (get_or stored i d)) → now ≡ left_over left (kept from count (get_or stored i d))
    → (pairs ++ kept_pairs left (all_kept from count (drop i stored)) ≡ all) × (left_over left (all_kept from count (drop i stored)) ≡ tail)
    → (new ++ kept_pairs now (all_kept from count (drop (i + 1) stored)) ≡ all) × (left_over now (all_kept from count (drop (i + 1) stored)) ≡ tail)
one_stored pairs new left now i stored d from count all tail h e g w =
    let p : ℕ × Fx = get_or stored i d in
    let later : List (ℕ × Fx) = all_kept from count (drop (i + 1) stored) in
    let more : all_kept from count (drop i stored) ≡ kept from count p ++ later = ap (all_kept from count) (drop_more stored i d h) in (
      ap₂ (λ (ss : List (ℕ × ℕ)) (n : ℕ). ss ++ kept_pairs n later) e g ∙ append_assoc pairs (kept_pairs left (kept from count p)) (kept_pairs (left_over left (kept from count p)) later)
          ∙ sym (ap (λ (ps : List (ℕ × Fx)). pairs ++ kept_pairs left ps) more ∙ ap (λ (ss : List (ℕ × ℕ)). pairs ++ ss) (kept_more left (kept from count p) later)) ∙ w.0,
      ap (λ (n : ℕ). left_over n later) g ∙ sym (ap (left_over left) more ∙ left_of_more left (kept from count p) later) ∙ w.1,
    )

-- the shares of a target of duals that are listed, and of those that are stored
pub shared_out : (duals : List Fx) (target count : ℕ) (ps qs : List (ℕ × Fx)) → ps ++ qs ≡ not_zero (dual_in duals) 0 count
    → (kept_pairs target ps ++ kept_pairs (left_over target ps) qs ≡ pairs_from 0 (capped target (cut_multipliers duals 0 count))) × (left_over (left_over target ps) qs ≡ missing target (cut_multipliers duals 0 count))
shared_out duals target count ps qs is = (
  sym (kept_more target ps qs) ∙ ap (kept_pairs target) is ∙ kept_shares duals target 0 count,
  sym (left_of_more target ps qs) ∙ ap (left_over target) is ∙ left_of_all duals target 0 count,
)

module _ (target count : ℕ) (duals : List Fx) (pairs : List (ℕ × ℕ)) (tail : ℕ) (is : pairs ≡ pairs_from 0 (capped target (cut_multipliers duals 0 count))) (left : tail ≡ missing target (cut_multipliers duals 0 count)) where
  pub room_there : target < 2 ^ 64 → multipliers pairs + tail < 2 ^ 64
  room_there h =
      let vs : List ℕ = cut_multipliers duals 0 count in
      rw (is, left) (omega (arith, h, multipliers-pairs_from 0 (capped target vs), total-capped target vs))

  pub all_shared : 0 < count → topped pairs tail ≡ settled_pairs target count duals
  all_shared h =
      let vs : List ℕ = cut_multipliers duals 0 count in
      rw (is, left) (sym (topped-pairs (capped target vs) (missing target vs) (omega (arith, h, length-capped target vs, length-cut_multipliers duals 0 count))))
