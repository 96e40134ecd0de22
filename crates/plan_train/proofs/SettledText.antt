-- Settled certificates have the shape and the numbers for which a record has room.
use Rattle.std.proofs.Common.{◌≡◌, ℕ, suc, ◌+◌, ◌-◌, ◌*◌, ◌<◌, ◌≤◌, ◌^◌, Bool, true, false, ℤ, pos, negsuc, ◌≤ℤ◌, List, [], ◌∷◌, length, map, zip, if◌then◌else◌, All, subst, arith}
use Rattle.std.specs.Prelude.{FitsSigned}
use Rattle.std.specs.List.{AllByRecursion}
use Rattle.std.specs.Int.{w64}
use Rattle.std.proofs.lemmas.Int.{ints, clamps}
use Rattle.std.proofs.lemmas.List.Elements.{All-head, All-tail}
use Rattle.problem.specs.declared.parts.Row.{Row}
use Rattle.theory.specs.declared.cut.Cut.{Cut}
use Rattle.theory.specs.declared.cut.Certificate.{Certificate}
use Rattle.theory.specs.Problem.{S, Successor, Node}
use Rattle.theory.specs.Pools.{pool}
use Rattle.theory.specs.Certificates.{Rising, multipliers, PairsRight, RightAt}
use Rattle.lp_program.specs.declared.fixed.Fx.{Fx}
use Rattle.lp_program.specs.declared.programs.Answer.{Answer}
use Rattle.cut_make.specs.Acceptance.{is_sign}
use Rattle.plan_answer.specs.Settling.{row_dual, clamped_number, rescaled_multiplier, signed, settled_rows, settled_duals, used_duals, settled_of}
use Rattle.plan_answer.proofs.SettledRight.{HasCuts, duals_right, settled_used}
use Rattle.journal_record.specs.Shape.{PairFits, PairsFit, CertificateFits}

-- rows
in_width : (y : ℤ) → negsuc (2 ^ 63 - 1) ≤ℤ y → y ≤ℤ pos (2 ^ 63 - 1) → FitsSigned w64 y
in_width (pos n) low high = let h : n < 2 ^ 63 = omega (arith, ints, high) in record { sfits = h }
in_width (negsuc n) low high = let h : n < 2 ^ 63 = omega (arith, ints, low) in record { sfits = h }

clamped_fits : (z : ℤ) → FitsSigned w64 (clamped_number z)
clamped_fits z = in_width (clamped_number z) (omega (arith, ints, clamps)) (omega (arith, ints, clamps))

signed_fits : (row : Row) (y : ℤ) → FitsSigned w64 y → FitsSigned w64 (signed row y)
signed_fits row y f = by (is_sign row y)
  where
    by : (b : Bool) → FitsSigned w64 (if b then y else pos 0)
    by true = f
    by false = let h : 0 < 2 ^ 63 = omega arith in record { sfits = h }

rows_fit : (i : ℕ) (rows : List Row) (duals : List Fx) → AllByRecursion (λ z. FitsSigned w64 z) (settled_rows i rows duals)
rows_fit i [] duals = tt
rows_fit i (row ∷ rows) duals = (signed_fits row (clamped_number (rescaled_multiplier (row_dual duals i))) (clamped_fits (rescaled_multiplier (row_dual duals i))), rows_fit (suc i) rows duals)

-- pairs whose places rise below a count are no more than that
abbrev Below : ℕ → ℕ × ℕ → Type 0
Below count s = s.0 < count

rising_few : (count : ℕ) (s : ℕ × ℕ) (ss : List (ℕ × ℕ)) → Rising (s ∷ ss) → All (Below count) (s ∷ ss) → s.0 + suc (length ss) ≤ count
rising_few count s [] r a = omega (arith, All-head (Below count) s [] a)
rising_few count s (n ∷ ss) r a = omega (arith, r.0, rising_few count n ss r.1 (All-tail (Below count) s (n ∷ ss) a))

pairs_few : (count : ℕ) (qs : List (ℕ × ℕ)) → Rising qs → All (Below count) qs → length qs ≤ count
pairs_few count [] r a = omega arith
pairs_few count (s ∷ ss) r a = omega (arith, rising_few count s ss r a)

pairs_small : (count most : ℕ) (qs : List (ℕ × ℕ)) → count ≤ 2 ^ 32 → most < 2 ^ 64 → All (Below count) qs → multipliers qs ≤ most → AllByRecursion PairFits qs
pairs_small count most [] few small a h = tt
pairs_small count most (q ∷ qs) few small a h = ((omega (arith, few, All-head (Below count) q qs a), omega (arith, small, h)), pairs_small count most qs few small (All-tail (Below count) q qs a) (omega (arith, h)))

-- at most n pairs, whose numbers are those of their types
abbrev IsShort : ℕ → List (ℕ × ℕ) → Type 0
IsShort n qs = (length qs ≤ n) × PairsFit qs

abbrev pub IsLight : Successor → Type 0
IsLight l = l.weight ≤ 65535

target_small : (w : ℕ) → w ≤ 65535 → S * w < 2 ^ 64
unfolding S
target_small w h = omega (arith, h)

module _ (pools : List (List Cut)) (n : ℕ) (small : n < 2 ^ 32) (few : (m : ℕ) → length (pool pools m) ≤ n) where
  successor_short : (l : Successor) (qs : List (ℕ × ℕ)) → IsLight l → PairsRight pools (l, qs) → IsShort n qs
  successor_short l qs light r =
      let count : length qs ≤ length (pool pools l.node) = pairs_few (length (pool pools l.node)) qs r.rising r.there in
      let most = few l.node in
      (omega (arith, count, most), (omega (arith, count, most, small), pairs_small (length (pool pools l.node)) (S * l.weight) qs (omega (arith, most, small)) (target_small l.weight light) r.there (omega (arith, r.sum))))

  successors_short : (ls : List Successor) (cuts : List (List (ℕ × ℕ))) → length cuts ≡ length ls → All IsLight ls → All (PairsRight pools) (zip ls cuts) → AllByRecursion (IsShort n) cuts
  successors_short [] [] e w r = tt
  successors_short [] (c ∷ cuts) e w r = absurd (omega (arith, e))
  successors_short (l ∷ ls) [] e w r = tt
  successors_short (l ∷ ls) (qs ∷ cuts) e w r = (
    successor_short l qs (All-head IsLight l ls w) (All-head (PairsRight pools) (l, qs) (zip ls cuts) r),
    successors_short ls cuts (omega (arith, e)) (All-tail IsLight l ls w) (All-tail (PairsRight pools) (l, qs) (zip ls cuts) r),
  )

short_lists : (n : ℕ) (cuts : List (List (ℕ × ℕ))) → AllByRecursion (IsShort n) cuts → AllByRecursion (λ qs. length qs ≤ n) cuts
short_lists n [] h = tt
short_lists n (c ∷ cuts) h = (h.0.0, short_lists n cuts h.1)

fitting_lists : (n : ℕ) (cuts : List (List (ℕ × ℕ))) → AllByRecursion (IsShort n) cuts → AllByRecursion PairsFit cuts
fitting_lists n [] h = tt
fitting_lists n (c ∷ cuts) h = (h.0.1, fitting_lists n cuts h.1)

-- the premises under which a certificate of the node n can be written, with at most so many pairs to a list
pub record HasText (most : ℕ) (n : Node) (c : Certificate) : Type 0 where
  pub rows : length c.rows ≡ length n.rows
  pub cuts : length c.cuts ≡ length n.successors
  pub fits : CertificateFits c
  pub within : AllByRecursion (λ qs. length qs ≤ most) c.cuts

module _ (pools : List (List Cut)) (n : Node) (most : ℕ) (here : All (HasCuts pools) n.successors) (light : All IsLight n.successors) (small : most < 2 ^ 32) (few : (m : ℕ) → length (pool pools m) ≤ most) where
  duals_text : (duals : List Fx) → HasText most n (settled_duals pools n duals)
  duals_text duals =
      let r : RightAt pools n (settled_duals pools n duals) = duals_right pools n duals here in
      let short = successors_short pools most small few n.successors (settled_duals pools n duals).cuts r.successors light r.pairs in
      record {
        rows = r.rows;
        cuts = r.successors;
        fits = record { rows = rows_fit 0 n.rows duals; cuts = fitting_lists most (settled_duals pools n duals).cuts short };
        within = short_lists most (settled_duals pools n duals).cuts short;
      }

  settled_text : (answer : Answer) → HasText most n (settled_of pools n answer)
  settled_text answer = subst (HasText most n) (settled_used pools n answer here) (duals_text (used_duals answer.kind answer.duals))

  pub all_text : (answers : List Answer) → AllByRecursion (HasText most n) (map (settled_of pools n) answers)
  all_text [] = tt
  all_text (a ∷ answers) = (settled_text a, all_text answers)
