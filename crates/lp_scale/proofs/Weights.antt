-- The range of the exponents that Append and First give.
use Rattle.std.proofs.Common.{◌≡◌, SFits, to_z, of_z, IfSome, All, ℕ, zero, suc, ◌+◌, ◌-◌, ◌<◌, ℤ, pos, negsuc, ◌+ℤ◌, ◌-ℤ◌, ◌≤ℤ◌, Bool, true, false, cond, List, [], ◌∷◌, ◌++◌, Option, Some, None, arith, refl, ap, subst, sym, ◌∙◌}
use Rattle.std.specs.Ordering.{int_eq}
use Rattle.std.specs.Int.{int_min, int_max}
use Rattle.std.proofs.lemmas.List.Elements.{All-nil, All-cons, All-weaker}
use Rattle.std.proofs.lemmas.Int.{ints, clamps, to_z-of_z}
use mir.Syntax.{w32}
use Rattle.base_num.specs.Sums.{entry}
use Rattle.lp_program.specs.declared.programs.Column.{Column}
use Rattle.lp_table.specs.Numbers.{bits_of}
use Rattle.lp_scale.specs.declared.spans.Span.{Span}
use Rattle.lp_scale.specs.Walks.{walk, count_from}
use Rattle.lp_scale.specs.Spans.{joined_span, span_of, AreBetween}
use Rattle.lp_scale.specs.Exponents.{ColumnTerm, reach_of, weight_of, AreUpTo}
use Rattle.lp_scale.specs.Scaling.{cost_weight, box_weight, room, AreSmall, AreRowScales}
use Rattle.lp_scale.specs.Appending.{row_scale, AreBelow, with_appended_row}
use Rattle.lp_scale.specs.Widening.{top}
use Rattle.lp_scale.specs.declared.sides.Sides.{Sides}
use Rattle.lp_table.specs.declared.table.WarmTable.{WarmTable}
use Rattle.lp_scale.proofs.Between.{span_between, wider, GivesBetween}
use Rattle.lp_scale.proofs.Passes.{bits_small, weight_between}

some_is : {A : Type 0} {x y : A} → Some x ≡ Some y → x ≡ y
some_is h = cc

terms_give : (k : ℕ) (fs : List ℤ) → AreUpTo k fs → GivesBetween (pos 0) (pos (k + 128)) (λ (j : ℕ) (t : ColumnTerm). Some (weight_of fs t))
terms_give k fs h j t x e = subst (λ (z : ℤ). (pos 0 ≤ℤ z) × (z ≤ℤ pos (k + 128))) (some_is e) (weight_between k fs t h)

pub term_span_between : (k : ℕ) (fs : List ℤ) (ts : List ColumnTerm) → AreUpTo k fs → AreBetween (pos 0) (pos (k + 128)) (span_of (λ (j : ℕ) t. Some (weight_of fs t)) ts)
term_span_between k fs ts h = span_between (pos 0) (pos (k + 128)) (λ (j : ℕ) (t : ColumnTerm). Some (weight_of fs t)) ts (terms_give k fs h)

costs_give : (k : ℕ) (fs : List ℤ) → AreUpTo k fs → GivesBetween (pos 0) (pos (k + 128)) (cost_weight fs)
costs_give k fs h j c x e = by (int_eq c.cost.0 (pos 0)) e
  where
    by : (b : Bool) → cond b None (Some (pos (bits_of c.cost.0) +ℤ entry fs j)) ≡ Some x → (pos 0 ≤ℤ x) × (x ≤ℤ pos (k + 128))
    by true e = absurd (cc)
    by false e =
        let b = bits_small c.cost.0 in
        let f = h j in
        let r : (pos 0 ≤ℤ (pos (bits_of c.cost.0) +ℤ entry fs j)) × ((pos (bits_of c.cost.0) +ℤ entry fs j) ≤ℤ pos (k + 128)) = (omega (arith, ints, f.0), omega (arith, ints, b, f.1)) in
        subst (λ (z : ℤ). (pos 0 ≤ℤ z) × (z ≤ℤ pos (k + 128))) (some_is e) r

pub cost_span_between : (fs : List ℤ) (cs : List Column) → AreUpTo 1000 fs → AreBetween (negsuc 511) (pos 1128) (span_of (cost_weight fs) cs)
cost_span_between fs cs h = wider (pos 0) (pos 1128) (negsuc 511) (pos 1128) _ (omega (arith, ints)) (omega (arith, ints)) (span_between (pos 0) (pos 1128) (cost_weight fs) cs (costs_give 1000 fs h))

boxes_give : (fs : List ℤ) → AreUpTo 512 fs → GivesBetween (negsuc 511) (pos 1128) (box_weight fs)
boxes_give fs h j c x e =
    let a = bits_small c.low.0 in
    let b = bits_small c.high.0 in
    let f = h j in
    let r : (negsuc 511 ≤ℤ (pos (reach_of c) -ℤ entry fs j)) × ((pos (reach_of c) -ℤ entry fs j) ≤ℤ pos 1128) = (omega (arith, ints, f.1), omega (arith, ints, a, b, f.0)) in
    subst (λ (z : ℤ). (negsuc 511 ≤ℤ z) × (z ≤ℤ pos 1128)) (some_is e) r

pub box_span_between : (fs : List ℤ) (cs : List Column) → AreUpTo 512 fs → AreBetween (negsuc 511) (pos 1128) (span_of (box_weight fs) cs)
box_span_between fs cs h = span_between (negsuc 511) (pos 1128) (box_weight fs) cs (boxes_give fs h)

pub count_more : (n j : ℕ) → j < n → count_from j (n - j) ≡ j ∷ count_from (j + 1) (n - (j + 1))
count_more n j h =
    let e : n - j ≡ suc (n - (j + 1)) = omega arith in
    let f : suc j ≡ j + 1 = omega arith in
    ap (count_from j) e ∙ ap (λ (k : ℕ). j ∷ count_from k (n - (j + 1))) f

-- the terms of a row are at most the greatest of their span
reached : (fs : List ℤ) (j : ℕ) (s : Span) (ts : List ColumnTerm) → (r : Span) × (walk (λ (k : ℕ) z t. joined_span z (Some (weight_of fs t))) j (Some s) ts ≡ Some r) × (s.greatest ≤ℤ r.greatest) × All (λ (t : ColumnTerm). weight_of fs t ≤ℤ r.greatest) ts
reached fs j s [] = (s, refl, omega (arith, ints), All-nil (λ (t : ColumnTerm). weight_of fs t ≤ℤ s.greatest))
reached fs j s (t ∷ ts) =
    let w : ℤ = weight_of fs t in
    let g : Span = record { least = int_min s.least w; greatest = int_max s.greatest w } in
    let r = reached fs (suc j) g ts in
    let a = r.2 in
    (r.0, r.1, omega (arith, ints, clamps, a), All-cons (λ (t : ColumnTerm). weight_of fs t ≤ℤ r.0.greatest) t ts (omega (arith, ints, clamps, a)) r.3)

below_limit : (fs : List ℤ) (g : ℤ) (ts : List ColumnTerm) → All (λ (t : ColumnTerm). weight_of fs t ≤ℤ g) ts → AreBelow fs (pos 32 -ℤ g) ts
below_limit fs g ts h = All-weaker (λ (t : ColumnTerm). weight_of fs t ≤ℤ g) (λ (t : ColumnTerm). ((pos 32 -ℤ g) +ℤ weight_of fs t) ≤ℤ pos 32) (λ t k. omega (arith, ints, k)) ts h

-- with the exponent of their row they have at most 32 binary digits
pub scale_below : (fs : List ℤ) (ts : List ColumnTerm) → AreBelow fs (row_scale fs ts) ts
unfolding row_scale
scale_below fs [] = All-nil (λ (t : ColumnTerm). (pos 0 +ℤ weight_of fs t) ≤ℤ pos 32)
scale_below fs (t ∷ ts) =
    let w : ℤ = weight_of fs t in
    let g : Span = record { least = w; greatest = w } in
    let r = reached fs 1 g ts in
    let a = r.2 in
    let all : All (λ (t : ColumnTerm). weight_of fs t ≤ℤ r.0.greatest) (t ∷ ts) = All-cons (λ (t : ColumnTerm). weight_of fs t ≤ℤ r.0.greatest) t ts a r.3 in
    subst (λ (e : ℤ). AreBelow fs e (t ∷ ts)) (sym (ap (room (pos 32)) r.1)) (below_limit fs r.0.greatest (t ∷ ts) all)

-- one exponent more
pub scales_more : (es : List ℤ) (e : ℤ) → negsuc 1299 ≤ℤ e → e ≤ℤ pos 1300 → AreRowScales es → AreRowScales (es ++ e ∷ [])
scales_more [] e h k r zero = (h, k)
scales_more [] e h k r (suc i) = (omega (arith, ints), omega (arith, ints))
scales_more (x ∷ es) e h k r zero = r 0
scales_more (x ∷ es) e h k r (suc i) = scales_more es e h k (λ j. r (suc j)) i

pub row_small : (most : ℕ) (e : ℤ) (ts : List (ℕ × ℤ)) (s : Sides) (t : WarmTable) → negsuc 1299 ≤ℤ e → e ≤ℤ pos 1300 → AreSmall most t.scales → AreSmall most (with_appended_row e ts s t).scales
row_small most e ts s t h k w = record {
  columns = w.columns;
  rows = scales_more t.scales.rows e h k w.rows;
  costs_least = w.costs_least;
  costs_greatest = w.costs_greatest;
  values_least = w.values_least;
  values_greatest = w.values_greatest;
}

pub top_between : (low high : ℤ) (s : Option Span) → AreBetween low high s → IfSome (top s) (λ x. (low ≤ℤ x) × (x ≤ℤ high))
top_between low high None h = tt
top_between low high (Some s) h = by (int_eq s.greatest (pos 0))
  where
    by : (b : Bool) → IfSome (cond b None (Some s.greatest)) (λ x. (low ≤ℤ x) × (x ≤ℤ high))
    by true = tt
    by false = (h.low_greatest, h.high_greatest)

-- numbers as they are read
pub read_least : (a z : ℤ) → SFits w32 z → a ≤ℤ z → a ≤ℤ to_z w32 (of_z w32 z)
read_least a z f h = subst (λ (x : ℤ). a ≤ℤ x) (sym (to_z-of_z w32 z f)) h

pub read_greatest : (a z : ℤ) → SFits w32 z → z ≤ℤ a → to_z w32 (of_z w32 z) ≤ℤ a
read_greatest a z f h = subst (λ (x : ℤ). x ≤ℤ a) (sym (to_z-of_z w32 z f)) h
