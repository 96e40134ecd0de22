-- The range of exponents.
use Rattle.std.proofs.Common.{◌≡◌, ℕ, zero, suc, ◌+◌, ◌≤◌, ℤ, pos, ◌+ℤ◌, ◌-ℤ◌, ◌≤ℤ◌, Bool, true, false, cond, ◌&&◌, nat_lt, nat_le, List, [], ◌∷◌, map, get_or, slice_set, replicate, length, Option, Some, None, arith, refl, ap, ap₂, ◌∙◌, sym, subst}
use Rattle.std.proofs.lemmas.Int.{ints, clamps}
use Rattle.std.proofs.Math.ListN.{get_or-map}
use Rattle.lp_program.specs.declared.programs.Column.{Column}
use Rattle.lp_program.specs.declared.programs.LpRow.{LpRow}
use Rattle.lp_scale.specs.declared.spans.Span.{Span}
use Rattle.lp_table.specs.Numbers.{bits_of}
use Rattle.lp_scale.specs.Spans.{grown, span_of, AreBetween}
use Rattle.lp_scale.specs.Exponents.{ColumnTerm, term_size, row_weight_of, border_of, weight_of, counted_weight, row_lift, with_term, with_terms, with_row_terms, spans_of, column_lift, pass_of, AreUpTo, SpansBetween, ReachUpTo, reach_of}
use Rattle.lp_scale.proofs.Walking.{walk_keeps}
use Rattle.lp_scale.proofs.Between.{grown_between, span_between, lift_between, GivesBetween}

some_is : {A : Type 0} {x y : A} → Some x ≡ Some y → x ≡ y
some_is h = cc

pub bits_small : (v : ℤ) → bits_of v ≤ 128
bits_small v = omega arith

pub weight_between : (k : ℕ) (fs : List ℤ) (t : ColumnTerm) → AreUpTo k fs → (pos 0 ≤ℤ weight_of fs t) × (weight_of fs t ≤ℤ pos (k + 128))
weight_between k fs t h = let b = bits_small t.1.0 in let f = h t.0 in (omega (arith, ints, f.0), omega (arith, ints, b, f.1))

counted_between : (k border : ℕ) (rs : List ℕ) (fs : List ℤ) → AreUpTo k fs → GivesBetween (pos 0) (pos (k + 128)) (λ (j : ℕ) (t : ColumnTerm). counted_weight border rs fs t)
counted_between k border rs fs h j t x e = by (nat_le border (term_size rs t)) e
  where
    by : (b : Bool) → cond b (Some (weight_of fs t)) None ≡ Some x → (pos 0 ≤ℤ x) × (x ≤ℤ pos (k + 128))
    by true e = subst (λ (z : ℤ). (pos 0 ≤ℤ z) × (z ≤ℤ pos (k + 128))) (some_is e) (weight_between k fs t h)
    by false e = absurd (cc)

pub row_span_between : (k border : ℕ) (rs : List ℕ) (fs : List ℤ) (ts : List ColumnTerm) → AreUpTo k fs → AreBetween (pos 0) (pos (k + 128)) (span_of (λ (j : ℕ) t. counted_weight border rs fs t) ts)
row_span_between k border rs fs ts h = span_between (pos 0) (pos (k + 128)) (λ (j : ℕ) (t : ColumnTerm). counted_weight border rs fs t) ts (counted_between k border rs fs h)

pub row_lift_between : (k border : ℕ) (rs : List ℕ) (fs : List ℤ) (ts : List ColumnTerm) → AreUpTo k fs → ((pos 33 -ℤ pos (k + 128)) ≤ℤ row_lift border rs fs ts) × (row_lift border rs fs ts ≤ℤ pos 33)
row_lift_between k border rs fs ts h =
    let l = lift_between (pos 0) (pos (k + 128)) (span_of (λ (j : ℕ) t. counted_weight border rs fs t) ts) (omega (arith, ints)) (omega (arith, ints)) (row_span_between k border rs fs ts h) in
    (l.0, omega (arith, ints, l.1))

-- one entry written over
pub set_between : (low high : ℤ) (spans : List (Option Span)) (i : ℕ) (s : Option Span) → AreBetween low high s → SpansBetween low high spans → SpansBetween low high (slice_set spans i s)
set_between low high [] i s b h j = h j
set_between low high (x ∷ xs) zero s b h zero = b
set_between low high (x ∷ xs) zero s b h (suc j) = h (suc j)
set_between low high (x ∷ xs) (suc i) s b h zero = h 0
set_between low high (x ∷ xs) (suc i) s b h (suc j) = set_between low high xs i s b (λ k. h (suc k)) j

pub term_between : (low high : ℤ) (decisions border : ℕ) (rs : List ℕ) (e : ℤ) (spans : List (Option Span)) (t : ColumnTerm) → low ≤ℤ e → (e +ℤ pos 128) ≤ℤ high → SpansBetween low high spans → SpansBetween low high (with_term decisions border rs e spans t)
term_between low high decisions border rs e spans t l g h = by (nat_lt t.0 decisions && nat_le border (term_size rs t))
  where
    by : (b : Bool) → SpansBetween low high (cond b (slice_set spans t.0 (grown (get_or spans t.0 None) (row_weight_of e t))) spans)
    by true =
        let b = bits_small t.1.0 in
        set_between low high spans t.0 _ (grown_between low high (get_or spans t.0 None) (row_weight_of e t) (omega (arith, ints)) (omega (arith, ints, b)) (h t.0)) h
    by false = h

pub terms_between : (low high : ℤ) (decisions border : ℕ) (rs : List ℕ) (e : ℤ) (spans : List (Option Span)) (ts : List ColumnTerm) → low ≤ℤ e → (e +ℤ pos 128) ≤ℤ high → SpansBetween low high spans → SpansBetween low high (with_terms decisions border rs e spans ts)
terms_between low high decisions border rs e spans ts l g h =
    walk_keeps (λ (j : ℕ) ss t. with_term decisions border rs e ss t) (SpansBetween low high) (λ j s t b. term_between low high decisions border rs e s t l g b) 0 spans ts h

pub row_between : (k decisions : ℕ) (rs : List ℕ) (fs : List ℤ) (spans : List (Option Span)) (ts : List ColumnTerm) → AreUpTo k fs → SpansBetween (pos 33 -ℤ pos (k + 128)) (pos 161) spans → SpansBetween (pos 33 -ℤ pos (k + 128)) (pos 161) (with_row_terms decisions rs fs spans ts)
unfolding with_row_terms
row_between k decisions rs fs spans ts f h =
    let e = row_lift_between k _ rs fs ts f in
    terms_between (pos 33 -ℤ pos (k + 128)) (pos 161) decisions _ rs _ spans ts e.0 (omega (arith, ints, e.1)) h

pub nones_between : (low high : ℤ) (n : ℕ) → SpansBetween low high (replicate n None)
nones_between low high zero j = tt
nones_between low high (suc n) zero = tt
nones_between low high (suc n) (suc j) = nones_between low high n j

pub spans_between : (k decisions : ℕ) (rs : List ℕ) (rows : List LpRow) (fs : List ℤ) → AreUpTo k fs → SpansBetween (pos 33 -ℤ pos (k + 128)) (pos 161) (spans_of decisions rs rows fs)
unfolding spans_of
spans_between k decisions rs rows fs h =
    walk_keeps (λ (i : ℕ) ss (row : LpRow). with_row_terms decisions rs fs ss row.terms) (SpansBetween (pos 33 -ℤ pos (k + 128)) (pos 161)) (λ i s row b. row_between k decisions rs fs s row.terms h b) 0 (replicate (length fs) None) rows
    (nones_between (pos 33 -ℤ pos (k + 128)) (pos 161) (length fs))

column_up_to : (k : ℕ) (s : Option Span) → AreBetween (pos 33 -ℤ pos (k + 128)) (pos 161) s → (pos 0 ≤ℤ column_lift s) × (column_lift s ≤ℤ pos (k + 128))
column_up_to k s h =
    let l = lift_between (pos 33 -ℤ pos (k + 128)) (pos 161) s (omega (arith, ints)) (omega (arith, ints)) h in
    (omega (arith, ints, clamps), omega (arith, ints, clamps, l.1))

-- a pass makes no exponent greater by more than 128
pub pass_up_to : (k decisions : ℕ) (rs : List ℕ) (rows : List LpRow) (fs : List ℤ) → AreUpTo k fs → AreUpTo (k + 128) (pass_of decisions rs rows fs)
unfolding pass_of
pass_up_to k decisions rs rows fs h j =
    subst (λ (z : ℤ). (pos 0 ≤ℤ z) × (z ≤ℤ pos (k + 128))) (sym (get_or-map column_lift (spans_of decisions rs rows fs) j None)) (column_up_to k (get_or (spans_of decisions rs rows fs) j None) (spans_between k decisions rs rows fs h j))

pub reaches_small : (cs : List Column) → ReachUpTo 128 (map reach_of cs)
reaches_small [] j = omega arith
reaches_small (c ∷ cs) zero = let a = bits_small c.low.0 in let b = bits_small c.high.0 in omega (arith, a, b)
reaches_small (c ∷ cs) (suc j) = reaches_small cs j

pub zeros_up_to : (n : ℕ) → AreUpTo 0 (replicate n (pos 0))
zeros_up_to zero j = (omega (arith, ints), omega (arith, ints))
zeros_up_to (suc n) zero = (omega (arith, ints), omega (arith, ints))
zeros_up_to (suc n) (suc j) = zeros_up_to n j

pub up_to_more : (k m : ℕ) (fs : List ℤ) → k ≤ m → AreUpTo k fs → AreUpTo m fs
up_to_more k m fs l h j = ((h j).0, let f = (h j).1 in omega (arith, ints, f))

-- the steps of a row's code, together
pub row_is : (decisions border : ℕ) (rs : List ℕ) (fs : List ℤ) (e : ℤ) (spans now : List (Option Span)) (ts : List ColumnTerm) → border ≡ border_of rs ts → e ≡ row_lift border rs fs ts → now ≡ with_terms decisions border rs e spans ts → now ≡ with_row_terms decisions rs fs spans ts
unfolding with_row_terms
row_is decisions border rs fs e spans now ts b r w = w ∙ ap₂ (λ (n : ℕ) (z : ℤ). with_terms decisions n rs z spans ts) b (r ∙ ap (λ (n : ℕ). row_lift n rs fs ts) b)

abbrev pub no_span : Option Span → Option Span
no_span s = None

pub nones_are : (spans : List (Option Span)) → map no_span spans ≡ replicate (length spans) None
nones_are [] = refl
nones_are (s ∷ ss) = ap (λ (xs : List (Option Span)). None ∷ xs) (nones_are ss)
