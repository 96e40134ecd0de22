-- The range of spans.
use Rattle.std.proofs.Common.{◌≡◌, ℕ, ℤ, pos, ◌+ℤ◌, ◌-ℤ◌, ◌≤ℤ◌, List, Option, Some, None, arith, refl}
use Rattle.std.proofs.lemmas.Int.{ints, clamps}
use Rattle.base_num.specs.Sums.{floor_over}
use Rattle.base_num.proofs.Order.{floor_at_most, floor_above}
use Rattle.lp_scale.specs.declared.spans.Span.{Span}
use Rattle.lp_scale.specs.Spans.{grown, joined_span, span_of, lift, AreBetween}
use Rattle.lp_scale.proofs.Walking.{walk_keeps}

pub grown_between : (low high : ℤ) (s : Option Span) (x : ℤ) → low ≤ℤ x → x ≤ℤ high → AreBetween low high s → AreBetween low high (grown s x)
grown_between low high None x h k b = record { low_least = h; low_greatest = h; high_least = k; high_greatest = k }
grown_between low high (Some s) x h k b = record {
  low_least = omega (arith, ints, clamps, b.low_least);
  low_greatest = omega (arith, ints, clamps, b.low_greatest);
  high_least = omega (arith, ints, clamps, b.high_least);
  high_greatest = omega (arith, ints, clamps, b.high_greatest);
}

-- the numbers that f gives are between two numbers
abbrev pub GivesBetween : {A : Type 0} → ℤ → ℤ → (ℕ → A → Option ℤ) → Type 0
GivesBetween {A} low high f = (j : ℕ) (a : A) (x : ℤ) → f j a ≡ Some x → (low ≤ℤ x) × (x ≤ℤ high)

joined_between : (low high : ℤ) (s : Option Span) (o : Option ℤ) → ((x : ℤ) → o ≡ Some x → (low ≤ℤ x) × (x ≤ℤ high)) → AreBetween low high s → AreBetween low high (joined_span s o)
joined_between low high s None h b = b
joined_between low high s (Some x) h b = grown_between low high s x (h x refl).0 (h x refl).1 b

pub span_between : {A : Type 0} (low high : ℤ) (f : ℕ → A → Option ℤ) (xs : List A) → GivesBetween low high f → AreBetween low high (span_of f xs)
span_between low high f xs h = walk_keeps (λ j s x. joined_span s (f j x)) (AreBetween low high) (λ j s x b. joined_between low high s (f j x) (h j x) b) 0 None xs tt

half_between : (low high z : ℤ) → (low +ℤ low) ≤ℤ z → z ≤ℤ (high +ℤ high) → (low ≤ℤ floor_over z 2) × (floor_over z 2 ≤ℤ high)
half_between low high z h k =
    let a = floor_at_most z 2 (omega arith) in
    let b = floor_above z 2 (omega arith) in
    (omega (arith, ints, a, b), omega (arith, ints, a, b))

pub lift_between : (low high : ℤ) (s : Option Span) → low ≤ℤ pos 33 → pos 33 ≤ℤ high → AreBetween low high s → ((pos 33 -ℤ high) ≤ℤ lift s) × (lift s ≤ℤ (pos 33 -ℤ low))
lift_between low high None h k b = (omega (arith, ints), omega (arith, ints))
lift_between low high (Some s) h k b =
    let m = half_between low high (s.least +ℤ s.greatest) (omega (arith, ints, b.low_least, b.low_greatest)) (omega (arith, ints, b.high_least, b.high_greatest)) in
    (omega (arith, ints, m.1), omega (arith, ints, m.0))

pub wider : (low high least most : ℤ) (s : Option Span) → least ≤ℤ low → high ≤ℤ most → AreBetween low high s → AreBetween least most s
wider low high least most None h k b = tt
wider low high least most (Some s) h k b = record {
  low_least = omega (arith, ints, b.low_least);
  low_greatest = omega (arith, ints, b.low_greatest);
  high_least = omega (arith, ints, b.high_least);
  high_greatest = omega (arith, ints, b.high_greatest);
}
