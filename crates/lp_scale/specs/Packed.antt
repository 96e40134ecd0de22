-- The digits of slopes that stand side by side.
use Rattle.std.specs.Prelude.{ℕ, ℤ, pos, ◌+ℤ◌, ◌≤ℤ◌, List, All, Option, if◌then◌else◌}
use Rattle.std.specs.Int.{int_max}
use Rattle.std.specs.Ordering.{int_eq}
use Rattle.base_num.specs.Sums.{entry}
use Rattle.lp_program.specs.declared.packed.Out.{Out}
use Rattle.lp_table.specs.Numbers.{bits_of}
use Rattle.lp_scale.specs.declared.spans.Span.{Span}
use Rattle.lp_scale.specs.Walks.{walk}
use Rattle.lp_scale.specs.Spans.{grown}

-- a state's number, and the exponent of its column with the digits of 256, which the scale of terms has more
abbrev pub lift_of : List ℤ → Out → ℕ × ℤ
lift_of fs o = (o.state, entry fs o.decision +ℤ pos 8)

-- the greater of a number and a slope's binary digits with a lift, unless the slope is 0
abbrev pub greater_digits : ℤ → ℤ → ℤ → ℤ
greater_digits most lift slope = if int_eq slope (pos 0) then most else int_max most (lift +ℤ pos (bits_of slope))

-- the most binary digits of some slopes, 0 where all are 0
abbrev pub most_digits : List (ℕ × ℤ) → List ℤ → ℤ
most_digits lifts slopes = walk (λ k most (l : ℕ × ℤ). greater_digits most l.1 (entry slopes l.0)) 0 (pos 0) lifts

-- the span with one number more, unless that is 0
abbrev pub grown_above_zero : Option Span → ℤ → Option Span
grown_above_zero s x = if int_eq x (pos 0) then s else grown s x

-- from 0 to 520
abbrev pub AreLifts : List (ℕ × ℤ) → Type 0
AreLifts lifts = All (λ (l : ℕ × ℤ). (pos 0 ≤ℤ l.1) × (l.1 ≤ℤ pos 520)) lifts
