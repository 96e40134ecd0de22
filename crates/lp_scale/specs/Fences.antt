-- Sizes of slopes by which a cut is known to leave the span of tops as it is.
use Rattle.std.specs.Prelude.{◌≡◌, ℕ, ◌<◌, ◌≤◌, ◌^◌, ℤ, pos, ◌-ℤ◌, ◌≤ℤ◌, List, length, get_or, All, Option, nat_abs}
use Rattle.std.specs.Int.{int_min, int_max}
use Rattle.base_num.specs.Sums.{entry}
use Rattle.lp_scale.specs.declared.spans.Span.{Span}
use Rattle.lp_scale.specs.Packed.{most_digits, grown_above_zero}

-- a number of digits, taken to be from 0 to 57, which no slope reaches
abbrev pub near : ℤ → ℕ
near z = nat_abs (int_max (int_min z (pos 57)) (pos 0))

-- every slope is below the limit of its state
abbrev pub AreBelowLimits : List ℕ → List ℤ → Type 0
AreBelowLimits limits slopes = (j : ℕ) → j < length slopes → nat_abs (entry slopes j) < get_or limits j 1

-- slopes below these limits have at most so many digits with the lifts of their states
abbrev pub AreLimits : ℤ → List (ℕ × ℤ) → List ℕ → Type 0
AreLimits most lifts limits = All (λ (l : ℕ × ℤ). get_or limits l.0 1 ≤ 2 ^ near (most -ℤ l.1)) lifts

-- where a state's slope is not below a size, the most digits of a cut are not below a number
abbrev pub ReachesDigits : List (ℕ × ℤ) → ℤ → ℕ → ℕ → Type 0
ReachesDigits lifts least state size = (slopes : List ℤ) → All (λ s. nat_abs s < 2 ^ 57) slopes → size ≤ nat_abs (entry slopes state) → least ≤ℤ most_digits lifts slopes

-- a cut whose slopes are below the limits, and that of a state is not below a size, leaves a span as it is
abbrev pub Keeps : List (ℕ × ℤ) → Option Span → List ℕ → ℕ → ℕ → Type 0
Keeps lifts span limits state size =
    (slopes : List ℤ) → All (λ s. nat_abs s < 2 ^ 57) slopes → AreBelowLimits limits slopes → size ≤ nat_abs (entry slopes state) → grown_above_zero span (most_digits lifts slopes) ≡ span
