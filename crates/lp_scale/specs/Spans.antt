-- The least and the greatest of some numbers.
use Rattle.std.specs.Prelude.{ℕ, ℤ, pos, ◌+ℤ◌, ◌-ℤ◌, ◌≤ℤ◌, List, Option, Some, None, IfSome}
use Rattle.std.specs.Int.{int_min, int_max}
use Rattle.base_num.specs.Sums.{floor_over}
use Rattle.lp_scale.specs.declared.spans.Span.{Span}
use Rattle.lp_scale.specs.Walks.{walk}

-- with one number more
abbrev pub grown : Option Span → ℤ → Option Span
grown None x = Some (record { least = x; greatest = x })
grown (Some s) x = Some (record { least = int_min s.least x; greatest = int_max s.greatest x })

-- with one number more, if there is one
abbrev pub joined_span : Option Span → Option ℤ → Option Span
joined_span s None = s
joined_span s (Some x) = grown s x

-- the span of the numbers that f gives along a list; none where it gives none
abbrev pub span_of : {A : Type 0} → (ℕ → A → Option ℤ) → List A → Option Span
span_of f xs = walk (λ j s x. joined_span s (f j x)) 0 None xs

-- half the sum of the least and the greatest, rounded down
abbrev pub middle : Span → ℤ
middle s = floor_over (s.least +ℤ s.greatest) 2

-- 33 less the middle: what brings numbers of so many binary digits near 33; 0 where there is none
abbrev pub lift : Option Span → ℤ
lift None = pos 0
lift (Some s) = pos 33 -ℤ middle s

pub record IsBetween (low high : ℤ) (s : Span) : Type 0 where
  pub low_least : low ≤ℤ s.least
  pub low_greatest : low ≤ℤ s.greatest
  pub high_least : s.least ≤ℤ high
  pub high_greatest : s.greatest ≤ℤ high

-- both are between two numbers
abbrev pub AreBetween : ℤ → ℤ → Option Span → Type 0
AreBetween low high s = IfSome s (IsBetween low high)
