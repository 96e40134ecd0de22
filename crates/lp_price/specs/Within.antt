-- Sums of products that stay small.
use Rattle.std.specs.Prelude.{ℕ, ◌^◌, ◌*◌, ◌≤◌, ℤ, nat_abs, List, All}

-- each of absolute value at most `most` times 2^100
abbrev pub AreWithin : ℕ → List ℤ → Type 0
AreWithin most rests = All (λ z. nat_abs z ≤ most * 2 ^ 100) rests
