-- The contract of a sum that carries its size.
use Rattle.std.specs.Prelude.{◌≡◌, ℕ, ◌^◌, ◌≤◌, ℤ, Option, MatchOption}
use Rattle.plan_answer.specs.declared.sized_sum.SizedSum.{SizedSum}

-- the value and its size; none exactly where the size exceeds 2^127 - 1
abbrev pub Sums : Option SizedSum → ℤ → ℕ → Type 0
Sums result value size = MatchOption result (2 ^ 127 ≤ size) (λ sum. (sum.value ≡ value) × (sum.size.total ≡ size))
