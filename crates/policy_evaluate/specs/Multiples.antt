-- The least common multiple of numbers.
use Rattle.std.specs.Prelude.{ℕ, zero, suc, ◌*◌, ◌/◌, ◌%◌, List, [], ◌∷◌}

-- Euclid's steps, at most so many
abbrev pub gcd_within : ℕ → ℕ → ℕ → ℕ
gcd_within zero a b = a
gcd_within (suc n) a zero = a
gcd_within (suc n) a (suc b) = gcd_within n (suc b) (a % suc b)

-- the greatest common divisor; the second number falls with each step
unfoldable pub gcd : ℕ → ℕ → ℕ
gcd a b = gcd_within (suc b) a b

-- the least common multiple
abbrev pub lcm : ℕ → ℕ → ℕ
lcm a b = a / gcd a b * b

-- the least common multiple of a number and these
abbrev pub lcm_all : ℕ → List ℕ → ℕ
lcm_all a [] = a
lcm_all a (b ∷ bs) = lcm_all (lcm a b) bs
