-- Which of two numbers is the lesser and which the greater.
use Rattle.std.proofs.Common.{◌≡◌, ◌+◌, ℤ, ◌≤ℤ◌, ⊎_elim, arith}
use Rattle.std.specs.Int.{int_min, int_max}
use Rattle.std.proofs.lemmas.Bool.{cases_lt}
use Rattle.std.proofs.lemmas.Int.{ints, clamps}
use borrow.Author.Differences.{up, down, at_most_in}

-- one of two numbers is at most the other
pub in_order : {A : Type 0} (l u : ℤ) → (l ≤ℤ u → A) → (u ≤ℤ l → A) → A
in_order l u f g = ⊎_elim (λ h. f (at_most_in l u (omega (arith, h)))) (λ h. g (at_most_in u l h)) (cases_lt (up l + down u) (up u + down l))

pub lesser : (a b : ℤ) → a ≤ℤ b → int_min a b ≡ a
lesser a b h = omega (arith, ints, clamps)

pub later : (a b : ℤ) → b ≤ℤ a → int_min a b ≡ b
later a b h = omega (arith, ints, clamps)

pub greater : (a b : ℤ) → a ≤ℤ b → int_max a b ≡ b
greater a b h = omega (arith, ints, clamps)

pub former : (a b : ℤ) → b ≤ℤ a → int_max a b ≡ a
former a b h = omega (arith, ints, clamps)
