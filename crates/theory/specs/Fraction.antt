-- Fractions, as pairs of whole numbers.
use Rattle.std.specs.Prelude.{ℕ, ◌*◌, ℤ, pos, ◌+ℤ◌, ◌*ℤ◌, ◌≤ℤ◌, List, [], ◌∷◌}

pub record Fraction : Type 0 where
  pub up : ℤ
  pub under : ℕ

-- a/b ≤ c/d where a*d ≤ c*b
infix 50 ◌≤ᶠ◌
pub record ◌≤ᶠ◌ (f g : Fraction) : Type 0 where
  pub crossed : (f.up *ℤ pos g.under) ≤ℤ (g.up *ℤ pos f.under)

abbrev pub nothing : Fraction
nothing = record { up = pos 0; under = 1 }

abbrev pub plus : Fraction → Fraction → Fraction
plus f g = record { up = f.up *ℤ pos g.under +ℤ g.up *ℤ pos f.under; under = f.under * g.under }

abbrev pub times : ℕ → Fraction → Fraction
times w f = record { up = pos w *ℤ f.up; under = f.under }

abbrev pub over : Fraction → ℕ → Fraction
over f q = record { up = f.up; under = f.under * q }

-- the sum of the fractions times the weights
abbrev pub weighted : List ℕ → List Fraction → Fraction
weighted [] fs = nothing
weighted (w ∷ ws) [] = nothing
weighted (w ∷ ws) (f ∷ fs) = plus (times w f) (weighted ws fs)
