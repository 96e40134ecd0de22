-- The comparison of the sides of boxes, and of the states that leave a node.
use Rattle.std.proofs.Common.{◌≡◌, ℤ, ◌&&◌, List, [], ◌∷◌, int_le, refl, ap}
use Rattle.std.specs.List.{list_all, zip}
use Rattle.problem.specs.Validated.{at_most}

-- as pairs that rise
pub at_most_zip : (xs ys : List ℤ) → at_most xs ys ≡ list_all (λ (p : ℤ × ℤ). int_le p.0 p.1) (zip xs ys)
at_most_zip [] ys = refl
at_most_zip (x ∷ xs) [] = refl
at_most_zip (x ∷ xs) (y ∷ ys) = ap (λ b. int_le x y && b) (at_most_zip xs ys)
