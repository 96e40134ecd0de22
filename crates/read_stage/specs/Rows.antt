-- Rows, and the terms in them.
use Rattle.std.specs.Prelude.{ℕ, ◌+◌, ℤ, pos, List, [], ◌∷◌, map, if◌then◌else◌}
use Rattle.std.specs.Ordering.{int_eq}
use Rattle.base_num.specs.Sums.{entry}
use Rattle.problem.specs.declared.parts.Row.{Row}
use Rattle.read_stage.specs.declared.variables.Variables.{Variables}
use Rattle.read_stage.specs.declared.sides.RowSides.{RowSides}

-- the coefficients of some of the variables
unfoldable pub picked_coefficients : List ℕ → List ℤ → List ℤ
picked_coefficients vs coefficients = map (entry coefficients) vs

-- the entries that are not 0 with their numbers, where the first entry's number is k
abbrev pub terms_from : ℕ → List ℤ → List (ℕ × ℤ)
terms_from k [] = []
terms_from k (x ∷ xs) = if int_eq x (pos 0) then terms_from (k + 1) xs else (k, x) ∷ terms_from (k + 1) xs

-- one row between the sides
unfoldable pub row_of : Variables → List ℤ → RowSides → Row
row_of vars coefficients sides = record {
  low = sides.low;
  high = sides.high;
  decisions = terms_from 0 (picked_coefficients vars.decisions coefficients);
  states = terms_from 0 (picked_coefficients vars.uses.incoming coefficients);
  randoms = terms_from 0 (picked_coefficients vars.uses.randoms coefficients);
}
