-- The values of the root's successors at the initial state.
use Rattle.std.specs.Prelude.{ℕ, ℤ, nat_eq, if◌then◌else◌, List, [], ◌∷◌, map}
use Rattle.std.specs.Int.{int_max}
use Rattle.problem.specs.Validated.{Validated, initial_values}
use Rattle.theory.specs.declared.cut.Cut.{Cut}
use Rattle.theory.specs.Bound.{value}

-- the greatest value of the cuts of each of the root's successors at the initial state, in the order of the successors
unfoldable pub root_values : Validated → List (List Cut) → List ℤ
root_values p pools = map (λ (m : ℕ). value pools m (initial_values p.parts)) p.parts.root

-- the value of the node m once the node k has one cut more, of this value
abbrev pub raised_one : ℕ → ℤ → ℕ → ℤ → ℤ
raised_one k v m x = if nat_eq m k then int_max x v else x

-- the values of some nodes, raised in the same way
abbrev pub raised_values : ℕ → ℤ → List ℕ → List ℤ → List ℤ
raised_values k v [] xs = xs
raised_values k v (m ∷ ms) [] = []
raised_values k v (m ∷ ms) (x ∷ xs) = raised_one k v m x ∷ raised_values k v ms xs
