-- The value of a node's cuts at a state, and the bound of pools.
-- Source: Pereira and Pinto 1991.
use Rattle.std.specs.Prelude.{ℕ, ◌<◌, ℤ, pos, ◌+ℤ◌, ◌*ℤ◌, List, [], ◌∷◌, sum}
use Rattle.std.specs.Int.{int_max}
use Rattle.base_num.specs.Sums.{total, dot, floor_over}
use Rattle.theory.specs.declared.cut.Cut.{Cut}
use Rattle.theory.specs.Fraction.{◌≤ᶠ◌}
use Rattle.theory.specs.Problem.{S, Successor, Problem, successor_weights}
use Rattle.theory.specs.Tree.{Forest, Policy}
use Rattle.theory.specs.Cost.{policy_cost}
use Rattle.theory.specs.Pools.{pool}

-- alpha + beta·x
abbrev pub value_of_cut : Cut → List ℤ → ℤ
value_of_cut c x = c.alpha +ℤ dot c.beta x

-- the greatest value of the cuts, and 0 where there is none
abbrev pub greatest_cut_value : List Cut → List ℤ → ℤ
greatest_cut_value [] x = pos 0
greatest_cut_value (c ∷ []) x = value_of_cut c x
greatest_cut_value (c ∷ (d ∷ cs)) x = int_max (value_of_cut c x) (greatest_cut_value (d ∷ cs) x)

-- Value: the greatest alpha + beta·x over the cuts of the node m
abbrev pub value : List (List Cut) → ℕ → List ℤ → ℤ
value pools m x = greatest_cut_value (pool pools m) x

-- the sum of the weights times the values
abbrev pub weighted_value : List (List Cut) → List ℤ → List Successor → ℤ
weighted_value pools x ls = total (λ (l : Successor). pos l.weight *ℤ value pools l.node x) ls

-- Bound: the average of the values of the root's successors at the initial state, rounded down
abbrev pub bound : Problem → List (List Cut) → ℤ
bound p pools = floor_over (weighted_value pools p.initial p.root) (sum (successor_weights p.root))

-- b / S is at most the cost of each policy, in any units
abbrev pub Under : Problem → ℤ → Type 0
Under p b = (units : ℕ) (f : Forest) → 0 < units → Policy p units f → record { up = b; under = S } ≤ᶠ policy_cost p units f
