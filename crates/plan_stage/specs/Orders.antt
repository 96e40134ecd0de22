-- The order in which the realizations of a node are solved: each of them is near to the one before.
-- Source: the nearest neighbour rule, Rosenkrantz, Stearns and Lewis 1977.
use Rattle.std.specs.Prelude.{ℕ, zero, suc, ◌+◌, ℤ, ◌-ℤ◌, nat_le, nat_lt, unsigned_abs, List, [], ◌∷◌, ◌++◌, length, map, get_or, if◌then◌else◌}
use Rattle.std.specs.List.{list_all, remove}
use Rattle.problem.specs.declared.parts.Node as nodes
use Rattle.problem.specs.declared.parts.ProblemParts.{ProblemParts}

-- how far two lists of values are apart: their absolute differences, summed
abbrev pub distance : List ℤ → List ℤ → ℕ
distance [] ys = 0
distance (x ∷ xs) [] = 0
distance (x ∷ xs) (y ∷ ys) = unsigned_abs (x -ℤ y) + distance xs ys

-- the place of the least number, of equals the first
abbrev pub place_of_least : List ℕ → ℕ
place_of_least [] = 0
place_of_least (d ∷ ds) = if list_all (λ e. nat_le d e) ds then 0 else suc (place_of_least ds)

-- how far the values of some realizations, by their numbers, are from these
abbrev pub distances : List (List ℤ) → List ℤ → List ℕ → List ℕ
distances values from left = map (λ i. distance from (get_or values i [])) left

-- so many realizations: the first at this place of those that are left, then each the nearest that is left to the one before
abbrev pub near_by : List (List ℤ) → ℕ → ℕ → List ℕ → List ℕ
near_by values zero place left = []
near_by values (suc k) place left =
    let next : ℕ = get_or left place 0 in
    let others : List ℕ = remove left place in
    next ∷ near_by values k (place_of_least (distances values (get_or values next []) others)) others

-- the numbers below this one
abbrev pub numbers : ℕ → List ℕ
numbers zero = []
numbers (suc n) = numbers n ++ n ∷ []

-- the numbers of the realizations with these values, from the first realization on
unfoldable pub nearest_order : List (List ℤ) → List ℕ
nearest_order values = near_by values (length values) 0 (numbers (length values))

-- the order in which they are solved: five or fewer as they are listed
unfoldable pub solving_order : List (List ℤ) → List ℕ
solving_order values = if nat_lt (length values) 6 then numbers (length values) else nearest_order values

-- for each node
abbrev pub solving_orders : ProblemParts → List (List ℕ)
solving_orders parts = map (λ (n : nodes.Node). solving_order n.values) parts.nodes

-- the values of the node m, a list for each realization
abbrev pub node_values_at : ProblemParts → ℕ → List (List ℤ)
node_values_at parts m = get_or (map (λ (n : nodes.Node). n.values) parts.nodes) m []
